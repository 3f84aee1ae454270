-- A dictionary that is brought up to a later version.
use Rattle.std.proofs.Common.{◌≡◌, ℕ, zero, suc, ◌+◌, ◌-◌, ◌≤◌, ◌<◌, List, [], ◌∷◌, ◌++◌, length, take, drop, get_or, Some, refl, ap, sym, ◌∙◌, arith}
use Rattle.std.proofs.lemmas.List.{take_more}
use Rattle.lg_gram.specs.declared.reply.Place.{Place}
use Rattle.lg_dict.specs.Dictionary.{Dictionary}
use Rattle.lg_edit.specs.Edits.{EditView, accept, after_edit}
use Rattle.lg_gram.specs.declared.edit.EditRefusal.{EditRefusal}
use Rattle.lg_script.specs.Commands.{CommandView}
use Rattle.lg_script.specs.Histories.{command_at, after_command, dictionary_after, version_of}

pub after_append : (scripts : List (List CommandView)) (dict : Dictionary) (first then : List Place)
    → dictionary_after scripts dict (first ++ then) ≡ dictionary_after scripts (dictionary_after scripts dict first) then
after_append scripts dict [] then = refl
after_append scripts dict (p ∷ ps) then = after_append scripts (after_command dict (command_at scripts p)) ps then

-- an edit that is refused changes nothing
pub refused_changes_nothing : (dict : Dictionary) (edit : EditView) (cause : EditRefusal) → accept dict edit ≡ Some cause → after_edit dict edit ≡ dict
refused_changes_nothing dict edit cause is = rw is refl

abbrev no_places : List Place
no_places = []

take_nil : (n : ℕ) → no_places ≡ take n no_places
take_nil zero = refl
take_nil (suc n) = refl

-- the places between two versions
cut : (from to : ℕ) (ps : List Place) → from ≤ to → take to ps ≡ take from ps ++ take (to - from) (drop from ps)
cut zero to ps le = let all : to ≡ to - 0 = omega arith in ap (λ (n : ℕ). take n ps) all
cut (suc from) zero ps le = absurd (omega (arith, le))
cut (suc from) (suc to) [] le = take_nil (suc to - suc from)
cut (suc from) (suc to) (p ∷ ps) le =
    let same : to - from ≡ suc to - suc from = omega arith in
    ap (λ (l : List Place). p ∷ l) (cut from to ps (omega (arith, le)) ∙ ap (λ (n : ℕ). take from ps ++ take n (drop from ps)) same)

pub version_later : (scripts : List (List CommandView)) (base dict : Dictionary) (journal : List Place) (from to : ℕ) → from ≤ to → dict ≡ version_of scripts base journal from
    → dictionary_after scripts dict (take (to - from) (drop from journal)) ≡ version_of scripts base journal to
version_later scripts base dict journal from to le is =
    ap (λ (d : Dictionary). dictionary_after scripts d (take (to - from) (drop from journal))) is
    ∙ sym (after_append scripts base (take from journal) (take (to - from) (drop from journal)))
    ∙ ap (dictionary_after scripts base) (sym (cut from to journal le))

-- one edit more
pub one_later : (scripts : List (List CommandView)) (base here next : Dictionary) (places : List Place) (i : ℕ) (p : Place) → i < length places → here ≡ dictionary_after scripts base (take i places)
    → next ≡ dictionary_after scripts here (get_or places i p ∷ []) → next ≡ dictionary_after scripts base (take (i + 1) places)
one_later scripts base here next places i p lt is step =
    step ∙ ap (λ (d : Dictionary). dictionary_after scripts d (get_or places i p ∷ [])) is ∙ sym (after_append scripts base (take i places) (get_or places i p ∷ []))
    ∙ ap (dictionary_after scripts base) (sym (take_more places i p lt))
