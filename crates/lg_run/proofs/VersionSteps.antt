-- The versions of a dictionary: what is left of them while edits are made, and what comes of them.
use Rattle.std.proofs.Common.{◌≡◌, ℕ, zero, suc, ◌+◌, ◌≤◌, ◌<◌, Bool, true, false, cond, List, [], ◌∷◌, length, map, drop, get_or, ◌⊎◌, inl, inr, Option, None, Some, slice_get, is_none, refl, sym, ap, subst, ◌∙◌, arith}
use Rattle.std.proofs.lemmas.Bool.{cases_lt}
use Rattle.std.proofs.lemmas.List.{length-map, drop_more}
use Rattle.lg_dict.specs.Dictionary.{Dictionary}
use Rattle.lg_edit.specs.Edits.{accept, edited}
use Rattle.lg_export.specs.Exports.{quoted_word}
use Rattle.lg_export.specs.Spelling.{dictionary_spelled}
use Rattle.lg_script.specs.declared.command.Command.{Command}
use Rattle.lg_script.specs.Bounds.{IsInBounds, AreInBounds}
use Rattle.lg_script.specs.Commands.{CommandView, parses, lists, goes_on, makes, asks, command_view}
use Rattle.lg_run.specs.Inputs.{ExportGiven, HasSome, IsOne, accepted, refused, versions, ExportReads, too_few, quoted, spelled}
use Rattle.lg_run.specs.Lines.{versions_line, quote_line}
use Rattle.lg_run.specs.Versions.{Reaches}
use Rattle.lg_run.proofs.EditSums.{next_left, next_there}

abbrev Versions : Type 0
Versions = List Dictionary

-- the first version is the dictionary itself
abbrev Begins : Dictionary → Versions → Type 0
Begins dict all = (more : Versions) × (all ≡ dict ∷ more)

begins_by : (b : Bool) (dict : Dictionary) (made left : Versions) → Begins dict left → Begins dict (cond b (dict ∷ made) left)
begins_by true dict made left h = (made, refl)
begins_by false dict made left h = h

versions_begin : (dict : Dictionary) (commands : List CommandView) → Begins dict (versions dict commands)
versions_begin dict [] = ([], refl)
versions_begin dict (parses text ∷ commands) = versions_begin dict commands
versions_begin dict (lists from want text ∷ commands) = versions_begin dict commands
versions_begin dict (goes_on ∷ commands) = versions_begin dict commands
versions_begin dict (asks ∷ commands) = versions_begin dict commands
versions_begin dict (makes edit ∷ commands) = begins_by (is_none (accept dict edit)) dict (versions (edited dict edit) commands) (versions dict commands) (versions_begin dict commands)

-- ---- while edits are made

last_length : (xs : Versions) (i : ℕ) (x : Dictionary) → x ∷ [] ≡ drop i xs → length xs ≡ suc i
last_length [] zero x e = absurd (cc e)
last_length [] (suc i) x e = absurd (cc e)
last_length (y ∷ ys) zero x e = let none : ys ≡ [] = cc in ap (λ (l : Versions). suc (length l)) none
last_length (y ∷ ys) (suc i) x e = ap suc (last_length ys i x e)

-- after so many edits this version and those behind it are left
module _ (all : Versions) (count : ℕ) (dict : Dictionary) (commands : List CommandView) (left : drop count all ≡ versions dict commands) where
  pub reached_here : slice_get all count ≡ Some dict
  reached_here = let begins = versions_begin dict commands in next_there all count dict begins.0 (sym begins.1 ∙ sym left)

  -- so many were asked for
  pub reaches_enough : (most : ℕ) → count ≡ most → Reaches all most count dict
  reaches_enough most e = record { few = omega (arith, e); reached = reached_here; last = λ less. absurd (omega (arith, e, less)) }

  -- no command is left
  pub reaches_end : (most : ℕ) → count ≤ most → commands ≡ [] → Reaches all most count dict
  reaches_end most few none = record { few = few; reached = reached_here; last = λ less. last_length all count dict (sym (left ∙ ap (versions dict) none)) }

-- one more command is looked at
pub left_next : (all : Versions) (count : ℕ) (made : Bool) (before after : Dictionary) (command : CommandView) (commands : List CommandView) → drop count all ≡ versions before (command ∷ commands)
    → versions before (command ∷ commands) ≡ cond made (before ∷ versions after commands) (versions after commands) → drop (cond made (count + 1) count) all ≡ versions after commands
left_next all count true before after command commands left made =
    let one : count + 1 ≡ suc count = omega arith in
    ap (λ (n : ℕ). drop n all) one ∙ sym (next_left all count before (versions after commands) (sym made ∙ sym left))
left_next all count false before after command commands left made = left ∙ made

pub next_command : (commands : List Command) (i : ℕ) (item : Command) → i < length commands → item ≡ get_or commands i item → map command_view (drop i commands) ≡ command_view item ∷ map command_view (drop (i + 1) commands)
next_command commands i item within is = ap (map command_view) (drop_more commands i item within ∙ ap (λ (n : Command). n ∷ drop (i + 1) commands) (sym is))

pub few_still : (made : Bool) (count most : ℕ) → count ≤ most → (count ≡ most → ⊥) → cond made (count + 1) count ≤ most
few_still true count most few less = omega (arith, few, less)
few_still false count most few less = few

mapped : (commands : List Command) (i : ℕ) (item : Command) → get_or (map command_view commands) i (command_view item) ≡ command_view (get_or commands i item)
mapped [] zero item = refl
mapped [] (suc i) item = refl
mapped (first ∷ commands) zero item = refl
mapped (first ∷ commands) (suc i) item = mapped commands i item

pub bounds_at : (commands : List Command) (i : ℕ) (item : Command) → i < length commands → item ≡ get_or commands i item → AreInBounds (map command_view commands) → IsInBounds (command_view item)
bounds_at commands i item within is bounds =
    subst IsInBounds (mapped commands i item ∙ ap command_view (sym is)) (bounds.each i (command_view item) (omega (arith, within, length-map commands command_view)))

-- ---- what comes of them

some_at : (xs : Versions) (i : ℕ) → i < length xs → (x : Dictionary) × (slice_get xs i ≡ Some x)
some_at [] i h = absurd (omega (arith, h))
some_at (x ∷ xs) zero h = (x, refl)
some_at (x ∷ xs) (suc i) h = some_at xs i (omega (arith, h))

within : (xs : Versions) (i : ℕ) (x : Dictionary) → slice_get xs i ≡ Some x → i < length xs
within [] i x e = absurd (cc e)
within (y ∷ ys) zero x e = omega arith
within (y ∷ ys) (suc i) x e = let less = within ys i x e in omega (arith, less)

same_version : (xs : Versions) (i : ℕ) (x y : Dictionary) → slice_get xs i ≡ Some x → slice_get xs i ≡ Some y → x ≡ y
same_version xs i x y p q = let same : Some x ≡ Some y = sym p ∙ q in cc

same_word : (x y : Dictionary) (a b : List ℕ) → x ≡ y → quoted_word x ≡ Some a → quoted_word y ≡ Some b → a ≡ b
same_word x y a b e p q = let same : Some a ≡ Some b = sym p ∙ ap quoted_word e ∙ q in cc

no_word : (x y : Dictionary) (a : List ℕ) → x ≡ y → quoted_word x ≡ Some a → quoted_word y ≡ None → ⊥
no_word x y a e p q = let same : Some a ≡ None = sym p ∙ ap quoted_word e ∙ q in cc

module _ (dictionary script : List ℕ) (n : ℕ) (dict : Dictionary) (commands : List CommandView) where
  abbrev all : Versions
  all = versions dict commands

  spelled_or_not : (version : Dictionary) → slice_get all n ≡ Some version → (word : Option (List ℕ)) → quoted_word version ≡ word → HasSome (ExportReads dictionary script n dict commands)
  spelled_or_not version is None e = ([], accepted (ExportGiven (dictionary_spelled version)), spelled version is e)
  spelled_or_not version is (Some word) e = ([], refused (quote_line dictionary word), quoted version word is e)

  pub some_version : HasSome (ExportReads dictionary script n dict commands)
  some_version = counted (versions_begin dict commands) (cases_lt n (length all)) where
    counted : Begins dict all → (n < length all) ⊎ (length all ≤ n) → HasSome (ExportReads dictionary script n dict commands)
    counted begins (inl h) = let x = some_at all n h in spelled_or_not x.0 x.1 (quoted_word x.0) refl
    counted begins (inr h) = let count = length begins.0 in let same = ap length begins.1 in ([], refused (versions_line script count), too_few count same (omega (arith, same, h)))

  pub one_version : IsOne (ExportReads dictionary script n dict commands)
  one_version _ _ _ _ (too_few k p h) (too_few m q l) = (refl, ap (λ (c : ℕ). refused (versions_line script c)) (omega (arith, p, q)))
  one_version _ _ _ _ (too_few k p h) (quoted version word is q) = absurd (let less = within all n version is in omega (arith, p, h, less))
  one_version _ _ _ _ (too_few k p h) (spelled version is q) = absurd (let less = within all n version is in omega (arith, p, h, less))
  one_version _ _ _ _ (quoted version word is q) (too_few k p h) = absurd (let less = within all n version is in omega (arith, p, h, less))
  one_version _ _ _ _ (spelled version is q) (too_few k p h) = absurd (let less = within all n version is in omega (arith, p, h, less))
  one_version _ _ _ _ (quoted version word is p) (quoted other said that q) = (refl, ap (λ (w : List ℕ). refused (quote_line dictionary w)) (same_word version other word said (same_version all n version other is that) p q))
  one_version _ _ _ _ (quoted version word is p) (spelled other that q) = absurd (no_word version other word (same_version all n version other is that) p q)
  one_version _ _ _ _ (spelled version is p) (quoted other word that q) = absurd (no_word other version word (same_version all n other version that is) q p)
  one_version _ _ _ _ (spelled version is p) (spelled other that q) = (refl, ap (λ (d : Dictionary). accepted (ExportGiven (dictionary_spelled d))) (same_version all n version other is that))

-- ---- the commands of the first script
