-- A word and a rest mean one command or one fault.
use Rattle.std.proofs.Common.{◌≡◌, ◌≢◌, ℕ, Bool, true, false, cond, List, [], ◌⊎◌, inl, inr, codes, Result, Ok, Err, refl, sym, ap, subst, ◌∙◌}
use Rattle.std.specs.Prelude.{◌==◌}
use Rattle.std.specs.Cmp.Lexicographic.{pointwise}
use Rattle.std.proofs.lemmas.Bool.Decides.{Decides-eqb}
use Rattle.std.proofs.lemmas.Slice.Eq.{slice_eq-Decides}
use Rattle.lg_lex.specs.declared.run.Separators.TheVariants.{Blanks}
use Rattle.lg_lex.specs.Runs.{AreInner}
use Rattle.lg_dictread.specs.declared.entry_text.EntryError.{EntryError}
use Rattle.lg_gram.specs.EntryViews.{EntryView}
use Rattle.lg_dictread.specs.EntryTexts.{EntryTextIs}
use Rattle.lg_edit.specs.Edits.{EditView, puts, sets, removes, DefinesWords, DefinesOneMacro}
use Rattle.lg_script.specs.Commands.{CommandView, parses, lists, goes_on, makes, asks, Fault, unknown_command, bad_number, bad_edit, IsListing, IsNoEdit, no_entry, other_items, IsUnknown, CommandIs, parse, list, no_list, more, more_than_more, version, more_than_version, set, no_set, macro, no_macro, del, no_del, unknown}
use Rattle.lg_script.proofs.Alone.{one_listing}

-- the command words
pub data Verb : Type 0 where
  parsing : Verb
  listing : Verb
  going_on : Verb
  asking : Verb
  putting : Verb
  setting : Verb
  removing : Verb
  no_verb : Verb

abbrev is_word : List ℕ → List ℕ → Bool
is_word w v = pointwise ◌==◌ w v

abbrev pub verb_of : List ℕ → Verb
verb_of w = cond (is_word w (codes "parse")) parsing (cond (is_word w (codes "list")) listing (cond (is_word w (codes "more")) going_on (cond (is_word w (codes "version")) asking
    (cond (is_word w (codes "set")) putting (cond (is_word w (codes "macro")) setting (cond (is_word w (codes "del")) removing no_verb))))))

abbrev pub Answer : Type 0
Answer = Result CommandView Fault

abbrev pub EditMeans : (EntryView → Type 0) → (EntryView → EditView) → List ℕ → Answer → Type 0
EditMeans Allowed made rest x = ((e : EntryView) × EntryTextIs rest (Ok e) × Allowed e × (x ≡ Ok (makes (made e)))) ⊎ (IsNoEdit Allowed rest × (x ≡ Err bad_edit))

-- alone on its line, but for the word
abbrev pub AloneMeans : CommandView → List ℕ → Answer → Type 0
AloneMeans c rest x = ((rest ≡ []) × (x ≡ Ok c)) ⊎ ((rest ≢ []) × (x ≡ Err unknown_command))

abbrev pub Means : Verb → List ℕ → Answer → Type 0
Means parsing rest x = x ≡ Ok (parses rest)
Means listing rest x = ((from : ℕ) × (want : ℕ) × (s : List ℕ) × IsListing rest from want s × (x ≡ Ok (lists from want s))) ⊎ (((from want : ℕ) (s : List ℕ) → IsListing rest from want s → ⊥) × (x ≡ Err bad_number))
Means going_on rest x = AloneMeans goes_on rest x
Means asking rest x = AloneMeans asks rest x
Means putting rest x = EditMeans DefinesWords puts rest x
Means setting rest x = EditMeans DefinesOneMacro sets rest x
Means removing rest x = ((rest ≢ []) × AreInner Blanks rest × (x ≡ Ok (makes (removes rest)))) ⊎ (((rest ≡ []) ⊎ (AreInner Blanks rest → ⊥)) × (x ≡ Err bad_edit))
Means no_verb rest x = x ≡ Err unknown_command

other_word : (w v : List ℕ) → w ≢ v → is_word w v ≡ false
other_word w v other = told (is_word w v) refl where
  told : (b : Bool) → is_word w v ≡ b → b ≡ false
  told true e = absurd (other ((slice_eq-Decides Decides-eqb w v (is_word w v) refl).0 e))
  told false e = refl

unknown_verb : (w : List ℕ) → IsUnknown w → verb_of w ≡ no_verb
unknown_verb w (a, b, c, d, e, f, g) = rw (
  other_word w (codes "parse") a,
  other_word w (codes "list") b,
  other_word w (codes "more") c,
  other_word w (codes "version") d,
  other_word w (codes "set") e,
  other_word w (codes "macro") f,
  other_word w (codes "del") g,
) refl

pub means : (w rest : List ℕ) (x : Answer) → CommandIs w rest x → Means (verb_of w) rest x
means w rest x (parse r) = refl
means w rest x (list r from want s h) = inl (from, want, s, h, refl)
means w rest x (no_list r h) = inr (h, refl)
means w rest x more = inl (refl, refl)
means w rest x (more_than_more r h) = inr (h, refl)
means w rest x version = inl (refl, refl)
means w rest x (more_than_version r h) = inr (h, refl)
means w rest x (set r e h k) = inl (e, h, k, refl)
means w rest x (no_set r h) = inr (h, refl)
means w rest x (macro r e h k) = inl (e, h, k, refl)
means w rest x (no_macro r h) = inr (h, refl)
means w rest x (del r h k) = inl (h, k, refl)
means w rest x (no_del r h) = inr (h, refl)
means w rest x (unknown v r h) = subst (λ (u : Verb). Means u r (Err unknown_command)) (sym (unknown_verb v h)) refl

one_alone : (c : CommandView) (rest : List ℕ) (x y : Answer) → AloneMeans c rest x → AloneMeans c rest y → x ≡ y
one_alone c rest x y (inl (a, h)) (inl (b, k)) = h ∙ sym k
one_alone c rest x y (inl (a, h)) (inr (b, k)) = absurd (b a)
one_alone c rest x y (inr (a, h)) (inl (b, k)) = absurd (a b)
one_alone c rest x y (inr (a, h)) (inr (b, k)) = h ∙ sym k

module _ (one_text : (bytes : List ℕ) (x y : Result EntryView EntryError) → EntryTextIs bytes x → EntryTextIs bytes y → x ≡ y) where
  same_entry : (rest : List ℕ) (e f : EntryView) → EntryTextIs rest (Ok e) → EntryTextIs rest (Ok f) → e ≡ f
  same_entry rest e f h k = let same : Ok e ≡ Ok f = one_text rest (Ok e) (Ok f) h k in cc

  no_edit : (Allowed : EntryView → Type 0) (rest : List ℕ) (e : EntryView) → EntryTextIs rest (Ok e) → Allowed e → IsNoEdit Allowed rest → ⊥
  no_edit Allowed rest e h a (no_entry error k) = let wrong : Ok e ≡ Err error = one_text rest (Ok e) (Err error) h k in cc
  no_edit Allowed rest e h a (other_items f k none) = none (subst Allowed (same_entry rest e f h k) a)

  one_edit : (Allowed : EntryView → Type 0) (made : EntryView → EditView) (rest : List ℕ) (x y : Answer) → EditMeans Allowed made rest x → EditMeans Allowed made rest y → x ≡ y
  one_edit Allowed made rest x y (inl (e, h, a, p)) (inl (f, k, b, q)) = p ∙ ap (λ (v : EntryView). Ok (makes (made v))) (same_entry rest e f h k) ∙ sym q
  one_edit Allowed made rest x y (inl (e, h, a, p)) (inr (k, q)) = absurd (no_edit Allowed rest e h a k)
  one_edit Allowed made rest x y (inr (h, p)) (inl (f, k, b, q)) = absurd (no_edit Allowed rest f k b h)
  one_edit Allowed made rest x y (inr (h, p)) (inr (k, q)) = p ∙ sym q

  one_meaning : (v : Verb) (rest : List ℕ) (x y : Answer) → Means v rest x → Means v rest y → x ≡ y
  one_meaning parsing rest x y h k = h ∙ sym k
  one_meaning listing rest x y (inl (from, want, s, h, p)) (inl (f, w, t, k, q)) = p ∙ ap (λ (c : CommandView). Ok c) (one_listing rest from want s f w t h k) ∙ sym q
  one_meaning listing rest x y (inl (from, want, s, h, p)) (inr (k, q)) = absurd (k from want s h)
  one_meaning listing rest x y (inr (h, p)) (inl (f, w, t, k, q)) = absurd (h f w t k)
  one_meaning listing rest x y (inr (h, p)) (inr (k, q)) = p ∙ sym q
  one_meaning going_on rest x y h k = one_alone goes_on rest x y h k
  one_meaning asking rest x y h k = one_alone asks rest x y h k
  one_meaning putting rest x y h k = one_edit DefinesWords puts rest x y h k
  one_meaning setting rest x y h k = one_edit DefinesOneMacro sets rest x y h k
  one_meaning removing rest x y (inl (a, h, p)) (inl (b, k, q)) = p ∙ sym q
  one_meaning removing rest x y (inl (a, h, p)) (inr (inl b, q)) = absurd (a b)
  one_meaning removing rest x y (inl (a, h, p)) (inr (inr b, q)) = absurd (b h)
  one_meaning removing rest x y (inr (inl a, p)) (inl (b, k, q)) = absurd (b a)
  one_meaning removing rest x y (inr (inr a, p)) (inl (b, k, q)) = absurd (a k)
  one_meaning removing rest x y (inr (a, p)) (inr (b, q)) = p ∙ sym q
  one_meaning no_verb rest x y h k = h ∙ sym k

  pub one_answer : (w rest : List ℕ) (x y : Answer) → CommandIs w rest x → CommandIs w rest y → x ≡ y
  one_answer w rest x y h k = one_meaning (verb_of w) rest x y (means w rest x h) (means w rest y k)
