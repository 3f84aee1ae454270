-- Lengths of words and of their stems, and more of them.
use Rattle.std.proofs.Common.{◌≡◌, ◌≢◌, ℕ, List, [], ◌∷◌, ◌++◌, Bool, true, false, ◌||◌, if◌then◌else◌, length, nat_eq, Contains, inl, inr, true≢false, refl, sym, ap, subst, ◌∙◌}
use Rattle.std.proofs.lemmas.List.Folds.{list_any-append}
use Rattle.std.proofs.lemmas.List.Elements.{Contains-push_cases}
use Rattle.std.specs.Cmp.{nat_eq_equiv}
use Rattle.indexmap.specs.IndexSet.{insert_key}
use Rattle.lg_dict.specs.Lengths.{has_length, HasLengths}
use Rattle.lg_dict.specs.Subscripts.{stem_of}

or_left : (a b : Bool) → a ≡ true → (a || b) ≡ true
or_left a b h = ap (λ t. t || b) h

or_right : (a b : Bool) → b ≡ true → (a || b) ≡ true
or_right true b h = refl
or_right false b h = h

module _ (lengths : List ℕ) (more : ℕ) where
  insert_by : (b : Bool) → has_length lengths more ≡ b → (n : ℕ) → has_length lengths n ≡ true → has_length (insert_key nat_eq lengths more) n ≡ true
  insert_by true is n h = ap (λ b. has_length (if b then lengths else lengths ++ more ∷ []) n) is ∙ h
  insert_by false is n h =
      ap (λ b. has_length (if b then lengths else lengths ++ more ∷ []) n) is ∙ list_any-append (nat_eq n) lengths (more ∷ []) ∙ or_left (has_length lengths n) (has_length (more ∷ []) n) h

  pub insert_keeps : (n : ℕ) → has_length lengths n ≡ true → has_length (insert_key nat_eq lengths more) n ≡ true
  insert_keeps n h = insert_by (has_length lengths more) refl n h

  has_by : (b : Bool) → has_length lengths more ≡ b → has_length (insert_key nat_eq lengths more) more ≡ true
  has_by true is = insert_keeps more is
  has_by false is =
      ap (λ b. has_length (if b then lengths else lengths ++ more ∷ []) more) is ∙ list_any-append (nat_eq more) lengths (more ∷ [])
      ∙ or_right (has_length lengths more) (has_length (more ∷ []) more) (or_left (nat_eq more more) false (nat_eq_equiv.refl more))

  pub insert_has : has_length (insert_key nat_eq lengths more) more ≡ true
  insert_has = has_by (has_length lengths more) refl

-- with more lengths a word's are still there
pub still_has : (old new word : List ℕ) → ((n : ℕ) → has_length old n ≡ true → has_length new n ≡ true) → HasLengths old word → HasLengths new word
still_has old new word kept has = record { whole = kept (length word) has.whole; stem = kept (length (stem_of word)) has.stem }

-- and those of one word more
pub has_more : (old new : List ℕ) (words : List (List ℕ)) (word : List ℕ) → ((n : ℕ) → has_length old n ≡ true → has_length new n ≡ true) → HasLengths new word
    → ((w : List ℕ) → Contains words w → HasLengths old w) → (w : List ℕ) → Contains (words ++ word ∷ []) w → HasLengths new w
has_more old new words word kept here so_far w h = elim (Contains-push_cases words word w h) [
  | inl before ↦ still_has old new w kept (so_far w before)
  | inr same ↦ subst (HasLengths new) same here
]

-- where a length is missing, the word is none of it
other_length : (lengths : List ℕ) (n m : ℕ) → has_length lengths n ≡ false → has_length lengths m ≡ true → m ≢ n
other_length lengths n m missing there same = true≢false (sym there ∙ ap (has_length lengths) same ∙ missing)

pub no_word : (lengths word : List ℕ) (n : ℕ) → has_length lengths n ≡ false → HasLengths lengths word → (length word ≢ n) × (length (stem_of word) ≢ n)
no_word lengths word n missing has = (other_length lengths n (length word) missing has.whole, other_length lengths n (length (stem_of word)) missing has.stem)
