-- Where the parts of a word are cut.
use Rattle.std.proofs.Common.{◌≡◌, ◌≢◌, ℕ, ◌+◌, ◌<◌, List, [], ◌∷◌, ◌++◌, Bool, true, false, ◌&&◌, cond, if◌then◌else◌, length, take, drop, get_or, slice_get, Option, Some, None, All, refl, sym, ap, ◌∙◌, take-append-drop}
use borrow.Author.Tests.{eqb-true}
use Rattle.std.proofs.Math.Bool.{and-false}
use Rattle.std.proofs.lemmas.List.{drop_more}
use Rattle.std.proofs.lemmas.List.Splits.{slice_split_none, slice_split_at}
use Rattle.std.proofs.lemmas.Option.{get_or_from_slice_get, slice_get_within}
use Rattle.std.specs.List.{list_all, slice_split, onto_first}
use Rattle.lg_dict.specs.Compounds.{is_underscore, is_filled, parts_of, are_several, first_in, compound_first}
use Rattle.lg_dict.specs.Subscripts.{stem_of}

-- no byte is an underscore
abbrev pub HasNone : List ℕ → Type 0
HasNone bytes = All (λ byte. byte ≢ 95) bytes

other_by : (byte : ℕ) → byte ≢ 95 → (t : Bool) → is_underscore byte ≡ t → is_underscore byte ≡ false
other_by byte other true is = absurd (other (eqb-true byte 95 is))
other_by byte other false is = is

none_are : (bytes : List ℕ) → HasNone bytes → All (λ byte. is_underscore byte ≡ false) bytes
none_are bytes none k d low = other_by (get_or bytes k d) (none k d low) (is_underscore (get_or bytes k d)) refl

-- a list that is cut has a part
module _ {X : Type 0} (p : X → Bool) where
  onto_some : (x : X) (parts : List (List X)) → (y : List X) × (ys : List (List X)) × (onto_first x parts ≡ y ∷ ys)
  onto_some x [] = (x ∷ [], [], refl)
  onto_some x (part ∷ parts) = (x ∷ part, parts, refl)

  some_part : (xs : List X) → (y : List X) × (ys : List (List X)) × (slice_split p xs ≡ y ∷ ys)
  some_part [] = ([], [], refl)
  some_part (x ∷ xs) = elim (p x) as (λ b. (y : List X) × (ys : List (List X)) × (cond b ([] ∷ slice_split p xs) (onto_first x (slice_split p xs)) ≡ y ∷ ys)) [
    | true ↦ ([], slice_split p xs, refl)
    | false ↦ onto_some x (slice_split p xs)
  ]

abbrev pub first_of : List (List ℕ) → Option (List ℕ)
first_of parts = if are_several parts && list_all is_filled parts then first_in parts else None

first_several : (parts : List (List ℕ)) (x y : List ℕ) (more : List (List ℕ)) → parts ≡ x ∷ y ∷ more → list_all is_filled parts ≡ true → first_of parts ≡ Some x
first_several parts x y more is filled =
    ap (λ b. if are_several parts && b then first_in parts else None) filled ∙ ap (λ ps. if are_several ps && true then first_in ps else None) is

module _ (word : List ℕ) where
  -- the first part ends at the first underscore
  pub compound_first-at : (at : ℕ) → slice_get (stem_of word) at ≡ Some 95 → HasNone (take at (stem_of word)) → list_all is_filled (slice_split is_underscore (stem_of word)) ≡ true
      → compound_first word ≡ Some (take at (stem_of word))
  compound_first-at at here before filled =
      let stem = stem_of word in
      let within : at < length stem = slice_get_within stem at 95 here in
      let is : get_or stem at 0 ≡ 95 = get_or_from_slice_get stem at 95 0 here in
      let cut : stem ≡ take at stem ++ 95 ∷ drop (at + 1) stem =
      sym (take-append-drop at stem) ∙ ap (λ l. take at stem ++ l) (drop_more stem at 0 within) ∙ ap (λ b. take at stem ++ b ∷ drop (at + 1) stem) is in
      let rest = some_part is_underscore (drop (at + 1) stem) in
      let parts : parts_of word ≡ take at stem ∷ rest.0 ∷ rest.1 =
      ap (slice_split is_underscore) cut ∙ slice_split_at is_underscore (take at stem) 95 (drop (at + 1) stem) (none_are (take at stem) before) refl ∙ ap (λ ps. take at stem ∷ ps) rest.2 in
      first_several (parts_of word) (take at stem) rest.0 rest.1 parts filled

  pub compound_first-unfilled : list_all is_filled (slice_split is_underscore (stem_of word)) ≡ false → compound_first word ≡ None
  compound_first-unfilled empty =
      ap (λ b. if are_several (parts_of word) && b then first_in (parts_of word) else None) empty
      ∙ ap (λ b. if b then first_in (parts_of word) else None) (and-false (are_several (parts_of word)))

  pub compound_first-whole : HasNone (stem_of word) → compound_first word ≡ None
  compound_first-whole none = ap first_of (slice_split_none is_underscore (stem_of word) (none_are (stem_of word) none))
