-- The places of keys in a set that keeps their order, where `==` at keys tells whether they are the same.
use Rattle.std.proofs.Common.{◌≡◌, ℕ, Bool, true, true≢false, not, is_some, if◌then◌else◌, List, [], ◌∷◌, ◌++◌, get_or, position, Option, Some, None, MatchOption, slice_get, inl, inr, sym, ap, ◌∙◌, subst, rules}
use Rattle.std.specs.Bool.{Decides}
use Rattle.std.specs.List.{list_any}
use Rattle.std.proofs.lemmas.Bool.{cases_Bool, cases_lt}
use Rattle.std.proofs.lemmas.List.Folds.{list_any_at}
use Rattle.std.proofs.lemmas.List.Quantifiers.{position-Some}
use Rattle.std.proofs.lemmas.Option.{slice_get_within, get_or_from_slice_get, slice_get-get_or}
use Rattle.indexmap.specs.IndexSet.{insert_key}
use Rattle.lg_region.specs.declared.key.Key.{Key}
use Rattle.lg_region.specs.contracts.key.KeyPartialEq.TheImpl.{eq-value}
use Rattle.lg_rank.specs.Fronts.{IsIn}
use Rattle.lg_rank.specs.Keyed.{IsFirstPlace, AddsKey}
use Rattle.lg_rank.proofs.Walking.{at_cases}

-- the test of `==` at keys
abbrev pub key_eq : Key → Key → Bool
key_eq = eq-value.it

keys_same : (x y : Key) → Decides (key_eq x y) (x ≡ y)
keys_same x y = search rules

-- a key passes its own test where it stands
passes : (keys : List Key) (key : Key) (i : ℕ) → slice_get keys i ≡ Some key → key_eq key (get_or keys i key) ≡ true
passes keys key i at = (keys_same key (get_or keys i key)).1 (sym (get_or_from_slice_get keys i key key at))

pub number_found : (keys : List Key) (key : Key) (r : Option ℕ) → r ≡ position (key_eq key) keys → is_some r ≡ list_any (key_eq key) keys → MatchOption r (IsIn keys key → ⊥) (IsFirstPlace keys key)
number_found keys key None e found = λ (i, at). true≢false (sym (list_any_at (key_eq key) keys i key (slice_get_within keys i key at) (passes keys key i at)) ∙ sym found)
number_found keys key (Some k) e found =
    let p = position-Some (key_eq key) keys k key (sym e) in
    let same : get_or keys k key ≡ key = sym ((keys_same key (get_or keys k key)).0 p.1) in (
      slice_get-get_or keys k key p.0 ∙ ap Some same,
      λ j at. elim (cases_lt j k) [
        | inl less ↦ absurd (true≢false (sym (passes keys key j at) ∙ p.2 j less))
        | inr h ↦ h
      ],
    )

pub key_added : (old : List Key) (key : Key) (new : List Key) (number : ℕ) (is_new : Bool) → is_new ≡ not (list_any (key_eq key) old) → new ≡ insert_key key_eq old key
    → (k : Key) × (slice_get new number ≡ Some k) × (key_eq key k ≡ true) → AddsKey old key new number is_new
key_added old key new number is_new flag e (k, at, eq) =
    let same : k ≡ key = sym ((keys_same key k).0 eq) in
    let here : slice_get new number ≡ Some key = at ∙ ap Some same in
    elim (cases_Bool (list_any (key_eq key) old)) [
      | inl found ↦ (
          let is : new ≡ old = e ∙ ap (λ z. if z then old else old ++ key ∷ []) found in
          subst (λ b. AddsKey old key new number b) (sym (flag ∙ ap not found)) (is, subst (λ z. slice_get z number ≡ Some key) is here))
      | inr none ↦ (
          let is : new ≡ old ++ key ∷ [] = e ∙ ap (λ z. if z then old else old ++ key ∷ []) none in
          subst (λ b. AddsKey old key new number b) (sym (flag ∙ ap not none)) (
            is,
            elim (at_cases old key number key (subst (λ z. slice_get z number ≡ Some key) is here)) [
              | inl there ↦ absurd (true≢false (sym (list_any_at (key_eq key) old number key (slice_get_within old number key there) (passes old key number there)) ∙ none))
              | inr last ↦ last.0
            ],
          ))
    ]
