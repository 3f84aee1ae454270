-- Two links of a list that cross, and two with the same positions.
use Rattle.std.proofs.Common.{◌≡◌, ℕ, ◌<◌, ◌+◌, List, [], length, get_or, Some, sym, subst, inl, inr, All, Contains}
use Rattle.std.specs.Prelude.{slice_get}
use Rattle.std.proofs.lemmas.Bool.{cases_eq}
use Rattle.std.proofs.lemmas.Option.{slice_get_within, slice_get-get_or, get_or_from_slice_get}
use Rattle.std.proofs.lemmas.List.Elements.{All-contains}
use Rattle.lg_gram.specs.Rules.{IsPlanar, IsExclusive}
use Rattle.lg_gram.specs.declared.linkage.Link.{Link}
use Rattle.lg_rules.specs.Least.{IsLeast, IsLeastPair}
use Rattle.lg_rules.specs.Places.{linkage_of}
use Rattle.lg_rules.specs.Checks.{IsSuch, Crosses, IsTwin}
use Rattle.lg_rules.specs.Verdicts.{CrossingAt, TwiceAt}
use Rattle.lg_rules.proofs.LeastCases.{least_pair, no_row}

-- one number has one link
same_link : (links : List Link) (m : ℕ) (k l : Link) → slice_get links m ≡ Some k → slice_get links m ≡ Some l → k ≡ l
same_link links m k l e f = cc

-- the number of a link of the list
pub number_of : (links : List Link) (l : Link) → Contains links l → (n : ℕ) × (n < length links) × (slice_get links n ≡ Some l)
number_of links l h = (h.0, h.1, subst (λ z. slice_get links h.0 ≡ Some z) h.2 (slice_get-get_or links h.0 l h.1))

-- a link that has a number is one of the list
pub listed : (links : List Link) (n : ℕ) (l : Link) → slice_get links n ≡ Some l → Contains links l
listed links n l e = (n, slice_get_within links n l e, get_or_from_slice_get links n l l e)

-- with the link k of number m, the second links of its pairs
module _ (links : List Link) (m : ℕ) (k : Link) (at : slice_get links m ≡ Some k) where
  crossing_to : (n : ℕ) → IsSuch (Crosses k) links n → CrossingAt (linkage_of [] links) m n
  crossing_to n h = (k, h.0, at, h.1, h.2.0, h.2.1, h.2.2)

  crossing_from : (n : ℕ) → CrossingAt (linkage_of [] links) m n → IsSuch (Crosses k) links n
  crossing_from n p = (p.1, p.3, subst (λ z. Crosses z p.1) (same_link links m p.0 k p.2 at) (p.4, p.5, p.6))

  twice_to : (n : ℕ) → (m ≡ n → ⊥) × IsSuch (IsTwin k) links n → TwiceAt (linkage_of [] links) m n
  twice_to n h = (k, h.1.0, at, h.1.1, h.0, h.1.2.0, h.1.2.1)

  twice_from : (n : ℕ) → TwiceAt (linkage_of [] links) m n → (m ≡ n → ⊥) × IsSuch (IsTwin k) links n
  twice_from n p = (p.4, (p.1, p.3, subst (λ z. IsTwin z p.1) (same_link links m p.0 k p.2 at) (p.5, p.6)))

-- a turn of the loop over first links, by what was found for link m
module _ (links : List Link) (m : ℕ) (d : Link) (within : m < length links) where
  pub crossing_least : (n : ℕ) → ((a b : ℕ) → a < m → CrossingAt (linkage_of [] links) a b → ⊥) →
      IsLeast (IsSuch (Crosses (get_or links m d)) links) n → IsLeastPair (CrossingAt (linkage_of [] links)) m n
  crossing_least n before least =
      let at = slice_get-get_or links m d within in
      least_pair (CrossingAt (linkage_of [] links)) (IsSuch (Crosses (get_or links m d)) links) m n
      (crossing_to links m (get_or links m d) at) (crossing_from links m (get_or links m d) at) before least

  pub crossing_none : ((a b : ℕ) → a < m → CrossingAt (linkage_of [] links) a b → ⊥) →
      All (λ l. Crosses (get_or links m d) l → ⊥) links → (a b : ℕ) → a < m + 1 → CrossingAt (linkage_of [] links) a b → ⊥
  crossing_none before none =
      let at = slice_get-get_or links m d within in
      no_row (CrossingAt (linkage_of [] links)) m before (λ n p.
      let h = crossing_from links m (get_or links m d) at n p in
      All-contains (λ l. Crosses (get_or links m d) l → ⊥) links h.0 none (listed links n h.0 h.1) h.2)

  pub twice_least : (n : ℕ) → ((a b : ℕ) → a < m → TwiceAt (linkage_of [] links) a b → ⊥) →
      IsLeast (λ j. (m ≡ j → ⊥) × IsSuch (IsTwin (get_or links m d)) links j) n → IsLeastPair (TwiceAt (linkage_of [] links)) m n
  twice_least n before least =
      let at = slice_get-get_or links m d within in
      least_pair (TwiceAt (linkage_of [] links)) (λ j. (m ≡ j → ⊥) × IsSuch (IsTwin (get_or links m d)) links j) m n
      (twice_to links m (get_or links m d) at) (twice_from links m (get_or links m d) at) before least

  pub twice_none : ((a b : ℕ) → a < m → TwiceAt (linkage_of [] links) a b → ⊥) →
      ((n : ℕ) (l : Link) → (m ≡ n → ⊥) → slice_get links n ≡ Some l → IsTwin (get_or links m d) l → ⊥) →
      (a b : ℕ) → a < m + 1 → TwiceAt (linkage_of [] links) a b → ⊥
  twice_none before none =
      let at = slice_get-get_or links m d within in
      no_row (TwiceAt (linkage_of [] links)) m before (λ n p.
      let h = twice_from links m (get_or links m d) at n p in none n h.1.0 h.0 h.1.1 h.1.2)

pub planar_from : (links : List Link) → ((a b : ℕ) → a < length links → CrossingAt (linkage_of [] links) a b → ⊥) → IsPlanar (Contains links)
planar_from links none k l has_k has_l one two three =
    let m = number_of links k has_k in
    let n = number_of links l has_l in
    none m.0 n.0 m.1 (k, l, m.2, n.2, one, two, three)

pub exclusive_from : (links : List Link) → ((a b : ℕ) → a < length links → TwiceAt (linkage_of [] links) a b → ⊥) → IsExclusive (Contains links)
exclusive_from links none k l has_k has_l left right =
    let m = number_of links k has_k in
    let n = number_of links l has_l in
    elim (cases_eq m.0 n.0) [
      | inl same ↦ same_link links m.0 k l m.2 (subst (λ z. slice_get links z ≡ Some l) (sym same) n.2)
      | inr apart ↦ absurd (none m.0 n.0 m.1 (k, l, m.2, n.2, apart, left, right))
    ]
