-- The first number of which something holds.
use Rattle.std.proofs.Common.{◌≡◌, ℕ, ◌<◌, Bool, true, false, List, get_or, Option, Some, None, ◌↔◌, refl, subst, arith}
use Rattle.lg_gram.specs.Names.{Name}
use Rattle.lg_knowread.specs.declared.knowledge.Pattern.{Pattern}
use Rattle.lg_pp.specs.Judging.{AreHits, HasOther, IsFirst, MeetsOther, class_of}
use Rattle.lg_pp.specs.Labels.{FitsOne}
use Rattle.lg_pp.specs.Picked.{ArePicked}
use Rattle.lg_pp.proofs.Picking.{picked_read}
use Rattle.std.specs.Prelude.{IsTrue}

-- of what is the same
pub first_along : (P Q : ℕ → Type 0) (count : ℕ) (first : Option ℕ) → ((n : ℕ) → n < count → P n ↔ Q n) → IsFirst P count first → IsFirst Q count first
first_along P Q count None same is = λ n less q. is n less ((same n less).1 q)
first_along P Q count (Some n) same is = (is.0, (same n is.0).0 is.1, λ k less q. is.2 k less ((same k (let h = is.0 in omega arith)).1 q))

-- and of as many
pub first_moved : (P Q : ℕ → Type 0) (count others : ℕ) (first : Option ℕ) → count ≡ others → ((n : ℕ) → P n ↔ Q n) → IsFirst P count first → IsFirst Q others first
first_moved P Q count others first e same is = subst (λ n. IsFirst Q n first) e (first_along P Q count first (λ n less. same n) is)

-- a flag of a class is as it is asked exactly where the class meets what is asked
pub meets_by_hits : (grouped : Bool) (groups : List ℕ) (others : List Pattern) (labels : List Name) (met hits : List Bool) → ArePicked (FitsOne others) labels met → AreHits grouped groups met hits → (asked : Bool) (n : ℕ) →
    (get_or hits (class_of grouped groups n) false ≡ asked) ↔ MeetsOther grouped groups others labels asked n
meets_by_hits grouped groups others labels met hits picked are asked n = by asked where
  same : IsTrue (get_or hits (class_of grouped groups n) false) ↔ HasOther grouped groups others labels (class_of grouped groups n)
  same =
      let h = are (class_of grouped groups n) in
      let read = picked_read (FitsOne others) labels met picked in
      (λ set. let m = h.0 set in (m.0, m.1, (read m.0).0 m.2), λ m. h.1 (m.0, m.1, (read m.0).1 m.2))

  not_true : (b : Bool) → (b ≡ true → ⊥) → b ≡ false
  not_true true not = absurd (not refl)
  not_true false not = refl

  by : (asked : Bool) → (get_or hits (class_of grouped groups n) false ≡ asked) ↔ MeetsOther grouped groups others labels asked n
  by true = same
  by false = (
    λ unset other. let set = same.1 other in let no : true ≡ false = cc in absurd (cc),
    λ none. not_true (get_or hits (class_of grouped groups n) false) (λ set. none (same.0 set)),
  )
