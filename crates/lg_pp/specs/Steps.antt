-- What the loops over links keep.
use Rattle.std.specs.Prelude.{◌≡◌, ◌↔◌, ℕ, ◌<◌, ◌≤◌, List, length, Bool, false, slice_index, slice_index_or}
use Rattle.std.specs.List.{All, AllZip, Contains}
use Rattle.std.specs.List.Sorted.{IsStrictlySortedBy}
use Rattle.std.specs.Ordering.{nat_cmp}
use Rattle.lg_pp.specs.declared.domain.Domain.{Domain}

-- the domain of this kind with this start link and these links, by numbers
abbrev pub domain_of : ℕ → List ℕ → ℕ → Domain
domain_of start links kind = record { kind = kind; start = start; links = links }

-- the numbers below n of which P holds, in order
pub record AreThose (P : ℕ → Type 0) (n : ℕ) (numbers : List ℕ) : Type 0 where
  pub rise : IsStrictlySortedBy nat_cmp numbers
  pub exactly : (k : ℕ) → Contains numbers k ↔ ((k < n) × P k)

-- links number m and n have the same flag in each row
abbrev pub AreAlike : List (List Bool) → ℕ → ℕ → Type 0
AreAlike rows m n = All (λ row. slice_index_or row m false ≡ slice_index_or row n false) rows

-- they have the same least number so far, and the same flag in one more row
abbrev pub AreStillAlike : List ℕ → List Bool → ℕ → ℕ → Type 0
AreStillAlike leasts row m n = (slice_index leasts m ≡ slice_index leasts n) × (slice_index_or row m false ≡ slice_index_or row n false)

-- no least number is above its own number, and each is its own
abbrev pub AreHeads : List ℕ → Type 0
AreHeads leasts = (n : ℕ) → n < length leasts → (slice_index leasts n ≤ n) × (slice_index leasts (slice_index leasts n) ≡ slice_index leasts n)

-- m is the least number that R joins to n
pub record IsLeastOf (R : ℕ → ℕ → Type 0) (n m : ℕ) : Type 0 where
  pub joined : R m n
  pub earlier : (k : ℕ) → k < m → R k n → ⊥

-- for each number below count the least that R joins to it
pub record AreLeasts (R : ℕ → ℕ → Type 0) (count : ℕ) (leasts : List ℕ) : Type 0 where
  pub same_length : length leasts ≡ count
  pub each : (n : ℕ) → n < count → IsLeastOf R n (slice_index leasts n)

-- the numbers with this least number
abbrev pub AreMembers : List ℕ → ℕ → List ℕ → Type 0
AreMembers leasts head = AreThose (λ n. slice_index leasts n ≡ head) (length leasts)

-- for each number below n that is its own least number, the numbers with it, in order
pub record AreClasses (leasts : List ℕ) (n : ℕ) (classes : List (List ℕ)) : Type 0 where
  pub heads : List ℕ
  pub are_heads : AreThose (λ k. slice_index leasts k ≡ k) n heads
  pub members : AllZip (AreMembers leasts) heads classes
