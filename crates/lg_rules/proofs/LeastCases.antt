-- The least of cases, row by row.
use Rattle.std.proofs.Common.{◌≡◌, ℕ, ◌<◌, ◌+◌, subst, inl, inr, arith}
use Rattle.std.proofs.lemmas.Bool.{cases_lt}
use Rattle.lg_rules.specs.Least.{IsLeast, IsLeastPair}

-- where the rows before m have no case, the least case of row m is the least of all
pub least_pair : (P : ℕ → ℕ → Type 0) (Row : ℕ → Type 0) (m n : ℕ) → ((j : ℕ) → Row j → P m j) → ((j : ℕ) → P m j → Row j) →
    ((a b : ℕ) → a < m → P a b → ⊥) → IsLeast Row n → IsLeastPair P m n
least_pair P Row m n to from before least =
    record { here = to n least.here; first = before; second = λ j less p. least.earlier j less (from j p) }

-- one more row without a case
pub no_row : (P : ℕ → ℕ → Type 0) (m : ℕ) → ((a b : ℕ) → a < m → P a b → ⊥) → ((b : ℕ) → P m b → ⊥) → (a b : ℕ) → a < m + 1 → P a b → ⊥
no_row P m before here a b less p =
    elim (cases_lt a m) [
      | inl earlier ↦ before a b earlier p
      | inr last ↦ here b (let at : a ≡ m = omega arith in subst (λ k. P k b) at p)
    ]
