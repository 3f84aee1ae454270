-- When one key comes before another.
use Rattle.std.proofs.Common.{◌≡◌, ℕ, ◌<◌, List, ◌∷◌, refl, inl, inr, ◌⊎◌, Ordering, Less, Equal, Greater}
use Rattle.std.specs.Ordering.{nat_cmp, ordering_then, MatchOrdering}
use Rattle.std.specs.Cmp.Lexicographic.{slice_cmp}
use Rattle.std.proofs.lemmas.Cmp.{ranked}

less_of : (a b : ℕ) (o rest : Ordering) → MatchOrdering o (a < b) (a ≡ b) (b < a) → ordering_then o rest ≡ Less → (a < b) ⊎ ((a ≡ b) × (rest ≡ Less))
less_of a b Less rest at e = inl at
less_of a b Equal rest at e = inr (at, e)
less_of a b Greater rest at e = absurd cc

-- the first number is less, or it is the same and the rest decides
pub less_then : (a b : ℕ) (rest : Ordering) → ordering_then (nat_cmp a b) rest ≡ Less → (a < b) ⊎ ((a ≡ b) × (rest ≡ Less))
less_then a b rest e = less_of a b (nat_cmp a b) rest (ranked a b (nat_cmp a b) refl) e

pub less_key : (a b : ℕ) (xs ys : List ℕ) → slice_cmp nat_cmp (a ∷ xs) (b ∷ ys) ≡ Less → (a < b) ⊎ ((a ≡ b) × (slice_cmp nat_cmp xs ys ≡ Less))
less_key a b xs ys e = less_then a b (slice_cmp nat_cmp xs ys) e

less_alone : (a b : ℕ) (o : Ordering) → MatchOrdering o (a < b) (a ≡ b) (b < a) → o ≡ Less → a < b
less_alone a b Less at e = at
less_alone a b Equal at e = absurd cc
less_alone a b Greater at e = absurd cc

pub less_number : (a b : ℕ) → nat_cmp a b ≡ Less → a < b
less_number a b e = less_alone a b (nat_cmp a b) (ranked a b (nat_cmp a b) refl) e
