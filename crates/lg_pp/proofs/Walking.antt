-- Walks over one set of edges and over another.
use Rattle.std.proofs.Common.{ℕ}
use Rattle.lg_gram.specs.Walks.{Walk}
use Rattle.lg_gram.specs.Walks.Walk.{stay, forth, back}

-- a walk over edges that are edges of another kind too
pub walk_along : (E F : ℕ → ℕ → Type 0) → ((a b : ℕ) → E a b → F a b) → (a b : ℕ) → Walk E a b → Walk F a b
walk_along E F edges a b (stay i) = stay i
walk_along E F edges a b (forth i k j e w) = forth i k j (edges i k e) (walk_along E F edges k j w)
walk_along E F edges a b (back i k j e w) = back i k j (edges k i e) (walk_along E F edges k j w)
