-- Walks of one set of edges, sent into another.
use Rattle.std.proofs.Common.{◌≡◌, ℕ, subst}
use Rattle.lg_gram.specs.Walks.{Walk}
use Rattle.lg_gram.specs.Walks.Walk.{stay, forth, back}

pub walk_then : (E : ℕ → ℕ → Type 0) (a b c : ℕ) → Walk E a b → Walk E b c → Walk E a c
walk_then E a b c (stay i) v = v
walk_then E a b c (forth i k j e w) v = forth i k c e (walk_then E k j c w v)
walk_then E a b c (back i k j e w) v = back i k c e (walk_then E k j c w v)

pub walk_back : (E : ℕ → ℕ → Type 0) (a b : ℕ) → Walk E a b → Walk E b a
walk_back E a b (stay i) = stay i
walk_back E a b (forth i k j e w) = walk_then E j k i (walk_back E k j w) (back k i i e (stay i))
walk_back E a b (back i k j e w) = walk_then E j k i (walk_back E k j w) (forth k i i e (stay i))

pub moved : (E : ℕ → ℕ → Type 0) (a b c d : ℕ) → a ≡ c → b ≡ d → Walk E a b → Walk E c d
moved E a b c d first second w = subst (λ n. Walk E n d) first (subst (λ n. Walk E a n) second w)

-- where each edge becomes a walk, each walk becomes one
pub sent : (E F : ℕ → ℕ → Type 0) (f : ℕ → ℕ) → ((a b : ℕ) → E a b → Walk F (f a) (f b)) → (a b : ℕ) → Walk E a b → Walk F (f a) (f b)
sent E F f edge a b (stay i) = stay (f i)
sent E F f edge a b (forth i k j e w) = walk_then F (f i) (f k) (f j) (edge i k e) (sent E F f edge k j w)
sent E F f edge a b (back i k j e w) = walk_then F (f i) (f k) (f j) (walk_back F (f k) (f i) (edge k i e)) (sent E F f edge k j w)
