-- Sums of costs.
use Rattle.std.proofs.Common.{◌≡◌, ℕ, ◌+◌, ◌<◌, List, length, get_or, drop, Option, Some, None, refl, arith, ◌+ℤ◌, add-one, drop-cons}
use Rattle.std.proofs.lemmas.Int.{ints}
use Rattle.lg_gram.specs.declared.disjunct.Disjunct.{Disjunct}
use Rattle.lg_gram.specs.Problems.{IsDisjunctCost}
use Rattle.lg_gram.specs.Linkages.{cost_sum, cost_of, HasSmallCost}

pub cost_sum-drop : (os : List (Option Disjunct)) (i : ℕ) (d : Option Disjunct) → i < length os → cost_sum (drop i os) ≡ cost_of (get_or os i d) +ℤ cost_sum (drop (i + 1) os)
cost_sum-drop os i d h = rw (add-one, drop-cons os i d) refl

pub small_cost : (o : Option Disjunct) → HasSmallCost o → IsDisjunctCost (cost_of o)
small_cost None h = (omega (arith, ints), omega (arith, ints))
small_cost (Some d) h = h
