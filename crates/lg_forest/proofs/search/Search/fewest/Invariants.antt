use Rattle.std.proofs.Common.{ℕ, ◌<◌}
use Rattle.lg_region.specs.declared.key.Key.TheVariants.{Whole}
use Rattle.lg_forest.specs.Demands.{HasLinkageUnder}
use Rattle.lg_forest.specs.Goes.{Goes}
use Rattle.lg_forest.specs.Search.{IsWholeFrom}
use Rattle.lg_forest.proofs.search.Search.fewest.Given as goal

-- the whole sentence was asked for with fewer unlinked words, and has no linkage there
abbrev pub invariant-loop-nulls : goal.invariant-loop-nulls
invariant-loop-nulls g l = record {
  goes : Goes l.lists (IsWholeFrom 0 l.nulls) 0 l.fn.self l.fn.steps l.self l.steps;
  none : (m : ℕ) → m < l.nulls → HasLinkageUnder l.lists.positions l.lists.lists (Whole m) → ⊥;
}
