use Rattle.std.proofs.Common.{◌≡◌, drop}
use Rattle.lg_gram.specs.Trees.{expr_items, trees_in}
use Rattle.lg_gram.specs.Formulas.{prices_in_are_small}
use Rattle.lg_gram.proofs.sizes.+prices.Given as goal

abbrev pub invariant-are_prices_in_small-loop-member : goal.invariant-are_prices_in_small-loop-member
invariant-are_prices_in_small-loop-member l = prices_in_are_small (trees_in (drop l.member-index l.member-items)) ≡ prices_in_are_small (trees_in (expr_items l.members))
