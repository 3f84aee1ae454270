use Rattle.lg_gram.specs.Connectors.{connector_cmp}
use Rattle.lg_disj.proofs.Ranked.{connector_total, HaveRanks}
use Rattle.lg_disj.proofs.ranks.ranks_of.Given as goal

abbrev pub invariant-loop-leaf : goal.invariant-loop-leaf
invariant-loop-leaf l = HaveRanks connector_cmp connector_total l.sorted.items l.leaves l.ranks.items l.leaf-index
