use Rattle.lg_disj.specs.Ranks.{lent_cmp}
use Rattle.lg_disj.proofs.Ranked.{lent_total, HaveRanks}
use Rattle.lg_disj.proofs.numbers.ranks_of_lists.Given as goal

abbrev pub invariant-loop-list : goal.invariant-loop-list
invariant-loop-list l = HaveRanks lent_cmp lent_total l.sorted.items l.lists l.ranks.items l.list-index
