use Rattle.std.proofs.Common.{rules, is_lt}
use Rattle.std.proofs.lemmas.List.Sorted.{IsPartitionPoint-from_clause}
use Rattle.lg_disj.specs.Ranks.{lent_cmp}
use Rattle.lg_disj.proofs.Ranked.{lent_total, parted}
use Rattle.lg_disj.proofs.numbers.rank_of_list.Goals as goal

pub returns : goal.returns
returns c =
    IsPartitionPoint-from_clause (λ other. is_lt (lent_cmp other c.args.list.now)) _ _ c.partition_point.ensures.partitioned
    (parted lent_cmp lent_total c.args.sorted.now c.requires c.args.list.now) (λ a r q k. search rules)
