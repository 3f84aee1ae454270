use Rattle.std.proofs.Common.{rules, is_lt}
use Rattle.std.proofs.lemmas.List.Sorted.{IsPartitionPoint-from_clause}
use Rattle.lg_gram.specs.Connectors.{connector_cmp}
use Rattle.lg_disj.proofs.Ranked.{connector_total, parted}
use Rattle.lg_disj.proofs.ranks.rank_in.Goals as goal

pub returns : goal.returns
returns c =
    IsPartitionPoint-from_clause (λ other. is_lt (connector_cmp other c.args.leaf.now)) _ _ c.partition_point.ensures.partitioned
    (parted connector_cmp connector_total c.args.sorted.now c.requires c.args.leaf.now) (λ a r q k. search rules)
