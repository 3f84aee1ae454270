use Rattle.lg_memo.proofs.Ends.{odd_is_taken, no_shard_twice, each_in_one_view}
use Rattle.lg_memo.proofs.rule.memo_laws.Goals as goal

pub returns : goal.returns
returns g c = record { taken = odd_is_taken _; apart = no_shard_twice _; seats = each_in_one_view _ }
