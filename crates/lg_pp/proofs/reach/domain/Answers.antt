use Rattle.std.proofs.Common.{arith}
use Rattle.std.proofs.lemmas.Result.{IfOk-weaker}
use Rattle.lg_pp.proofs.Reaching.{islands_tell}
use Rattle.lg_pp.proofs.reach.domain.Goals as goal

pub label_islands-requires : goal.label_islands-requires
label_islands-requires c = record { within = rw c.deref.ensures.value c.in_ok-links.ensures.within }

-- the islands off the root tell what the start link reaches
pub returns : goal.returns
returns c =
    IfOk-weaker c.collected.result _ _
    (λ flags are know ignores. are know ignores (islands_tell know c.args.g.now c.args.start.now c.in_ok-links.links.items c.label_islands.new.labels (omega arith) (c.in_ok-links.ensures.exactly know ignores)
    (rw c.deref.ensures.value at c.label_islands.ensures))) c.collected.ensures
