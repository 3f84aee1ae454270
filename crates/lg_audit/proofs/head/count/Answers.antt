use Rattle.lg_audit.specs.Pieces.{IsNumber}
use Rattle.lg_audit.proofs.Causes.{count_read}
use Rattle.lg_audit.proofs.head.count.Goals as goal

pub returns : goal.returns
returns c = count_read IsNumber c.args.text.now c.args.front.now _ _ c.in-Some.ensures c.number_of.ensures.bound c.number_of.ensures.value
