use Rattle.lg_audit.specs.Pieces.{IsSmallNumber}
use Rattle.lg_audit.proofs.Causes.{count_read}
use Rattle.lg_audit.proofs.head.small_count.Goals as goal

pub returns : goal.returns
returns c = count_read IsSmallNumber c.args.text.now c.args.front.now _ _ c.in-Some.ensures c.small_number_of.ensures.bound c.small_number_of.ensures.value
