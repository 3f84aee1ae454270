use Rattle.std.proofs.Common.{arith}
use Rattle.lg_region.proofs.Expanding.{OfFirst, firsts_all, firsts_apart}
use Rattle.lg_region.proofs.Once.{adds_next}
use Rattle.lg_region.proofs.expand.push_firsts.Goals as goal

pub loop-number-preserved : goal.loop-number-preserved
loop-number-preserved c =
    let n = c.args.lists.now in
    adds_next (OfFirst n c.args.nulls c.args.word) c.loop-number.number c.args.out.now.items c.loop-number.out.items c.push_first.new.out.items (firsts_apart n c.args.nulls c.args.word) c.loop-number.invariant c.in_ok-push_first.ensures

pub returns : goal.returns
returns c = firsts_all c.args.lists.now c.args.nulls c.args.word c.loop-number.number c.args.out.now.items c.loop-number.out.items (omega arith) c.loop-number.invariant
