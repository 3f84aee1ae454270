use Rattle.std.proofs.Common.{◌==◌, refl, arith}
use Rattle.lg_region.proofs.Once.{adds_next}
use Rattle.lg_region.proofs.Opened.{OfLevel, levels_all, levels_apart}
use Rattle.lg_region.proofs.expand.push_group.Goals as goal

pub loop-nulls-preserved : goal.loop-nulls-preserved
loop-nulls-preserved c =
    let n = c.args.lists.now in let gap = c.args.gap.now in let g = c.args.group.now in
    adds_next (OfLevel n gap g) c.loop-nulls.nulls c.args.out.now.items c.loop-nulls.out.items c.push_level.new.out.items (levels_apart n gap g) c.loop-nulls.invariant c.in_ok-push_level.ensures

pub returns : goal.returns
returns c =
    let gap = c.args.gap.now in let known = c.requires.gap.1.known in let past = c.loop-nulls-test.false in
    levels_all c.args.lists.now gap c.args.group.now (gap.llist == 0) c.requires.group refl c.are_numbered.ensures known.llist known.led c.loop-nulls.nulls c.args.out.now.items c.loop-nulls.out.items (omega arith) c.loop-nulls.invariant
