use Rattle.std.proofs.Common.{◌==◌, refl}
use Rattle.lg_region.proofs.Once.{exactly_same, on_ok}
use Rattle.lg_region.proofs.Opened.{ends_added}
use Rattle.lg_region.proofs.opening.push_endings.Goals as goal

pub returns-clause-endings : goal.returns-clause-endings
returns-clause-endings c =
    let gap = c.args.gap.now in let some = c.requires.begins in
    on_ok c.push_ended.result c.push_ended.ensures.added
    (ends_added c.args.lists.now gap c.args.group.now (gap.llist == 0) c.requires.group refl c.are_numbered.ensures c.requires.gap.llist c.requires.gap.led c.args.begin.now c.deref.result.now c.args.out.now.items c.push_ended.new.out.items
    (some.0, (some.1, some.2, some.3)) (exactly_same _ _ c.deref.ensures.value c.in_ok-rights.ensures))
