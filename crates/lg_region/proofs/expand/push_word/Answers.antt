use Rattle.lg_region.specs.Openings.{IsIn}
use Rattle.lg_region.proofs.Grouped.{group_at, groups_all, groups_apart, no_group, same_groups}
use Rattle.lg_region.proofs.Once.{adds_at}
use Rattle.lg_region.proofs.expand.push_word.Goals as goal

pub push_group-requires-clause-group : goal.push_group-requires-clause-group
push_group-requires-clause-group c =
    let n = c.args.lists.now in let gap = c.args.gap.now in let gs = c.deref-group-items.result.now in
    group_at n gap c.args.word gs (same_groups n gap c.args.word gs c.in_ok-groups.groups.items c.deref-group-items.ensures.value c.in_ok-groups.ensures) c.loop-group.group-index c.loop-group-test.true

pub loop-group-preserved : goal.loop-group-preserved
loop-group-preserved c =
    let n = c.args.lists.now in let gap = c.args.gap.now in let gs = c.deref-group-items.result.now in
    let of = same_groups n gap c.args.word gs c.in_ok-groups.groups.items c.deref-group-items.ensures.value c.in_ok-groups.ensures in
    adds_at (IsIn n gap) gs no_group c.loop-group.group-index c.args.out.now.items c.loop-group.out.items c.push_group.new.out.items (groups_apart n gap c.args.word gs of) c.loop-group-test.true c.loop-group.invariant c.in_ok-push_group.ensures

pub returns : goal.returns
returns c =
    let n = c.args.lists.now in let gap = c.args.gap.now in let gs = c.deref-group-items.result.now in
    let of = same_groups n gap c.args.word gs c.in_ok-groups.groups.items c.deref-group-items.ensures.value c.in_ok-groups.ensures in
    groups_all n gap c.args.word gs of c.loop-group.group-index c.args.out.now.items c.loop-group.out.items c.loop-group-test.false c.loop-group.invariant
