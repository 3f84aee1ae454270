use Rattle.std.proofs.Common.{ap, ◌∙◌}
use Rattle.lg_gram.specs.Trees.{trees_in}
use Rattle.lg_audit.specs.Printed.{is_shown, all_narrowed}
use Rattle.lg_audit.specs.Views.{texts}
use Rattle.lg_audit.proofs.NarrowBounds.{pushed_narrowed, members_narrowed}
use Rattle.lg_audit.proofs.linkages.narrow.+narrow.Goals as goal

pub narrow_all-loop-member-preserved : goal.narrow_all-loop-member-preserved
narrow_all-loop-member-preserved t c =
    pushed_narrowed (is_shown (texts c.args.lefts.now) (texts c.args.rights.now)) c.items-member-items.result.now c.loop-member.member-index c.member-item.result c.loop-member-test.true c.member-item.is
    c.loop-member.kept.items c.push.new.self.items c.in_ok-narrow.field-0 c.in_ok-push.ensures.items c.in_ok-narrow.ensures c.loop-member.invariant

pub narrow_all-returns : goal.narrow_all-returns
narrow_all-returns t c =
    let test = is_shown (texts c.args.lefts.now) (texts c.args.rights.now) in
    ap trees_in c.of.ensures
    ∙ members_narrowed test c.items-member-items.result.now c.loop-member.member-index c.loop-member-test.false c.loop-member.kept.items c.loop-member.invariant
    ∙ ap (λ es. all_narrowed test (trees_in es)) c.items-member-items.ensures
