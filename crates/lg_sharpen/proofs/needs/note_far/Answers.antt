use Rattle.std.proofs.Common.{length, refl}
use Rattle.std.proofs.lemmas.Option.{slice_get_read}
use Rattle.lg_sharpen.specs.Sites.{items_in}
use Rattle.lg_sharpen.proofs.Away.{needs_more}
use Rattle.lg_sharpen.proofs.needs.note_far.Goals as goal

pub loop-member-preserved : goal.loop-member-preserved
loop-member-preserved c =
    let m = c.member-item.result in
    needs_more c.args.right (items_in c.args.others.now) c.args.members.now c.loop-member.member-index c.far_at-far.result c.side.result c.side-in-loop-member.result c.loop-member.needs c.lower_at.new.needs m
    (slice_get_read c.args.members.now (length c.args.members.now) c.loop-member.member-index m refl c.loop-member-test.true c.member-item.is) c.side.ensures c.side-in-loop-member.ensures c.far_at-far.ensures c.lower_at.ensures c.loop-member.invariant
