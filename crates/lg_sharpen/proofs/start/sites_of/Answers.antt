use Rattle.std.proofs.lemmas.Option.{slice_get_read}
use Rattle.std.proofs.Common.{length, refl}
use Rattle.lg_sharpen.proofs.Tables.{all_started_more}
use Rattle.lg_sharpen.proofs.start.sites_of.Goals as goal

pub loop-side-preserved : goal.loop-side-preserved
loop-side-preserved c =
    all_started_more c.args.right c.args.words c.args.sides.now c.loop-side.side-index c.loop-side.lists.items c.push.new.self.items c.side-item.result c.reach-end.result c.in_ok-sites.sites c.in_ok-push.ensures.items
    (slice_get_read c.args.sides.now (length c.args.sides.now) c.loop-side.side-index c.side-item.result refl c.loop-side-test.true c.side-item.is) c.reach-end.ensures c.in_ok-sites.ensures c.loop-side.invariant
