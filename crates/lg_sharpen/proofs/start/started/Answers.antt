use Rattle.lg_sharpen.proofs.Tables.{started_more}
use Rattle.lg_sharpen.proofs.start.started.Goals as goal

pub loop-place-preserved : goal.loop-place-preserved
loop-place-preserved c =
    started_more c.args.list.now c.args.end c.loop-place.place c.loop-place.sites.items c.push.new.self.items c.site_at-site.result c.in_ok-push.ensures.items c.site_at-site.ensures c.loop-place.invariant
