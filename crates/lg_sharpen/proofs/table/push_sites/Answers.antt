use Rattle.std.proofs.Common.{length, refl, subst}
use Rattle.std.proofs.lemmas.Option.{slice_get_read}
use Rattle.lg_member.specs.Cells.{Adds, class_of}
use Rattle.lg_sharpen.specs.Sites.{IsWider}
use Rattle.lg_sharpen.proofs.Tables.{sites_more}
use Rattle.lg_sharpen.proofs.table.push_sites.Goals as goal

pub loop-site-preserved : goal.loop-site-preserved
loop-site-preserved c =
    let s = c.site-item.result in
    sites_more c.args.position c.args.sites.now c.loop-site.site-index c.args.table.now c.loop-site.table c.push.new.self s
    (slice_get_read c.args.sites.now (length c.args.sites.now) c.loop-site.site-index s refl c.loop-site-test.true c.site-item.is)
    (subst (λ z. Adds IsWider c.args.position (class_of z) s c.loop-site.table c.push.new.self) c.caps.ensures.value c.in_ok-push.ensures.added) c.loop-site.invariant
