use Rattle.std.proofs.Common.{subst}
use Rattle.lg_member.specs.Cells.{Adds, class_of}
use Rattle.lg_pprune.specs.Sites.{IsWider}
use Rattle.lg_pprune.proofs.Tables.{sites_more}
use Rattle.lg_pprune.proofs.table.push_sites.Goals as goal

pub loop-place-preserved : goal.loop-place-preserved
loop-place-preserved c =
    let s = c.site_of-site.result in
    sites_more c.args.right c.args.words c.args.side.now.position c.args.side.now.list.now c.loop-place.place c.args.table.now c.loop-place.table c.push.new.self s
    (subst (λ z. Adds IsWider s.position (class_of z) s c.loop-place.table c.push.new.self) c.caps.ensures.value c.in_ok-push.ensures.added) c.site_of-site.ensures c.loop-place.invariant
