use Rattle.std.proofs.Common.{refl}
use Rattle.std.proofs.lemmas.Bool.{false≢true, iff_false}
use Rattle.lg_pprune.proofs.Tables.{up_to_more, up_to_all}
use Rattle.lg_pprune.proofs.table.is_served.Goals as goal

pub returns-then-not-has_partner : goal.returns-then-not-has_partner
returns-then-not-has_partner c =
    ((λ e. absurd (false≢true e)), (λ s. absurd (iff_false c.has_partner.ensures c.if-not-has_partner.true (s c.loop-place.place c.site_of-site.result c.site_of-site.ensures))))

pub loop-place-preserved : goal.loop-place-preserved
loop-place-preserved c =
    up_to_more c.args.right c.args.words c.args.table.now c.args.side.now.position c.args.side.now.list.now c.loop-place.place c.site_of-site.result c.site_of-site.ensures (c.has_partner.ensures.0 c.if-not-has_partner.false) c.loop-place.invariant

pub returns : goal.returns
returns c =
    ((λ e. up_to_all c.args.right c.args.words c.args.table.now c.args.side.now.position c.args.side.now.list.now c.loop-place.place c.loop-place-test.false c.loop-place.invariant), (λ s. refl))
