use Rattle.std.proofs.Common.{◌≡◌, ◌+◌, ◌-◌, ◌<◌, length, arith, refl}
use Rattle.std.proofs.lemmas.Grind.{common_steps}
use Rattle.std.proofs.lemmas.Option.{slice_get_read}
use Rattle.lg_sharpen.proofs.Narrowing.{from_after}
use Rattle.lg_sharpen.proofs.narrow.from_of.Goals as goal

pub returns : goal.returns
returns c =
    let inside = c.requires in
    let below : c.args.place - 1 < length c.args.sites.now = omega arith in
    let one : (c.args.place - 1) + 1 ≡ c.args.place = (let t = c.if-place-eq0.false in grind (arith, common_steps)) in
    from_after c.args.sites.now c.args.place c.index-sites-place.result c.index-sites-earlier.result c.after.result (slice_get_read c.args.sites.now (length c.args.sites.now) c.args.place c.index-sites-place.result refl c.requires c.index-sites-place.is) (c.args.place - 1)
    one (slice_get_read c.args.sites.now (length c.args.sites.now) (c.args.place - 1) c.index-sites-earlier.result refl below c.index-sites-earlier.is) c.after.ensures
