use Rattle.std.proofs.Common.{◌+◌, ◌<◌, length, arith, refl}
use Rattle.std.proofs.lemmas.Grind.{common_steps}
use Rattle.std.proofs.lemmas.Option.{slice_get_read}
use Rattle.lg_sharpen.proofs.Narrowing.{end_before}
use Rattle.lg_sharpen.proofs.narrow.end_of.Goals as goal

pub returns : goal.returns
returns c =
    let inside = c.requires in
    let below : c.args.place + 1 < length c.args.sites.now = (let t = c.if-later-sites.false in grind (arith, common_steps)) in
    end_before c.args.sites.now c.args.place c.index-sites-place.result c.index-sites-later.result c.ahead.result (slice_get_read c.args.sites.now (length c.args.sites.now) c.args.place c.index-sites-place.result refl c.requires c.index-sites-place.is)
    (slice_get_read c.args.sites.now (length c.args.sites.now) (c.args.place + 1) c.index-sites-later.result refl below c.index-sites-later.is) c.ahead.ensures
