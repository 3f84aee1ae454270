use Rattle.std.proofs.Common.{◌+◌, ◌<◌, length, arith, refl}
use Rattle.std.proofs.lemmas.Grind.{common_steps}
use Rattle.std.proofs.lemmas.Option.{slice_get_read}
use Rattle.lg_sharpen.proofs.Narrowing.{behind_next}
use Rattle.lg_sharpen.proofs.narrow.behind_of.Goals as goal

pub returns : goal.returns
returns c =
    let inside = c.requires in
    let below : c.args.place + 1 < length c.args.sites.now = (let t = c.if-later-sites.false in grind (arith, common_steps)) in
    behind_next c.args.sites.now c.args.place c.index-sites-later.result (slice_get_read c.args.sites.now (length c.args.sites.now) (c.args.place + 1) c.index-sites-later.result refl below c.index-sites-later.is)
