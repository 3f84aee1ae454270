use Rattle.std.proofs.Common.{refl, length}
use Rattle.std.proofs.lemmas.Option.{slice_get_read}
use Rattle.lg_sharpen.proofs.Narrowing.{narrowed_same}
use Rattle.lg_sharpen.proofs.narrow.again.Goals as goal

pub returns-then-behind_of-old : goal.returns-then-behind_of-old
returns-then-behind_of-old c =
    narrowed_same c.args.right c.args.most c.args.gaps.now c.args.position c.args.table.now c.args.sites.now c.args.place c.index-sites-place.result
    (slice_get_read c.args.sites.now (length c.args.sites.now) c.args.place c.index-sites-place.result refl c.requires c.index-sites-place.is)
