use Rattle.std.proofs.Common.{refl, length, rules}
use Rattle.std.proofs.lemmas.Option.{slice_get_read}
use Rattle.lg_sharpen.proofs.Narrowing.{narrowed_is}
use Rattle.lg_sharpen.proofs.narrow.narrowed.Goals as goal

pub returns : goal.returns
returns c =
    narrowed_is c.args.right c.args.most c.args.gaps.now c.args.position c.args.cells.now c.column_of-column.result.cells.now c.column_of-column.ensures.cells c.args.sites.now c.args.place c.index-sites-place.result _ _ _ _
    (slice_get_read c.args.sites.now (length c.args.sites.now) c.args.place c.index-sites-place.result refl c.requires c.index-sites-place.is)
    (record { connector = refl; from = c.from_of.ensures; end = c.end_of.ensures; later = refl; before = c.before_of.ensures; behind = c.behind_of.ensures; need = refl }) (λ n. search rules)
    (record { connector = refl; from = c.from_of.ensures; end = c.end_of.ensures; later = refl; before = c.before_of.ensures; behind = c.behind_of.ensures; need = refl }) refl c.first-from.ensures refl c.last-end.ensures refl
