use Rattle.std.proofs.Common.{◌+◌, ◌<◌, length, get_or, false, refl, sym, subst, arith, ap, ◌∙◌, Some}
use Rattle.std.proofs.lemmas.Option.{slice_get_read, slice_get-get_or}
use Rattle.lg_pprune.proofs.Tables.{ServedSoFar, served_more, served_all}
use Rattle.lg_pprune.proofs.table.served.Goals as goal

pub loop-index-preserved : goal.loop-index-preserved
loop-index-preserved c =
    let h = c.loop-index-test.true in
    let e = c.requires in
    let l : c.loop-index.index < length c.args.used.now = omega arith in
    subst (λ z. ServedSoFar c.args.right c.args.words c.args.table.now c.args.sides.now c.args.used.now (c.loop-index.index + 1) z) (sym c.in_ok-push.ensures.items)
    (served_more c.args.right c.args.words c.args.table.now c.args.sides.now c.args.used.now c.loop-index.index c.loop-index.good.items c.index-sides-index.result
    (get_or c.args.used.now c.loop-index.index false) c.is_good-is_good.result (slice_get_read c.args.sides.now (length c.args.sides.now) c.loop-index.index c.index-sides-index.result refl h c.index-sides-index.is)
    (slice_get-get_or c.args.used.now c.loop-index.index false l ∙ ap (λ z. Some z) refl) c.is_good-is_good.ensures c.loop-index.invariant)

pub returns : goal.returns
returns c = served_all c.args.right c.args.words c.args.table.now c.args.sides.now c.args.used.now c.loop-index.index c.loop-index.good.items c.loop-index-test.false c.loop-index.invariant
