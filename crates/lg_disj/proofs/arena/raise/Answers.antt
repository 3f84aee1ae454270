use Rattle.std.proofs.Common.{◌≡◌, ◌<◌, length, get_or, set, ap, ◌∙◌, add-one, arith}
use Rattle.lg_disj.specs.Places.{raised_row}
use Rattle.lg_disj.proofs.Products.{one_dearer}
use Rattle.lg_disj.proofs.arena.raise.Goals as goal

pub loop-row-preserved : goal.loop-row-preserved
loop-row-preserved c =
    let at = c.loop-row in
    let f = raised_row c.args.price in
    let old = get_or at.rows at.row-index c.row-item.result in
    let within : at.row-index < length c.args.rows.now = omega arith in
    let one : record { from = old.from; middle = old.middle; end = old.end; cost = c.plus-row.result } ≡ f old =
    λ i. record { from = old.from; middle = old.middle; end = old.end; cost = c.plus-row.ensures i } in
    let new = one ∙ ap (λ rows. f (get_or rows at.row-index c.row-item.result)) at.invariant in
    rw add-one ((λ i. set (at.invariant i) at.row-index (new i)) ∙ one_dearer f c.args.rows.now at.row-index c.row-item.result within)
