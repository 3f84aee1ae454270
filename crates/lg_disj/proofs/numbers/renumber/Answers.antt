use Rattle.std.proofs.Common.{◌≡◌, ◌<◌, length, get_or, set, ap, ◌∙◌, add-one, arith}
use Rattle.lg_disj.specs.Ranks.{renumbered}
use Rattle.lg_disj.proofs.Products.{one_dearer}
use Rattle.lg_disj.proofs.numbers.renumber.Goals as goal

pub loop-one-preserved : goal.loop-one-preserved
loop-one-preserved c =
    let at = c.loop-one in
    let f = renumbered c.args.ranks.now in
    let old = get_or at.numbered at.one-index c.one-item.result in
    let within : at.one-index < length c.args.numbered.now = omega arith in
    let one : record { left = c.rank_at-one.result; right = c.rank_at-one-in-loop-one.result; row = old.row } ≡ f old =
    λ i. record { left = c.rank_at-one.ensures i; right = c.rank_at-one-in-loop-one.ensures i; row = old.row } in
    let new = one ∙ ap (λ ks. f (get_or ks at.one-index c.one-item.result)) at.invariant in
    rw add-one ((λ i. set (at.invariant i) at.one-index (new i)) ∙ one_dearer f c.args.numbered.now at.one-index c.one-item.result within)
