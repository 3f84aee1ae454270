use Rattle.std.proofs.Common.{◌≡◌, length, min, sym, ◌∙◌, arith}
use Rattle.lg_gram.proofs.Lists.{slice_cmp_ended}
use Rattle.lg_gram.proofs.order.rank_lists.Goals as goal

-- where no elements differ, the lengths decide
pub returns : goal.returns
returns g c =
    let at_end : c.loop-i.i ≡ min (length c.args.a.now) (length c.args.b.now) = omega arith in
    c.cmp.ensures ∙ sym (slice_cmp_ended g.T.Ranked.rank c.args.a.now c.args.b.now c.loop-i.i at_end) ∙ c.loop-i.invariant
