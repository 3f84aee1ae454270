use Rattle.std.proofs.Common.{◌≡◌, length, min, sym, ◌∙◌, arith}
use Rattle.lg_gram.specs.Linkages.{tie_cmp}
use Rattle.lg_rank.proofs.Compared.{slice_cmp_ended}
use Rattle.lg_rank.proofs.ready.compare_links.Goals as goal

-- where no links differ, the lengths decide
pub returns : goal.returns
returns c =
    let at_end : c.loop-i.i ≡ min (length c.args.a.now) (length c.args.b.now) = omega arith in
    c.cmp.ensures ∙ sym (slice_cmp_ended tie_cmp c.args.a.now c.args.b.now c.loop-i.i at_end) ∙ c.loop-i.invariant
