use Rattle.std.proofs.Common.{subst, arith}
use Rattle.std.proofs.lemmas.Grind.{common_steps}
use Rattle.lg_sharpen.specs.Bounds.{IsNarrowed}
use Rattle.lg_sharpen.proofs.Narrowing.{same_more}
use Rattle.lg_sharpen.proofs.narrow.narrow_up.Goals as goal

pub loop-place-preserved : goal.loop-place-preserved
loop-place-preserved c =
    let long = c.loop-place.invariant.long in
    let count = c.len-count.ensures in
    let test = c.loop-place-test.true in
    same_more c.args.right c.args.most c.args.gaps.now c.args.position c.args.table.now c.args.sites.now.items c.loop-place.sites.items c.loop-place.place c.narrowed-site.result (grind (arith, common_steps))
    (subst (λ z. IsNarrowed c.args.right c.args.most c.args.gaps.now c.args.position c.args.table.now z c.loop-place.place c.narrowed-site.result) c.deref.ensures.value c.narrowed-site.ensures) c.loop-place.invariant

pub returns : goal.returns
returns c = c.loop-place.invariant.narrows

pub returns-then-is_shut : goal.returns-then-is_shut
returns-then-is_shut c =
    let long = c.loop-place.invariant.long in
    let count = c.len-count.ensures in
    let test = c.loop-place-test.true in
    (same_more c.args.right c.args.most c.args.gaps.now c.args.position c.args.table.now c.args.sites.now.items c.loop-place.sites.items c.loop-place.place c.narrowed-site.result (grind (arith, common_steps))
    (subst (λ z. IsNarrowed c.args.right c.args.most c.args.gaps.now c.args.position c.args.table.now z c.loop-place.place c.narrowed-site.result) c.deref.ensures.value c.narrowed-site.ensures) c.loop-place.invariant).narrows
