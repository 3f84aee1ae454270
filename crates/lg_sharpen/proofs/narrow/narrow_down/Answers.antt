use Rattle.std.proofs.Common.{◌-◌, subst, arith}
use Rattle.std.proofs.lemmas.Grind.{common_steps}
use Rattle.lg_sharpen.specs.Bounds.{IsNarrowed}
use Rattle.lg_sharpen.proofs.Narrowing.{same_more}
use Rattle.lg_sharpen.proofs.narrow.narrow_down.Goals as goal

pub loop-behind-preserved : goal.loop-behind-preserved
loop-behind-preserved c =
    let long = c.loop-behind.invariant.long in
    let count = c.len-count.ensures in
    let test = c.loop-behind-test.true in
    same_more c.args.right c.args.most c.args.gaps.now c.args.position c.args.table.now c.args.sites.now.items c.loop-behind.sites.items (c.len-count.result - 1 - c.loop-behind.behind) c.again.result (grind (arith, common_steps))
    (subst (λ z. IsNarrowed c.args.right c.args.most c.args.gaps.now c.args.position c.args.table.now z (c.len-count.result - 1 - c.loop-behind.behind) c.again.result) c.deref.ensures.value c.again.ensures) c.loop-behind.invariant

pub returns : goal.returns
returns c = c.loop-behind.invariant.narrows
