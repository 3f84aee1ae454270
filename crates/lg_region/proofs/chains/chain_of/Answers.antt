use Rattle.std.proofs.Common.{◌-◌, ◌<◌, ◌≡◌, suc, length, set, get_or, ap, ◌∙◌, refl, subst, arith, rules}
use Rattle.std.proofs.lemmas.Grind.{get_or_default_zero}
use Rattle.lg_region.specs.Chains.{IsChainFrom}
use Rattle.lg_region.proofs.Chaining.{chain_more}
use Rattle.lg_region.proofs.chains.chain_of.Goals as goal

pub loop-number-preserved : goal.loop-number-preserved
loop-number-preserved c =
    let classes = c.args.classes.now in
    let n = c.loop-number.number - 1 in
    let firsts = c.loop-number.firsts.items in
    let nexts = c.loop-number.nexts.items in
    let k = get_or classes n 0 in
    let test = c.loop-number-test.true in
    let bound = c.loop-number.auto.number in
    let e : c.loop-number.number ≡ suc n = omega arith in
    let so = subst (λ z. IsChainFrom classes z firsts nexts) e c.loop-number.invariant in
    let long = so.all in
    let l : n < length classes = omega arith in
    let small : k < 256 = search rules in
    let within : k < length firsts = omega arith in
    chain_more classes n k firsts nexts _ _ l refl small so refl (ap (λ z. set nexts n z) (c.index.ensures ∙ get_or_default_zero firsts k c.index.result.now within))

pub returns : goal.returns
returns c =
    let test = c.loop-number-test.false in
    subst (λ z. IsChainFrom c.args.classes.now z c.loop-number.firsts.items c.loop-number.nexts.items) (omega arith) c.loop-number.invariant
