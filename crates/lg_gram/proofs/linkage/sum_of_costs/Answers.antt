use Rattle.std.proofs.Common.{arith, ap, sym, subst}
use Rattle.std.proofs.lemmas.Int.{ints}
use Rattle.lg_gram.specs.Linkages.{cost_of, HasSmallCost}
use Rattle.lg_gram.proofs.Costs.{cost_sum-drop, small_cost}
use Rattle.lg_gram.proofs.linkage.sum_of_costs.Goals as goal

-- one more choice adds its cost, which is small
pub loop-choice-preserved : goal.loop-choice-preserved
loop-choice-preserved c =
    let step = cost_sum-drop c.args.choices.now c.loop-choice.choice-index c.choice-item.result (omega arith) in
    let item = ap cost_of c.choice-item.is in
    let small = small_cost c.choice-item.result (subst HasSmallCost (sym c.choice-item.is) (c.requires.small c.loop-choice.choice-index c.choice-item.result (omega arith))) in
    record { told = omega (arith, ints); low = omega (arith, ints); high = omega (arith, ints) }
