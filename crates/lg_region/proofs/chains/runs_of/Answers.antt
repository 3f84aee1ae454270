use Rattle.std.proofs.Common.{◌-◌, ◌≡◌, suc, get_or, refl, subst, arith, rules}
use Rattle.lg_region.specs.Numbered.{AreRuns, EndsRun}
use Rattle.lg_region.proofs.Chaining.{runs_more}
use Rattle.lg_region.proofs.chains.runs_of.Goals as goal

pub loop-number-preserved : goal.loop-number-preserved
loop-number-preserved c =
    let nexts = c.args.nexts.now in
    let row = c.args.row.now in
    let n = c.loop-number.number - 1 in
    let runs = c.loop-number.runs.items in
    let test = c.loop-number-test.true in
    let e : c.loop-number.number ≡ suc n = omega arith in
    let so = subst (λ z. AreRuns nexts row z runs) e c.loop-number.invariant in
    runs_more nexts row runs _ n (get_or nexts n 0) c.run_end.result (search rules) refl so (subst (λ z. EndsRun row z n (get_or nexts n 0) c.run_end.result) c.deref.ensures.value c.run_end.ensures) refl

pub returns : goal.returns
returns c =
    let test = c.loop-number-test.false in
    subst (λ z. AreRuns c.args.nexts.now c.args.row.now z c.loop-number.runs.items) (omega arith) c.loop-number.invariant
