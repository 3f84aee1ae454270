use Rattle.std.proofs.Common.{sym, subst}
use Rattle.lg_gram.specs.Problems.{IsProblem}
use Rattle.lg_pprune.specs.Alive.{IsPruned}
use Rattle.lg_pprune.proofs.Pruned.{finished}
use Rattle.lg_pprune.proofs.prune.alive.Goals as goal

pub of_known-requires : goal.of_known-requires
of_known-requires c =
    let ps = c.positions-positions.result.now in
    let p = finished c.rows_are_problems.ensures ps c.members_of.new.lefts.items c.members_of.new.rights.items c.in_ok-members.members.items c.settle.new.members.items c.deref-3.result.now c.in_ok-rows.rows c.in_ok-members.ensures.members c.in_ok-settle.ensures
    (subst (λ z. IsProblem z) (sym c.positions-positions.ensures.value) c.positions-positions.ensures.limits) c.deref-3.ensures.value c.in_ok-rows.ensures in
    p.is_problem

pub returns : goal.returns
returns c =
    let ps = c.positions-positions.result.now in
    let p = finished c.rows_are_problems.ensures ps c.members_of.new.lefts.items c.members_of.new.rights.items c.in_ok-members.members.items c.settle.new.members.items c.deref-3.result.now c.in_ok-rows.rows c.in_ok-members.ensures.members c.in_ok-settle.ensures
    (subst (λ z. IsProblem z) (sym c.positions-positions.ensures.value) c.positions-positions.ensures.limits) c.deref-3.ensures.value c.in_ok-rows.ensures in
    subst (λ z. IsPruned c.args.problem.now z) (sym c.of_known.ensures) (subst (λ z. IsPruned z c.in_ok-rows.rows) c.positions-positions.ensures.value p)
