use Rattle.std.proofs.Common.{◌+◌, ap, subst, sym, length, arith}
use Rattle.lg_region.specs.Fronts.{AreListsOf}
use Rattle.lg_forest.specs.Demands.{IsDemanded}
use Rattle.lg_forest.specs.Forests.{CountsKeys}
use Rattle.lg_forest.proofs.Going.{asked_taken, counts_taken, ready_first}
use Rattle.lg_forest.proofs.Solved.{is_forest, solved_counts}
use Rattle.lg_forest.proofs.forest.solve.Goals as goal

pub fewest-requires-clause-ready : goal.fewest-requires-clause-ready
fewest-requires-clause-ready g c =
    let n = c.in_ok-lists.lists in
    let few = c.positions.ensures.limits.few in
    let last = c.requires.room in
    let long = ap length c.positions.ensures.value in
    ready_first (c.keys_are_decided.ensures n.positions n.lists (subst (λ z. AreListsOf z n.lists) (sym c.in_ok-lists.ensures.positions) c.in_ok-lists.ensures.lists)) c.in_ok-known.ensures.known c.of-search.ensures.table c.of-search.ensures.known c.of-search.ensures.openings c.of-search.ensures.halves c.of-search.ensures.shut (omega arith)

pub returns-clause-forest : goal.returns-clause-forest
returns-clause-forest g c =
    let n = c.in_ok-lists.lists in
    is_forest n c.args.problem.now 0 c.in_ok-unused.unused c.of-search.result.table c.into_table.result c.of-2.result (omega arith) c.in_ok-lists.ensures.positions
    (c.keys_are_decided.ensures n.positions n.lists (subst (λ z. AreListsOf z n.lists) (sym c.in_ok-lists.ensures.positions) c.in_ok-lists.ensures.lists)) c.in_ok-lists.ensures.lists c.of-search.ensures.table
    (asked_taken c.in_ok-unused.ensures.goes c.into_table.ensures) c.of-2.ensures.live c.of-2.ensures.once c.of-2.ensures.unused

pub returns-clause-steps : goal.returns-clause-steps
returns-clause-steps g c =
    let n = c.in_ok-lists.lists in
    let known = c.in_ok-known.known in
    let left = c.fewest.new.self.memory.known in
    let steps = counts_taken c.in_ok-unused.ensures.goes c.of-search.ensures.known c.into_table.ensures in
    let all = solved_counts n c.args.problem.now 0 c.in_ok-unused.unused (c.args.steps.now + length left) (c.fewest.new.steps + length known) c.of-search.result.table c.into_table.result c.in_ok-lists.ensures.positions c.in_ok-lists.ensures.lists c.of-search.ensures.table
    (asked_taken c.in_ok-unused.ensures.goes c.into_table.ensures) c.of-2.ensures.were_once steps.0 in
    let fewer = steps.1 in
    λ lists first. let r = all lists first in let count = r.2 in (
      r.0,
      subst (λ z. CountsKeys (IsDemanded c.args.problem.now lists 0 z) r.0) (sym c.of-2.ensures.unused) r.1,
      record {
        at_most = omega arith;
        alone = λ one. (let none = ap length (c.in_ok-known.ensures.alone one) in omega arith);
      },
    )
