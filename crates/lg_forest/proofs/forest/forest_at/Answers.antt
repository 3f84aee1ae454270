use Rattle.std.proofs.Common.{◌+◌, ap, subst, length, arith}
use Rattle.lg_region.specs.Fronts.{AreListsOf}
use Rattle.lg_forest.proofs.Going.{asked_taken, counts_taken, ready_first}
use Rattle.lg_forest.proofs.Solved.{is_forest, solved_counts, asked_one}
use Rattle.lg_forest.proofs.forest.forest_at.Goals as goal

pub visit-requires-clause-ready : goal.visit-requires-clause-ready
visit-requires-clause-ready g c =
    let n = c.args.lists.now in
    let few = c.positions-positions.ensures.limits.few in
    let long = ap length c.requires.positions in
    let room = c.requires.room in
    ready_first (c.keys_are_decided.ensures n.positions n.lists c.are_numbered.ensures) c.requires.known c.of-search.ensures.table c.of-search.ensures.known c.of-search.ensures.openings c.of-search.ensures.halves c.of-search.ensures.shut (omega arith)

pub returns-clause-forest : goal.returns-clause-forest
returns-clause-forest g c =
    let n = c.args.lists.now in
    is_forest n c.args.problem.now c.args.nulls c.args.nulls c.of-search.result.table c.into_table.result c.of.result (omega arith) c.requires.positions
    (c.keys_are_decided.ensures n.positions n.lists c.are_numbered.ensures) (subst (λ z. AreListsOf z n.lists) c.requires.positions c.are_numbered.ensures) c.of-search.ensures.table
    (asked_one n c.args.nulls c.of-search.result.table c.into_table.result (asked_taken c.in_ok-visit.ensures.goes c.into_table.ensures)) c.of.ensures.live c.of.ensures.once c.of.ensures.unused

pub returns-clause-steps : goal.returns-clause-steps
returns-clause-steps g c =
    let n = c.args.lists.now in
    let known = c.args.known in
    let left = c.visit.new.self.memory.known in
    let steps = counts_taken c.in_ok-visit.ensures.goes c.of-search.ensures.known c.into_table.ensures in
    let all = solved_counts n c.args.problem.now c.args.nulls c.args.nulls (c.args.steps.now + length left) (c.visit.new.steps + length known) c.of-search.result.table c.into_table.result c.requires.positions (subst (λ z. AreListsOf z n.lists) c.requires.positions c.are_numbered.ensures) c.of-search.ensures.table
    (asked_one n c.args.nulls c.of-search.result.table c.into_table.result (asked_taken c.in_ok-visit.ensures.goes c.into_table.ensures)) c.of.ensures.were_once steps.0 in
    let fewer = steps.1 in
    λ lists first. let r = all lists first in let count = r.2 in (r.0, r.1, omega arith, λ none. (let empty = ap length none in omega arith))
