use Rattle.std.proofs.Common.{arith, length, vec_len}
use Rattle.lg_rules.proofs.Fewest.{of_one_problem, none_yet, are_candidates, never_beyond, empty, not_empty}
use Rattle.lg_rules.proofs.list.plain_list.Goals as goal

pub in_order-requires : goal.in_order-requires
in_order-requires c = of_one_problem c.args.problem.now c.loop-spare.spare c.in_ok-all.all.items c.in_ok-all.ensures c.positions.ensures.limits

pub returns-then-not-is_empty : goal.returns-then-not-is_empty
returns-then-not-is_empty c =
    let all = c.in_ok-all.all in
    are_candidates c.args.problem.now c.loop-spare.spare all.items c.in_ok-all.ensures c.loop-spare.invariant
    (not_empty (vec_len all) (length all.items) c.is_empty.result c.is_empty.ensures c.if-not-is_empty.true (omega (arith, all.ok.0)))
    c.in_ok-list.list.items c.in_ok-list.ensures.rise c.in_ok-list.ensures.same

pub loop-spare-preserved : goal.loop-spare-preserved
loop-spare-preserved c =
    let all = c.in_ok-all.all in
    none_yet c.args.problem.now c.loop-spare.spare all.items c.in_ok-all.ensures
    (empty (vec_len all) (length all.items) c.is_empty.result c.is_empty.ensures c.if-not-is_empty.false (omega (arith, all.ok.0)))

pub unreachable-requires : goal.unreachable-requires
unreachable-requires c = never_beyond c.args.problem.now c.loop-spare.spare (rw c.positions.ensures.value at c.loop-spare-test.false) c.loop-spare.invariant
