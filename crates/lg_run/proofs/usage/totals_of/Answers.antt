use Rattle.std.proofs.Common.{◌+◌, ◌*◌, ◌^◌, ap, drop, get_or, length, [], subst, arith}
use Rattle.lg_run.specs.Printers.{together}
use Rattle.lg_run.proofs.PrintedSessions.{same_many, share_at, firsts_next, one_fewer}
use Rattle.lg_run.proofs.Shares.{may_add, share_both, more_so_far, all_so_far}
use Rattle.lg_run.proofs.Writing.{none_left}
use Rattle.lg_run.proofs.usage.totals_of.Goals as goal

-- the linkages of both shares are few
pub merge-requires : goal.merge-requires
merge-requires c =
    let firsts = c.requires.shares.0 in
    let have = c.requires.shares.1 in
    let i = c.loop-printed.printed-index in
    let w = c.loop-printed.invariant firsts have in
    let fewer = one_fewer c.args.all.now i c.printed-item.result c.loop-printed-test.true in
    may_add w.count (2 ^ 32) w.done (get_or firsts i []) c.loop-printed.totals c.printed-item.result.share w.share (share_at firsts c.args.all.now i c.printed-item.result have c.loop-printed-test.true c.printed-item.is) (omega (arith, w.few, fewer))

-- the next session is counted
pub loop-printed-preserved : goal.loop-printed-preserved
loop-printed-preserved c = λ firsts have.
    let i = c.loop-printed.printed-index in
    let gs = get_or firsts i [] in
    let one = c.printed-item.result in
    let w = c.loop-printed.invariant firsts have in
    let many = same_many firsts c.args.all.now have in
    let fewer = one_fewer c.args.all.now i one c.loop-printed-test.true in
    more_so_far c.merge.new.self gs (together (drop (i + 1) firsts)) (2 ^ 32) (2 ^ 32 * length (drop (i + 1) c.args.all.now)) w (firsts_next firsts i (omega (arith, many, c.loop-printed-test.true))) (omega (arith, fewer))
    (share_both w.count (2 ^ 32) w.done gs c.loop-printed.totals one.share w.share (share_at firsts c.args.all.now i one have c.loop-printed-test.true c.printed-item.is) c.shares_agree.ensures.grow c.merge.new.self c.in_ok-merge.ensures.ok)

-- no session is left
pub returns : goal.returns
returns c = λ firsts have.
    let i = c.loop-printed.printed-index in
    let many = same_many firsts c.args.all.now have in
    (all_so_far (c.loop-printed.invariant firsts have) (ap together (none_left firsts i (omega (arith, many, c.loop-printed-test.false))))).counted
