use Rattle.std.proofs.Common.{get_or, length, ap, arith}
use Rattle.lg_pp.specs.Reach.{IsRow, IsStart}
use Rattle.lg_pp.proofs.Good.{no_link, has_at, ends_within}
use Rattle.lg_pp.proofs.Picking.{flag_here}
use Rattle.lg_pp.proofs.Zipped.{zip_more}
use Rattle.lg_pp.proofs.reach.found_rows.Goals as goal

pub bounds-starts-n : goal.bounds-starts-n
bounds-starts-n c = let e = ap length c.links-start-items.ensures.value in omega arith

pub row-requires-clause-within : goal.row-requires-clause-within
row-requires-clause-within c =
    let links = c.links-start-items.result.now in
    let within = ends_within c.args.g.now c.requires.good (get_or links c.loop-n.n no_link) (has_at c.args.g.now links c.loop-n.n c.links-start-items.ensures.value c.loop-n-test.true) in
    let few = c.links-start-items.ensures.limits.few in
    omega arith

-- one more row
pub loop-n-preserved : goal.loop-n-preserved
loop-n-preserved c = λ know ignores starts.
    let links = c.links-start-items.result.now in
    let n = c.loop-n.n in
    let less = c.loop-n-test.true in
    let says = flag_here (IsStart know c.args.g.now) c.args.g.now c.args.starts.now links n starts c.links-start-items.ensures.value less in
    rw c.in_ok-push.ensures.items
    (zip_more (IsRow know c.args.g.now) links c.loop-n.rows.items n no_link c.in_ok-row.field-0 less (c.loop-n.invariant know ignores starts) (c.in_ok-row.ensures know ignores says))
