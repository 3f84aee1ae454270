use Rattle.std.proofs.Common.{◌≡◌, ◌≤◌, ◌+◌, ◌++◌, length}
use Rattle.lg_session.specs.Rows.{jobs_from}
use Rattle.lg_session.proofs.run.jobs_of.Given as goal

abbrev pub invariant-loop-pass : goal.invariant-loop-pass
invariant-loop-pass l =
    (goal.iterator-loop-pass).can_next l.pass-iterator × (goal.iterator-loop-pass).is_finite l.pass-iterator
    × (length l.jobs.items + length l.pass-iterator.rest.items ≤ 64)
    × (l.jobs.items ++ jobs_from (length l.jobs.items) l.pass-iterator.rest.items ≡ jobs_from 0 l.fn.passes.items)
