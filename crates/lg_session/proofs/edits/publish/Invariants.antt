use Rattle.std.proofs.Common.{◌+◌, ◌≤◌, ◌<◌, length, sum}
use Rattle.lg_edit.specs.Edits.{edit_view}
use Rattle.lg_session.specs.Learning.{Learns, Walks, Accepts}
use Rattle.lg_script.specs.Commands.{script_views}
use Rattle.lg_session.proofs.edits.publish.Given as goal

abbrev pub invariant-loop : goal.invariant-loop
invariant-loop l = Learns (script_views l.scripts) (l.initial.pass, l.initial.view) (l.pass, l.view)
    × Walks (script_views l.scripts) (Accepts (edit_view l.edit)) (l.initial.pass, l.initial.view) (l.pass, l.view)
    × (length l.initial.pass.seen + l.counter ≤ length l.pass.seen) × (0 < l.counter → length l.pass.seen ≤ sum l.pass.log.counts)
