use Rattle.std.proofs.Common.{Some, None, refl, ap, subst, ◌∙◌}
use Rattle.lg_script.specs.Commands.{command_view, script_views}
use Rattle.lg_core.specs.declared.look.Looked.TheVariants.{Waits, Accepted, Ends}
use Rattle.lg_core.specs.Core.{next_place, ended}
use Rattle.lg_core.specs.Steps.{LooksSo, newest_of}
use Rattle.lg_core.proofs.Cores.{is_session, small_place}
use Rattle.lg_core.proofs.Outcomes.{looks_seen, look_happens, waits_for}
use Rattle.lg_core.proofs.stepping.look.Goals as goal

pub look_at_end-requires-clause-command : goal.look_at_end-requires-clause-command
look_at_end-requires-clause-command c =
    c.place_laws.ensures.bounds (script_views c.args.scripts.now) c.requires.scripts (next_place c.args.session c.in-Some.actor) (command_view c.in-Some.command.now) c.in-Some.ensures.next.asks_for

pub returns-in-Waits-clause-done : goal.returns-in-Waits-clause-done
returns-in-Waits-clause-done c =
    let views = script_views c.args.scripts.now in
    let command = command_view c.in-Some.command.now in
    let so = subst (LooksSo (newest_of views c.args.base.now c.args.core.now) command) c.in-Waits.is c.in_ok-look_at_end.ensures in
    (refl, waits_for views c.args.base.now c.args.core.now c.args.session c.in-Some.actor command c.in-Some.ensures (looks_seen views c.args.base.now c.args.core.now c.args.session c.in-Some.actor command Waits c.in-Some.ensures so))

pub returns-in-Accepted-clause-done : goal.returns-in-Accepted-clause-done
returns-in-Accepted-clause-done c =
    let views = script_views c.args.scripts.now in
    let command = command_view c.in-Some.command.now in
    let so = subst (LooksSo (newest_of views c.args.base.now c.args.core.now) command) c.in-Accepted.is c.in_ok-look_at_end.ensures in
    look_happens views c.args.base.now c.args.core.now c.args.session c.in-Some.actor c.args.core.now None command Accepted c.in-Some.ensures
    (looks_seen views c.args.base.now c.args.core.now c.args.session c.in-Some.actor command Accepted c.in-Some.ensures so) (refl, refl)

pub held_after-held-requires : goal.held_after-held-requires
held_after-held-requires c = small_place (script_views c.args.scripts.now) c.args.core.now c.args.session c.in-Some.actor (command_view c.in-Some.command.now) c.requires.scripts c.in-Some.ensures.next

pub end-note-requires-clause-session : goal.end-note-requires-clause-session
end-note-requires-clause-session c = is_session (script_views c.args.scripts.now) c.args.core.now c.args.session c.in-Some.actor (command_view c.in-Some.command.now) c.in-Some.ensures.next

pub end-note-requires-clause-next : goal.end-note-requires-clause-next
end-note-requires-clause-next c = small_place (script_views c.args.scripts.now) c.args.core.now c.args.session c.in-Some.actor (command_view c.in-Some.command.now) c.requires.scripts c.in-Some.ensures.next

pub returns-in-Ends-clause-done : goal.returns-in-Ends-clause-done
returns-in-Ends-clause-done c =
    let views = script_views c.args.scripts.now in
    let command = command_view c.in-Some.command.now in
    let so = subst (LooksSo (newest_of views c.args.base.now c.args.core.now) command) c.in-Ends.is c.in_ok-look_at_end.ensures in
    look_happens views c.args.base.now c.args.core.now c.args.session c.in-Some.actor c.end-note.new.self (Some c.end-note.result) command (Ends c.in-Ends.kind) c.in-Some.ensures
    (looks_seen views c.args.base.now c.args.core.now c.args.session c.in-Some.actor command (Ends c.in-Ends.kind) c.in-Some.ensures so)
    (c.end-note.ensures.ended ∙ ap (ended c.args.core.now c.args.session c.in-Some.actor) c.held_after-held.ensures, ap Some c.end-note.ensures.note)
