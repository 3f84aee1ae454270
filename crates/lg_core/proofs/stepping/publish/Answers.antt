use Rattle.std.proofs.Common.{◌<◌, List, length, Some, refl, ap, sym, subst, ◌∙◌, arith}
use Rattle.lg_script.specs.declared.command.Command.{Command}
use Rattle.lg_script.specs.Commands.{command_view, script_views}
use Rattle.lg_core.specs.declared.event.Event.TheVariants.{Publish}
use Rattle.lg_core.specs.declared.look.Looked.TheVariants.{Accepted}
use Rattle.lg_core.specs.Core as happens
use Rattle.lg_core.specs.Core.{next_place, next_code, seen_by, IsNextAtEnd}
use Rattle.lg_core.specs.Steps.{LooksSo, newest_of}
use Rattle.lg_core.proofs.Cores.{is_session, small_place, published_so, note_so}
use Rattle.lg_core.proofs.Named.{session_there, code_is}
use Rattle.lg_core.proofs.Outcomes.{as_it_is, accepted_edit, looks_seen, not_accepted}
use Rattle.lg_core.proofs.NextCommand.{asked}
use Rattle.lg_core.proofs.stepping.publish.Goals as goal

pub look_at_end-requires-clause-command : goal.look_at_end-requires-clause-command
look_at_end-requires-clause-command c =
    c.place_laws.ensures.bounds (script_views c.args.scripts.now) c.requires.scripts (next_place c.args.session c.in-Some.actor) (command_view c.in-Some.command.now) c.in-Some.ensures.next.asks_for

pub returns-in_default-2 : goal.returns-in_default-2
returns-in_default-2 c = record {
  done = (
    refl,
    not_accepted (script_views c.args.scripts.now) c.args.base.now c.args.core.now c.args.session c.in-Some.actor (command_view c.in-Some.command.now) c.in_ok-look_at_end.field-0
        c.in-Some.ensures c.in_ok-look_at_end.ensures c.in_default-2.not-Accepted,
  );
  unchanged = tt;
}

pub bounds-items-session : goal.bounds-items-session
bounds-items-session c =
    subst (λ (l : List (List Command)). c.args.session < length l) (sym c.items.ensures)
    (session_there c.args.scripts.now c.args.core.now c.args.session c.in-Some.actor (command_view c.in-Some.command.now) c.in-Some.ensures.next)

pub code-requires : goal.code-requires
code-requires c =
    let there = (asked (script_views c.args.scripts.now) c.args.session c.in-Some.actor.place (command_view c.in-Some.command.now) c.in-Some.ensures.next.asks_for).0 in
    omega (arith, there, c.requires.scripts.few)

pub end-note-requires-clause-session : goal.end-note-requires-clause-session
end-note-requires-clause-session c = is_session (script_views c.args.scripts.now) c.args.core.now c.args.session c.in-Some.actor (command_view c.in-Some.command.now) c.in-Some.ensures.next

pub end-note-requires-clause-next : goal.end-note-requires-clause-next
end-note-requires-clause-next c = small_place (script_views c.args.scripts.now) c.args.core.now c.args.session c.in-Some.actor (command_view c.in-Some.command.now) c.requires.scripts c.in-Some.ensures.next

pub returns-clause-done : goal.returns-clause-done
returns-clause-done c =
    let scripts = c.args.scripts.now in
    let views = script_views scripts in
    let core = c.args.core.now in
    let s = c.args.session in
    let a = c.in-Some.actor in
    let command = command_view c.in-Some.command.now in
    let base = c.args.base.now in
    let so = subst (LooksSo (newest_of views base core) command) c.in-Accepted.is c.in_ok-look_at_end.ensures in
    let edit = accepted_edit (seen_by views base core a) command (looks_seen views base core s a command Accepted c.in-Some.ensures so) in
    let end_ = subst (IsNextAtEnd views core s a) edit.1 c.in-Some.ensures in
    let code = code_is scripts c.items.result.now s a c.index-items-session.result c.edits_before-index.result c.code.result c.items.ensures
    (session_there scripts core s a command c.in-Some.ensures.next) c.index-items-session.is c.edits_before-index.ensures.count c.code.ensures.code in
    let after = published_so core s a c.append.new.history c.version-seen.result c.code.result (next_code views s a) c.in_ok-append.ensures.appended code c.version-seen.ensures c.in-Some.ensures.has_seen_all in
    let told = note_so core s a c.append.new.history c.version-seen.result c.code.result (next_code views s a) c.in_ok-append.ensures.appended code c.version-seen.ensures c.in-Some.ensures.has_seen_all in
    as_it_is views base core (Publish s) c.end-note.new.self _ (Some c.end-note.result) _ (c.end-note.ensures.ended ∙ after, ap Some (c.end-note.ensures.note ∙ told))
    (happens.publishes s a edit.0 end_ edit.2)
