use Rattle.std.proofs.Common.{◌≤◌, Option, Some, IfSome, refl, ap, subst, arith}
use Rattle.lg_script.specs.Commands.{command_view, script_views}
use Rattle.lg_core.specs.declared.event.Event.TheVariants.{More}
use Rattle.lg_core.specs.declared.state.Hold.{Hold}
use Rattle.lg_core.specs.Core as happens
use Rattle.lg_core.specs.Core.{IsNext}
use Rattle.lg_core.proofs.Cores.{is_session, small_place}
use Rattle.lg_core.proofs.Outcomes.{as_it_is, no_goes_on, view_more}
use Rattle.lg_core.proofs.stepping.more.Goals as goal

pub returns-in_default-command : goal.returns-in_default-command
returns-in_default-command c = λ base.
    (refl, no_goes_on (script_views c.args.scripts.now) base c.args.core.now c.args.session c.in-Some.actor (command_view c.in-Some.command.now) c.in-Some.ensures (λ is. c.in_default-command.not-More (view_more c.in-Some.command.now is)))

-- it went on for no more commands than have ended
pub overflow_add-mores : goal.overflow_add-mores
overflow_add-mores c =
    let next = c.in-Some.ensures in
    let few = subst (λ (h : Option Hold). IfSome h (λ k. k.mores ≤ c.in-Some.actor.place)) c.in-Some-held.is (c.requires.actors c.args.session c.in-Some.actor next.stands).mores in
    omega (arith, few, small_place (script_views c.args.scripts.now) c.args.core.now c.args.session c.in-Some.actor (command_view c.in-Some.command.now) c.requires.scripts next)

pub end-note-requires-clause-session : goal.end-note-requires-clause-session
end-note-requires-clause-session c = is_session (script_views c.args.scripts.now) c.args.core.now c.args.session c.in-Some.actor (command_view c.in-Some.command.now) c.in-Some.ensures

pub end-note-requires-clause-next : goal.end-note-requires-clause-next
end-note-requires-clause-next c = small_place (script_views c.args.scripts.now) c.args.core.now c.args.session c.in-Some.actor (command_view c.in-Some.command.now) c.requires.scripts c.in-Some.ensures

pub end-note-requires-in-None-clause-session : goal.end-note-requires-in-None-clause-session
end-note-requires-in-None-clause-session c = is_session (script_views c.args.scripts.now) c.args.core.now c.args.session c.in-Some.actor (command_view c.in-Some.command.now) c.in-Some.ensures

pub end-note-requires-in-None-clause-next : goal.end-note-requires-in-None-clause-next
end-note-requires-in-None-clause-next c = small_place (script_views c.args.scripts.now) c.args.core.now c.args.session c.in-Some.actor (command_view c.in-Some.command.now) c.requires.scripts c.in-Some.ensures

pub returns-in-Some-held : goal.returns-in-Some-held
returns-in-Some-held c = λ base.
    let views = script_views c.args.scripts.now in
    let next = subst (IsNext views c.args.core.now c.args.session c.in-Some.actor) (ap command_view c.in-More.is) c.in-Some.ensures in
    as_it_is views base c.args.core.now (More c.args.session) c.end-note.new.self _ (Some c.end-note.result) _ (c.end-note.ensures.ended, ap Some c.end-note.ensures.note)
    (happens.pages c.args.session c.in-Some.actor c.in-Some-held.hold next c.in-Some-held.is)

pub returns-in-None : goal.returns-in-None
returns-in-None c = λ base.
    let views = script_views c.args.scripts.now in
    let next = subst (IsNext views c.args.core.now c.args.session c.in-Some.actor) (ap command_view c.in-More.is) c.in-Some.ensures in
    as_it_is views base c.args.core.now (More c.args.session) c.end-note-in-None.new.self _ (Some c.end-note-in-None.result) _ (c.end-note-in-None.ensures.ended, ap Some c.end-note-in-None.ensures.note)
    (happens.has_none c.args.session c.in-Some.actor next c.in-None.is)
