use Rattle.std.proofs.Common.{List, length, refl, ap, sym, subst}
use Rattle.std.proofs.lemmas.Result.{IfOk-weaker}
use Rattle.lg_edit.specs.Edits.{edit_view}
use Rattle.lg_script.specs.Commands.{CommandView, command_view, parses, lists, goes_on, makes, asks, script_views}
use Rattle.lg_session.specs.Answering.{IsUp, IsMade}
use Rattle.lg_session.specs.Learning.{Nowhere}
use Rattle.lg_session.specs.Legal as legal
use Rattle.lg_session.specs.Turns.{place_in}
use Rattle.lg_session.proofs.Answered.{at_version}
use Rattle.lg_session.proofs.Counted.{stands_in, at_once, after_look, is_made}
use Rattle.lg_session.proofs.turn.answer.Goals as goal

pub returns-in_ok-state-in-Parse : goal.returns-in_ok-state-in-Parse
returns-in_ok-state-in-Parse g c = λ story same.
    let state = c.args.state in
    let command : CommandView = parses c.in-Parse.text in
    let here = stands_in (script_views c.args.scripts.now) story (place_in state) (command_view c.next_command.result.now) command same c.next_command.ensures.command (ap command_view c.in-Parse.is) in
    let up = subst (λ (scripts : List (List CommandView)). IsUp scripts Nowhere state c.in_ok-state-in-Parse.state) (sym same) c.in_ok-state-in-Parse.ensures in
    IfOk-weaker c.open.result _ _ (λ after answered. after_look story state (g.E.Engine.stands c.args.engine.now) (g.E.Engine.meaning c.args.engine.now) c.requires.at.alone Nowhere c.in_ok-state-in-Parse.state after command (λ dict never. absurd never) here refl up answered)
    (c.open.ensures command (legal.parse _))

pub returns-in_ok-state-in-List : goal.returns-in_ok-state-in-List
returns-in_ok-state-in-List g c = λ story same.
    let state = c.args.state in
    let command : CommandView = lists c.in-List.first c.in-List.want c.in-List.text in
    let here = stands_in (script_views c.args.scripts.now) story (place_in state) (command_view c.next_command.result.now) command same c.next_command.ensures.command (ap command_view c.in-List.is) in
    let up = subst (λ (scripts : List (List CommandView)). IsUp scripts Nowhere state c.in_ok-state-in-List.state) (sym same) c.in_ok-state-in-List.ensures in
    IfOk-weaker c.open-in-List.result _ _ (λ after answered. after_look story state (g.E.Engine.stands c.args.engine.now) (g.E.Engine.meaning c.args.engine.now) c.requires.at.alone Nowhere c.in_ok-state-in-List.state after command (λ dict never. absurd never) here refl up answered)
    (c.open-in-List.ensures command (legal.list _ _ _))

pub returns-in-More : goal.returns-in-More
returns-in-More g c = λ story same.
    let state = c.args.state in
    let here = stands_in (script_views c.args.scripts.now) story (place_in state) (command_view c.next_command.result.now) goes_on same c.next_command.ensures.command (ap command_view c.in-More.is) in
    IfOk-weaker c.go_on.result _ _ (λ after answered. at_once story state (g.E.Engine.stands c.args.engine.now) (g.E.Engine.meaning c.args.engine.now) c.requires.at.alone after here answered) c.go_on.ensures

pub returns-in-Edit : goal.returns-in-Edit
returns-in-Edit g c = λ story same.
    let state = c.args.state in
    let edit = edit_view c.in-Edit.edit in
    let here = stands_in (script_views c.args.scripts.now) story (place_in state) (command_view c.next_command.result.now) (makes edit) same c.next_command.ensures.command (ap command_view c.in-Edit.is) in
    IfOk-weaker c.make.result _ _ (λ after made. is_made story state (g.E.Engine.stands c.args.engine.now) (g.E.Engine.meaning c.args.engine.now) c.requires.at.alone edit after.0 after.1 here
    (subst (λ (scripts : List (List CommandView)). IsMade scripts edit state after) (sym same) made)) c.make.ensures

pub returns-in_ok-state-in-Version : goal.returns-in_ok-state-in-Version
returns-in_ok-state-in-Version g c = λ story same.
    let state = c.args.state in
    let caught = c.in_ok-state-in-Version.state in
    let here = stands_in (script_views c.args.scripts.now) story (place_in state) (command_view c.next_command.result.now) asks same c.next_command.ensures.command (ap command_view c.in-Version.is) in
    let up = subst (λ (scripts : List (List CommandView)). IsUp scripts Nowhere state caught) (sym same) c.in_ok-state-in-Version.ensures in
    after_look story state (g.E.Engine.stands c.args.engine.now) (g.E.Engine.meaning c.args.engine.now) c.requires.at.alone Nowhere caught _ asks (λ dict never. absurd never) here refl up
    (at_version (g.E.Engine.stands c.args.engine.now) (g.E.Engine.meaning c.args.engine.now) caught _ (ap length c.seen.ensures.seen))
