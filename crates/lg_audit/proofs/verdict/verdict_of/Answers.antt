use Rattle.std.proofs.Common.{IfOk, sym, subst}
use Rattle.lg_script.specs.declared.command.Command.{Command}
use Rattle.lg_script.specs.Bounds.{IsInBounds}
use Rattle.lg_script.specs.Commands.{command_view}
use Rattle.lg_audit.specs.Answers.{reply_of}
use Rattle.lg_audit.specs.Grounds.{basis_in}
use Rattle.lg_audit.specs.Replies.{AsksFor, parse, list}
use Rattle.lg_audit.specs.Walks.{ComesTo}
use Rattle.lg_audit.proofs.verdict.verdict_of.Goals as goal

pub returns-in-Parse-clause-comes : goal.returns-in-Parse-clause-comes
returns-in-Parse-clause-comes c = λ h kept.
    c.opened.ensures.comes c.args.place h (command_view c.args.command.now) (subst (λ (d : Command). AsksFor (command_view d) c.in-Parse.text 1) (sym c.in-Parse.is) (parse c.in-Parse.text))

pub opened-requires-in-List-clause-text : goal.opened-requires-in-List-clause-text
opened-requires-in-List-clause-text c =
    let bounds = c.place_laws.ensures.bounds (basis_in c.args.basis.now).scripts c.requires.usable.scripts c.args.place (command_view c.args.command.now) c.requires.command in
    (subst (λ (d : Command). IsInBounds (command_view d)) c.in-List.is bounds).2

pub returns-in-List-clause-comes : goal.returns-in-List-clause-comes
returns-in-List-clause-comes c = λ h kept.
    c.opened-in-List.ensures.comes c.args.place h (command_view c.args.command.now)
    (subst (λ (d : Command). AsksFor (command_view d) c.in-List.text c.in-List.first) (sym c.in-List.is) (list c.in-List.first c.in-List.field-1 c.in-List.text))

pub returns-in-More-clause-comes : goal.returns-in-More-clause-comes
returns-in-More-clause-comes c = λ h kept.
    subst (λ (d : Command). IfOk c.gone_on.result (ComesTo (basis_in c.args.basis.now) c.args.place h (command_view d) (reply_of c.args.reply.now) c.args.lists.now.version))
    (sym c.in-More.is) (c.gone_on.ensures c.args.place h kept)

pub edited-requires-clause-bounds : goal.edited-requires-clause-bounds
edited-requires-clause-bounds c =
    let bounds = c.place_laws.ensures.bounds (basis_in c.args.basis.now).scripts c.requires.usable.scripts c.args.place (command_view c.args.command.now) c.requires.command in
    (subst (λ (d : Command). IsInBounds (command_view d)) c.in-Edit.is bounds).1

pub returns-clause-comes : goal.returns-clause-comes
returns-clause-comes c = λ h kept.
    subst (λ (d : Command). ComesTo (basis_in c.args.basis.now) c.args.place h (command_view d) (reply_of c.args.reply.now) c.args.lists.now.version c.told.result)
    (sym c.in-Version.is) (c.told.ensures (basis_in c.args.basis.now) c.args.place h c.args.lists.now.version kept)
