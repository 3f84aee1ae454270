use Rattle.std.proofs.Common.{◌+◌, map, refl, subst}
use Rattle.lg_gram.specs.declared.reply.CommandKind.{CommandKind}
use Rattle.lg_script.specs.Commands.{command_view}
use Rattle.lg_audit.specs.Documents.{IsReplyInForm}
use Rattle.lg_audit.specs.Fronts.{HasNone, IsRead, Anything}
use Rattle.lg_audit.specs.Answers.{reply_of, answer_lines, IsReplyTo, command_lines}
use Rattle.lg_audit.proofs.Singles.{when_some, when_none, pushed}
use Rattle.lg_audit.proofs.Chains.{next, broken, ended, split_at_place, none_left}
use Rattle.lg_audit.proofs.session.read_session.Goals as goal

pub returns-in_default : goal.returns-in_default
returns-in_default c =
    let lacks = when_none _ _ c.in_ok-reply.field-0 c.in_default.is c.in_ok-reply.ensures in
    let lacks' = subst (λ (k : CommandKind). HasNone (IsReplyInForm k) (answer_lines c.args.session (c.loop-index.index + 1) k) c.loop-index.left.now) c.kind.ensures lacks in
    broken IsReplyTo (command_lines c.args.session) (map command_view c.args.commands.now) c.args.text.now (c.loop-index.index + 1) _ _ c.loop-index.left.now c.loop-index.invariant.chain
    (command_view c.index-commands-index.result) _ (split_at_place command_view c.args.commands.now c.loop-index.index c.index-commands-index.result c.loop-index-test.true c.index-commands-index.is) lacks'

pub loop-index-preserved : goal.loop-index-preserved
loop-index-preserved c =
    let read = when_some _ _ c.in_ok-reply.field-0 _ c.in-Some.is c.in_ok-reply.ensures in
    let read' = subst (λ (k : CommandKind). IsRead (IsReplyInForm k) (answer_lines c.args.session (c.loop-index.index + 1) k) Anything c.loop-index.left.now (reply_of c.in-Some.reply) c.in-Some.rest.now) c.kind.ensures read in
    record {
      chain =
          next IsReplyTo (command_lines c.args.session) (map command_view c.args.commands.now) c.args.text.now (c.loop-index.index + 1) _ _ c.loop-index.left.now c.loop-index.invariant.chain
          (command_view c.index-commands-index.result) _ (split_at_place command_view c.args.commands.now c.loop-index.index c.index-commands-index.result c.loop-index-test.true c.index-commands-index.is)
          (c.loop-index.index + 1 + 1) _ (reply_of c.in-Some.reply) c.in-Some.rest.now refl (pushed reply_of _ _ _ c.in_ok-push.ensures.items) read';
    }

pub returns : goal.returns
returns c =
    ended IsReplyTo (command_lines c.args.session) (map command_view c.args.commands.now) c.args.text.now (c.loop-index.index + 1) _ _ c.loop-index.left.now c.loop-index.invariant.chain
    (none_left command_view c.args.commands.now c.loop-index.index c.loop-index-test.false)
