use Rattle.std.proofs.Common.{◌+◌, ◌<◌, ◌≤◌, List, length, map, get_or, refl, ap, ◌∙◌, subst}
use Rattle.lg_script.specs.declared.command.Command.{Command}
use Rattle.lg_script.specs.Commands.{command_view, script_views}
use Rattle.lg_audit.specs.Fronts.{HasNone, IsRead, Anything}
use Rattle.lg_audit.specs.Answers.{reply_of, AreRepliesTo, script_lines}
use Rattle.lg_audit.proofs.Singles.{when_some, when_none}
use Rattle.lg_audit.proofs.Chains.{next, broken, ended, split_at_place, none_left, replies_pushed}
use Rattle.lg_audit.proofs.session.read_sessions.Goals as goal

pub returns-in_default : goal.returns-in_default
returns-in_default c =
    let same = c.items-commands-items.ensures in
    let within = subst (λ (xs : List (List Command)). c.loop-index.index < length xs) same c.loop-index-test.true in
    let is = c.commands-item.is ∙ ap (λ (xs : List (List Command)). get_or xs c.loop-index.index c.commands-item.result) same in
    let lacks = when_none _ _ c.in_ok-replies.field-0 c.in_default.is c.in_ok-replies.ensures in
    let lacks' = subst (λ (cs : List Command). HasNone (AreRepliesTo (map command_view cs)) (script_lines (c.loop-index.index + 1) (map command_view cs)) c.loop-index.left.now) c.items.ensures lacks in
    broken AreRepliesTo script_lines (script_views c.args.scripts.now) c.args.text.now (c.loop-index.index + 1) _ _ c.loop-index.left.now c.loop-index.invariant.chain
    (map command_view c.commands-item.result) _ (split_at_place (map command_view) c.args.scripts.now c.loop-index.index c.commands-item.result within is) lacks'

pub loop-index-preserved : goal.loop-index-preserved
loop-index-preserved c =
    let same = c.items-commands-items.ensures in
    let within = subst (λ (xs : List (List Command)). c.loop-index.index < length xs) same c.loop-index-test.true in
    let is = c.commands-item.is ∙ ap (λ (xs : List (List Command)). get_or xs c.loop-index.index c.commands-item.result) same in
    let read = when_some _ _ c.in_ok-replies.field-0 _ c.in-Some.is c.in_ok-replies.ensures in
    let read' = subst (λ (cs : List Command). IsRead (AreRepliesTo (map command_view cs)) (script_lines (c.loop-index.index + 1) (map command_view cs)) Anything c.loop-index.left.now (map reply_of c.in-Some.replies.items) c.in-Some.rest.now) c.items.ensures read in
    record {
      chain =
          next AreRepliesTo script_lines (script_views c.args.scripts.now) c.args.text.now (c.loop-index.index + 1) _ _ c.loop-index.left.now c.loop-index.invariant.chain
          (map command_view c.commands-item.result) _ (split_at_place (map command_view) c.args.scripts.now c.loop-index.index c.commands-item.result within is)
          (c.loop-index.index + 1 + 1) _ (map reply_of c.in-Some.replies.items) c.in-Some.rest.now refl (replies_pushed _ _ _ c.in_ok-push.ensures.items) read';
    }

pub returns : goal.returns
returns c =
    let past = subst (λ (xs : List (List Command)). length xs ≤ c.loop-index.index) c.items-commands-items.ensures c.loop-index-test.false in
    ended AreRepliesTo script_lines (script_views c.args.scripts.now) c.args.text.now (c.loop-index.index + 1) _ _ c.loop-index.left.now c.loop-index.invariant.chain
    (none_left (map command_view) c.args.scripts.now c.loop-index.index past)
