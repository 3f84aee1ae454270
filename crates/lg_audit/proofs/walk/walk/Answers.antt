use Rattle.std.proofs.Common.{◌+◌, length, map, refl, arith}
use Rattle.std.proofs.lemmas.List.{length-map}
use Rattle.lg_script.specs.Commands.{command_view}
use Rattle.lg_audit.specs.Answers.{reply_of, IsReplyTo}
use Rattle.lg_audit.specs.Grounds.{basis_in}
use Rattle.lg_audit.proofs.Singles.{when_some, when_none}
use Rattle.lg_audit.proofs.Held.{at_start, one_step, first_wrong, earlier}
use Rattle.lg_audit.proofs.Walking.{read_at, number_at, command_there, formed_lengths, formed_at}
use Rattle.lg_audit.proofs.walk.walk.Goals as goal

pub loop-index-init : goal.loop-index-init
loop-index-init c =
    at_start (basis_in c.args.basis.now) c.args.session (map command_view c.args.commands.now) (map reply_of c.args.replies.now) c.args.edits.now c.args.lists.now _
    c.requires.edits.0 c.requires.edits.1 c.requires.lists.0 c.requires.lists.1 refl refl

pub bounds-replies-index : goal.bounds-replies-index
bounds-replies-index c =
    let same = formed_lengths IsReplyTo (map command_view c.args.commands.now) (map reply_of c.args.replies.now) c.requires.form in
    omega (arith, same, c.loop-index-test.true, length-map c.args.commands.now command_view, length-map c.args.replies.now reply_of)

pub step-requires-clause-command : goal.step-requires-clause-command
step-requires-clause-command c =
    command_there (basis_in c.args.basis.now).scripts c.args.session (c.loop-index.index + 1) (map command_view c.args.commands.now) (command_view c.index-commands-index.result) c.requires.script
    (number_at command_view c.args.commands.now c.loop-index.index c.index-commands-index.result c.loop-index-test.true c.index-commands-index.is)

pub step-requires-clause-form : goal.step-requires-clause-form
step-requires-clause-form c =
    let same = formed_lengths IsReplyTo (map command_view c.args.commands.now) (map reply_of c.args.replies.now) c.requires.form in
    let there = read_at reply_of c.args.replies.now c.loop-index.index c.index-replies-index.result (omega (arith, same, c.loop-index-test.true, length-map c.args.commands.now command_view, length-map c.args.replies.now reply_of)) c.index-replies-index.is in
    formed_at IsReplyTo (map command_view c.args.commands.now) (map reply_of c.args.replies.now) c.loop-index.index (command_view c.index-commands-index.result) (reply_of c.index-replies-index.result) c.requires.form
    (read_at command_view c.args.commands.now c.loop-index.index c.index-commands-index.result c.loop-index-test.true c.index-commands-index.is) there

pub returns-in-None : goal.returns-in-None
returns-in-None c =
    let at = c.loop-index.invariant in
    let same = formed_lengths IsReplyTo (map command_view c.args.commands.now) (map reply_of c.args.replies.now) c.requires.form in
    let command = number_at command_view c.args.commands.now c.loop-index.index c.index-commands-index.result c.loop-index-test.true c.index-commands-index.is in
    let reply = number_at reply_of c.args.replies.now c.loop-index.index c.index-replies-index.result (omega (arith, same, c.loop-index-test.true, length-map c.args.commands.now command_view, length-map c.args.replies.now reply_of)) c.index-replies-index.is in
    first_wrong (basis_in c.args.basis.now) c.args.session (map command_view c.args.commands.now) (map reply_of c.args.replies.now) c.loop-index.index c.loop-index.edits c.loop-index.lists c.loop-index.walked at _ _ command reply
    (omega (arith, c.loop-index-test.true, length-map c.args.commands.now command_view)) (when_none _ _ c.in_ok-next.field-0 c.in-None.is (c.in_ok-next.ensures at.held at.kept))

pub loop-index-preserved : goal.loop-index-preserved
loop-index-preserved c =
    let at = c.loop-index.invariant in
    let same = formed_lengths IsReplyTo (map command_view c.args.commands.now) (map reply_of c.args.replies.now) c.requires.form in
    let command = number_at command_view c.args.commands.now c.loop-index.index c.index-commands-index.result c.loop-index-test.true c.index-commands-index.is in
    let reply = number_at reply_of c.args.replies.now c.loop-index.index c.index-replies-index.result (omega (arith, same, c.loop-index-test.true, length-map c.args.commands.now command_view, length-map c.args.replies.now reply_of)) c.index-replies-index.is in
    one_step (basis_in c.args.basis.now) c.args.session (map command_view c.args.commands.now) (map reply_of c.args.replies.now) c.loop-index.index c.loop-index.edits c.loop-index.lists c.loop-index.walked at _ _ command reply
    _ _ c.in-Some.next (when_some _ _ c.in_ok-next.field-0 c.in-Some.next c.in-Some.is (c.in_ok-next.ensures at.held at.kept))

pub returns : goal.returns
returns c =
    earlier (basis_in c.args.basis.now) c.args.session (map command_view c.args.commands.now) (map reply_of c.args.replies.now) c.loop-index.index c.loop-index.invariant.held c.loop-index.invariant.hold
    (length c.args.commands.now) c.loop-index-test.false
