use Rattle.std.proofs.Common.{ℕ, ◌+◌, ◌<◌, length, map, ap, sym, subst, ◌∙◌, arith}
use Rattle.std.proofs.lemmas.List.{length-map}
use Rattle.lg_script.specs.Commands.{command_view, script_views}
use Rattle.lg_audit.specs.Answers.{AreRepliesTo, reply_of, replies_of}
use Rattle.lg_audit.specs.Grounds.{basis_in}
use Rattle.lg_audit.specs.Walks.{HoldSome}
use Rattle.lg_audit.proofs.Audited.{all_none, all_more, first_place, formed_number, script_there, answers_there, as_many}
use Rattle.lg_audit.proofs.Singles.{when_some, when_none}
use Rattle.lg_audit.proofs.auditing.first_wrong.Goals as goal

pub loop-index-init : goal.loop-index-init
loop-index-init c = record { all = all_none (basis_in c.args.basis.now) (replies_of c.args.replies.now) }

pub bounds-replies-index : goal.bounds-replies-index
bounds-replies-index c =
    let same = as_many c.args.replies.now c.args.basis.now.scripts.now c.requires.form in
    subst (λ (n : ℕ). c.loop-index.index < n) (ap length c.items-commands-items.ensures ∙ sym same) c.loop-index-test.true

pub first_wrong_of-requires-clause-script : goal.first_wrong_of-requires-clause-script
first_wrong_of-requires-clause-script c =
    script_there c.args.basis.now.scripts.now c.items-commands-items.result.now c.loop-index.index c.commands-item.result c.items.result.now c.items-commands-items.ensures c.loop-index-test.true c.commands-item.is c.items.ensures

pub first_wrong_of-requires-clause-form : goal.first_wrong_of-requires-clause-form
first_wrong_of-requires-clause-form c =
    let same = as_many c.args.replies.now c.args.basis.now.scripts.now c.requires.form in
    let within : c.loop-index.index < length c.args.replies.now = subst (λ (n : ℕ). c.loop-index.index < n) (ap length c.items-commands-items.ensures ∙ sym same) c.loop-index-test.true in
    let script = script_there c.args.basis.now.scripts.now c.items-commands-items.result.now c.loop-index.index c.commands-item.result c.items.result.now c.items-commands-items.ensures c.loop-index-test.true c.commands-item.is c.items.ensures in
    let answers = answers_there c.args.replies.now c.loop-index.index c.index-replies-index.result c.as_slice-answers.result.now within c.index-replies-index.is c.as_slice-answers.ensures.value in
    formed_number AreRepliesTo (script_views c.args.basis.now.scripts.now) (replies_of c.args.replies.now) c.loop-index.index (map command_view c.items.result.now) (map reply_of c.as_slice-answers.result.now) c.requires.form script answers

pub returns-in-Some : goal.returns-in-Some
returns-in-Some c =
    let same = as_many c.args.replies.now c.args.basis.now.scripts.now c.requires.form in
    let within : c.loop-index.index < length c.args.replies.now = subst (λ (n : ℕ). c.loop-index.index < n) (ap length c.items-commands-items.ensures ∙ sym same) c.loop-index-test.true in
    let script = script_there c.args.basis.now.scripts.now c.items-commands-items.result.now c.loop-index.index c.commands-item.result c.items.result.now c.items-commands-items.ensures c.loop-index-test.true c.commands-item.is c.items.ensures in
    let answers = answers_there c.args.replies.now c.loop-index.index c.index-replies-index.result c.as_slice-answers.result.now within c.index-replies-index.is c.as_slice-answers.ensures.value in
    first_place (basis_in c.args.basis.now) (replies_of c.args.replies.now) c.loop-index.index (map command_view c.items.result.now) (map reply_of c.as_slice-answers.result.now) script answers c.loop-index.invariant.all c.in-Some.command
    (when_some _ _ c.in_ok-wrong.wrong c.in-Some.command c.in-Some.is c.in_ok-wrong.ensures)

pub loop-index-preserved : goal.loop-index-preserved
loop-index-preserved c =
    let same = as_many c.args.replies.now c.args.basis.now.scripts.now c.requires.form in
    let within : c.loop-index.index < length c.args.replies.now = subst (λ (n : ℕ). c.loop-index.index < n) (ap length c.items-commands-items.ensures ∙ sym same) c.loop-index-test.true in
    let script = script_there c.args.basis.now.scripts.now c.items-commands-items.result.now c.loop-index.index c.commands-item.result c.items.result.now c.items-commands-items.ensures c.loop-index-test.true c.commands-item.is c.items.ensures in
    let answers = answers_there c.args.replies.now c.loop-index.index c.index-replies-index.result c.as_slice-answers.result.now within c.index-replies-index.is c.as_slice-answers.ensures.value in
    let all = when_none _ _ c.in_ok-wrong.wrong c.in_default.is c.in_ok-wrong.ensures in
    record {
      all =
          all_more (basis_in c.args.basis.now) (replies_of c.args.replies.now) c.loop-index.index (map command_view c.items.result.now) (map reply_of c.as_slice-answers.result.now) script answers c.loop-index.invariant.all
          (subst (λ (n : ℕ). HoldSome (basis_in c.args.basis.now) (c.loop-index.index + 1) (map command_view c.items.result.now) (map reply_of c.as_slice-answers.result.now) n) (sym (length-map c.items.result.now command_view)) all);
    }

pub returns : goal.returns
returns c = λ session commands rs le a b.
    let same = as_many c.args.replies.now c.args.basis.now.scripts.now c.requires.form in
    let long = ap length c.items-commands-items.ensures in
    let past = c.loop-index-test.false in
    c.loop-index.invariant.all session commands rs (omega (arith, le, same, long, past)) a b
