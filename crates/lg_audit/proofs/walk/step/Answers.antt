use Rattle.std.proofs.Common.{◌≤◌, ℕ, length, arith, sym, subst, ◌∙◌, true≢false}
use Rattle.lg_script.specs.Commands.{command_view}
use Rattle.lg_audit.specs.Answers.{reply_of}
use Rattle.lg_audit.specs.Grounds.{basis_in}
use Rattle.lg_audit.specs.Walks.{ComesTo}
use Rattle.lg_audit.specs.declared.verdict.Verdict.{Verdict}
use Rattle.lg_audit.proofs.InTime.{rises_lower}
use Rattle.lg_audit.proofs.walk.step.Goals as goal

pub returns-then-not-is_in_time : goal.returns-then-not-is_in_time
returns-then-not-is_in_time c = λ h kept then rises holds. true≢false (sym (c.is_in_time.ensures.1 rises) ∙ c.if-not-is_in_time.true)

pub verdict_of-requires-clause-edits_time : goal.verdict_of-requires-clause-edits_time
verdict_of-requires-clause-edits_time c =
    rises_lower c.args.edits.now.version c.args.walked.named (length c.args.basis.now.journal.now) (command_view c.args.command.now) (reply_of c.args.reply.now) c.requires.edits_low
    (c.is_in_time.ensures.0 c.if-not-is_in_time.false)

pub verdict_of-requires-clause-lists_time : goal.verdict_of-requires-clause-lists_time
verdict_of-requires-clause-lists_time c =
    rises_lower c.args.lists.now.version c.args.walked.named (length c.args.basis.now.journal.now) (command_view c.args.command.now) (reply_of c.args.reply.now) c.requires.lists_low
    (c.is_in_time.ensures.0 c.if-not-is_in_time.false)

pub returns-in-Right : goal.returns-in-Right
returns-in-Right c = λ h kept.
    let basis = basis_in c.args.basis.now in
    let comes = subst (λ (v : Verdict). ComesTo basis c.args.place h (command_view c.args.command.now) (reply_of c.args.reply.now) c.verdict_of.new.lists.version v) c.in-Right.is (c.in_ok-comes.ensures.comes h kept) in
    let rises = c.is_in_time.ensures.0 c.if-not-is_in_time.false in
    let edits = c.in_ok-comes.ensures.edits_low c.args.walked.named c.requires.edits_low rises in
    let lists = c.in_ok-comes.ensures.lists_low c.args.walked.named c.requires.lists_low rises in
    let named = c.newly_named-named.ensures in
    record {
      then = comes.0;
      next = comes.2;
      rises = rises;
      named_is = named;
      kept = comes.1;
      edits_dated = c.in_ok-comes.ensures.edits;
      lists_dated = c.in_ok-comes.ensures.lists;
      edits_low = omega (arith, edits, named);
      lists_low = omega (arith, lists, named);
    }

pub returns-in-Wrong : goal.returns-in-Wrong
returns-in-Wrong c = λ h kept then rises holds.
    subst (λ (v : Verdict). ComesTo (basis_in c.args.basis.now) c.args.place h (command_view c.args.command.now) (reply_of c.args.reply.now) c.verdict_of.new.lists.version v) c.in-Wrong.is (c.in_ok-comes.ensures.comes h kept) then holds
