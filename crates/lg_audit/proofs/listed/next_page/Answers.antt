use Rattle.std.proofs.Common.{Some, sym, subst, ◌∙◌, true≢false}
use Rattle.lg_gram.specs.declared.reply.CommandKind.TheVariants as kinds
use Rattle.lg_script.specs.Commands.{goes_on}
use Rattle.lg_audit.specs.Answers.{reply_of}
use Rattle.lg_audit.specs.Documents.{IsReplyInForm}
use Rattle.lg_audit.specs.Grounds.{basis_in}
use Rattle.lg_audit.specs.Views.{text_of}
use Rattle.lg_audit.specs.Walks.{ComesTo}
use Rattle.lg_audit.specs.declared.shown.ShownReply.{ShownReply as Shown}
use Rattle.lg_audit.specs.declared.verdict.Verdict.TheVariants.{Wrong, Right}
use Rattle.lg_audit.proofs.Singles.{when_some, when_none}
use Rattle.lg_audit.proofs.Goings.{jumps, no_page, next_so}
use Rattle.lg_audit.proofs.listed.next_page.Goals as goal

pub returns-then-not-begins_there : goal.returns-then-not-begins_there
returns-then-not-begins_there c = λ p h kept.
    let basis = basis_in c.args.basis.now in
    let here = c.args.dated.now.version in
    subst (λ (r : Shown). ComesTo basis p (Some h) goes_on (reply_of r) here Wrong) (sym c.in-Listed.is)
    (jumps basis p here h c.args.going kept c.in-Listed.version (text_of c.in-Listed.stats) c.in-Listed.page (λ stays. true≢false (sym (c.begins_there.ensures.1 stays) ∙ c.if-not-begins_there.true)))

pub returns-in-Some : goal.returns-in-Some
returns-in-Some c = λ p h kept.
    let basis = basis_in c.args.basis.now in
    let here = c.args.dated.now.version in
    let form = subst (λ (r : Shown). IsReplyInForm kinds.More (reply_of r)) c.in-Listed.is c.requires.form in
    let follows = when_some _ _ c.in_ok-going.field-0 c.in-Some.going c.in-Some.is (c.in_ok-going.ensures h.shown kept.rise kept.last) in
    subst (λ (r : Shown). ComesTo basis p (Some h) goes_on (reply_of r) here (Right (Some c.in-Some.going))) (sym c.in-Listed.is)
    (next_so basis p here h c.args.going kept c.args.dated.now.view c.requires.dated.is c.in-Listed.version (text_of c.in-Listed.stats) c.in-Listed.page c.in-Some.going c.if-version-dated.false form.1
    (c.begins_there.ensures.0 c.if-not-begins_there.false) follows)

pub returns-in-None : goal.returns-in-None
returns-in-None c = λ p h kept.
    let basis = basis_in c.args.basis.now in
    let here = c.args.dated.now.version in
    let none = when_none _ _ c.in_ok-going.field-0 c.in-None.is (c.in_ok-going.ensures h.shown kept.rise kept.last) in
    subst (λ (r : Shown). ComesTo basis p (Some h) goes_on (reply_of r) here Wrong) (sym c.in-Listed.is)
    (no_page basis p here h c.args.going kept c.args.dated.now.view c.requires.dated.is c.in-Listed.version (text_of c.in-Listed.stats) c.in-Listed.page none)
