use Rattle.std.proofs.Common.{Option, IfOk, sym, subst}
use Rattle.lg_script.specs.Commands.{goes_on}
use Rattle.lg_audit.specs.Answers.{reply_of}
use Rattle.lg_audit.specs.Grounds.{basis_in}
use Rattle.lg_audit.specs.Replies.{Held}
use Rattle.lg_audit.specs.Walks.{IsKept, ComesTo}
use Rattle.lg_audit.specs.declared.listed.Going.{Going}
use Rattle.lg_audit.proofs.Goings.{kept_some, kept_none}
use Rattle.lg_audit.proofs.listed.gone_on.Goals as goal

pub returns-in-Some : goal.returns-in-Some
returns-in-Some c = λ p h kept.
    let here = c.args.dated.now.version in
    let held = kept_some here h c.in-Some.going (subst (λ (o : Option Going). IsKept here h o) c.in-Some.is kept) in
    subst (λ (o : Option Held). IfOk c.next_page.result (ComesTo (basis_in c.args.basis.now) p o goes_on (reply_of c.args.reply.now) here)) (sym held.1) (c.next_page.ensures p held.0 held.2)

pub returns-in-None : goal.returns-in-None
returns-in-None c = λ p h kept.
    let here = c.args.dated.now.version in
    let none = kept_none here h (subst (λ (o : Option Going). IsKept here h o) c.in-None.is kept) in
    subst (λ (o : Option Held). ComesTo (basis_in c.args.basis.now) p o goes_on (reply_of c.args.reply.now) here c.nothing_more.result) (sym none) (c.nothing_more.ensures (basis_in c.args.basis.now) p here)
