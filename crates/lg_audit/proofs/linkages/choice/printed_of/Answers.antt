use Rattle.std.proofs.Common.{sym, ◌∙◌, subst, true≢false, Contains, List}
use Rattle.std.proofs.lemmas.List.{take_all}
use Rattle.lg_gram.specs.declared.disjunct.Disjunct.{Disjunct}
use Rattle.lg_audit.proofs.PrintedDisjuncts.{here_printed, none_more}
use Rattle.lg_audit.proofs.linkages.choice.printed_of.Goals as goal

pub loop-disjunct-preserved : goal.loop-disjunct-preserved
loop-disjunct-preserved c =
    none_more c.args.disjuncts.now c.loop-disjunct.disjunct-index c.disjunct-item.result c.loop-disjunct-test.true c.disjunct-item.is c.args.left.now c.args.right.now c.args.cost
    c.loop-disjunct.invariant (λ is. true≢false (sym (c.in_ok-is_printed_so.ensures.1 is) ∙ c.if-branch.false))

pub returns-then-branch : goal.returns-then-branch
returns-then-branch c =
    here_printed c.args.disjuncts.now c.loop-disjunct.disjunct-index c.disjunct-item.result c.loop-disjunct-test.true c.disjunct-item.is c.args.left.now c.args.right.now c.args.cost
    c.in_ok-copy.copy c.in_ok-copy.ensures (c.in_ok-is_printed_so.ensures.0 c.if-branch.true)

pub returns : goal.returns
returns c = λ d has is.
    c.loop-disjunct.invariant d (subst (λ (l : List Disjunct). Contains l d) (sym (take_all c.loop-disjunct.disjunct-index c.args.disjuncts.now c.loop-disjunct-test.false)) has) is
