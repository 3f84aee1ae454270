use Rattle.std.proofs.Common.{subst, ◌∙◌, sym}
use Rattle.lg_answer.proofs.Lists.{zip_more}
use Rattle.lg_answer.specs.Steps.{AreApart, AreMade}
use Rattle.lg_answer.proofs.expanded.expanded.Goals as goal

pub disjuncts_of-requires : goal.disjuncts_of-requires
disjuncts_of-requires c =
    subst AreApart (sym (c.items.ensures ∙ c.words-item.is)) (c.requires c.loop-words.words-index c.words-item.result c.loop-words-test.true)

pub loop-words-preserved : goal.loop-words-preserved
loop-words-preserved c =
    let here = subst (λ ws. AreMade ws c.in_ok-disjuncts_of.field-0) (c.items.ensures ∙ c.words-item.is) c.in_ok-disjuncts_of.ensures in
    rw c.in_ok-push.ensures.items (zip_more AreMade c.args.positions.now c.loop-words.all.items c.loop-words.words-index c.words-item.result c.in_ok-disjuncts_of.field-0
    c.loop-words-test.true c.loop-words.invariant here)
