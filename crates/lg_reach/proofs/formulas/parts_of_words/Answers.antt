use Rattle.std.proofs.Common.{◌∙◌, ap}
use Rattle.lg_gram.specs.Trees.{tree_of}
use Rattle.lg_reach.proofs.Copying.{take_next}
use Rattle.lg_reach.proofs.formulas.parts_of_words.Goals as goal

pub loop-word-preserved : goal.loop-word-preserved
loop-word-preserved c =
    c.in_ok-push.ensures.items
    ∙ take_next c.args.words.now c.loop-word.parts.items c.loop-word.word-index c.word-item.result _ c.loop-word-test.true c.word-item.is c.loop-word.invariant (ap (λ t. record { word = c.word.inside.word; tree = t }) (c.in_ok-copied.ensures ∙ ap tree_of c.expr.ensures.value) ∙ c.word.view_is)
