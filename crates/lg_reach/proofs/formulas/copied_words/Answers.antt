use Rattle.std.proofs.Common.{◌∙◌}
use Rattle.lg_reach.proofs.Copying.{take_next}
use Rattle.lg_reach.proofs.formulas.copied_words.Goals as goal

pub loop-word-preserved : goal.loop-word-preserved
loop-word-preserved c =
    c.in_ok-push.ensures.items
    ∙ take_next c.args.words.now c.loop-word.copies.items c.loop-word.word-index c.word-item.result _ c.loop-word-test.true c.word-item.is c.loop-word.invariant ((λ i. record { word = (c.in_ok-of.ensures ∙ c.bytes.ensures) i; tree = c.in_ok-copied.ensures i }) ∙ c.word.view_is)
