use Rattle.std.proofs.Common.{◌∙◌}
use Rattle.lg_reach.proofs.Copying.{take_next}
use Rattle.lg_reach.proofs.formulas.parts_of.Goals as goal

pub loop-words-preserved : goal.loop-words-preserved
loop-words-preserved c =
    c.in_ok-push.ensures.items
    ∙ take_next c.args.positions.now c.loop-words.parts.items c.loop-words.words-index c.words-item.result _ c.loop-words-test.true c.words-item.is c.loop-words.invariant (c.in_ok-parts_of_words.ensures ∙ c.items.ensures)
