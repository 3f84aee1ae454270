use Rattle.std.proofs.Common.{◌+◌, ◌∙◌, arith}
use Rattle.lg_forest.proofs.SameLinkage.{choice_shown, chosen_more}
use Rattle.lg_forest.proofs.linkages.chosen_of.Goals as goal

pub loop-word-preserved : goal.loop-word-preserved
loop-word-preserved c = λ g is.
    let same = is.belongs.same_length in
    let word = choice_shown c.args.positions.now c.args.draft.now g c.loop-word.word c.in_ok-choice.choice c.uses.result.now c.items.result.now c.index-positions-word.result is c.uses.ensures c.items.ensures (omega arith) c.index-positions-word.is c.in_ok-choice.ensures in
    c.in_ok-push.ensures.items ∙ chosen_more g c.loop-word.chosen.items c.loop-word.word (c.loop-word.word + 1) c.in_ok-choice.choice (omega arith) (omega arith) (c.loop-word.invariant g is) word
