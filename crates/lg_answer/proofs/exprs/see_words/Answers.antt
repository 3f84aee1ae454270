use Rattle.std.proofs.Common.{subst}
use Rattle.lg_disj.specs.Exist.{HasNames}
use Rattle.lg_eprune.specs.Live.{WordTree}
use Rattle.lg_answer.proofs.Lists.{all_more, all_taken}
use Rattle.lg_answer.proofs.exprs.see_words.Goals as goal

pub loop-word-preserved : goal.loop-word-preserved
loop-word-preserved c =
    let named = subst (λ (w : WordTree). HasNames w.tree) c.word.view_is c.see_names.ensures in
    all_more (λ (w : WordTree). HasNames w.tree) c.args.words.now c.loop-word.word-index c.word-item.result c.loop-word-test.true c.word-item.is named c.loop-word.invariant

pub returns : goal.returns
returns c = all_taken (λ (w : WordTree). HasNames w.tree) c.args.words.now c.loop-word.word-index c.loop-word-test.false c.loop-word.invariant
