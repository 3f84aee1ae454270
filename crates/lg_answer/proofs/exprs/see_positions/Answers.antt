use Rattle.std.proofs.Common.{subst}
use Rattle.lg_answer.specs.Steps.{AreNamed}
use Rattle.lg_answer.proofs.Lists.{all_more, all_taken}
use Rattle.lg_answer.proofs.exprs.see_positions.Goals as goal

pub loop-words-preserved : goal.loop-words-preserved
loop-words-preserved c =
    all_more AreNamed c.args.positions.now c.loop-words.words-index c.words-item.result c.loop-words-test.true c.words-item.is (subst AreNamed c.items.ensures c.see_words.ensures) c.loop-words.invariant

pub returns : goal.returns
returns c = all_taken AreNamed c.args.positions.now c.loop-words.words-index c.loop-words-test.false c.loop-words.invariant
