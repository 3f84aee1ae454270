use Rattle.std.proofs.Common.{◌∙◌}
use Rattle.lg_idiom.proofs.Chains.{words_more}
use Rattle.lg_idiom.proofs.taken.Taken.take_words.Goals as goal

pub loop-rank-preserved : goal.loop-rank-preserved
loop-rank-preserved c =
    let at = c.loop-rank in
    words_more c.args.view.now c.args.start at.rank c.args.words.now c.bytes.result.now _ _ at.self c.take_word.new.self c.loop-rank-test.true (c.bytes.ensures ∙ c.index-words-rank.is)
    at.invariant c.in_ok-take_word.ensures
