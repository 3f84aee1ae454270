use Rattle.std.proofs.Common.{◌∙◌}
use Rattle.lg_token.proofs.WordLists.{special_listed, no_special}
use Rattle.lg_token.proofs.words.special_words.Goals as goal

pub returns-in-Some-clause-words : goal.returns-in-Some-clause-words
returns-in-Some-clause-words c = special_listed c.args.view.now c.args.text.now c.in-Some.special c.word.result.now c.words_of.result c.in-Some.ensures c.word.ensures c.words_of.ensures.words

pub returns-in-None-clause-words : goal.returns-in-None-clause-words
returns-in-None-clause-words c = no_special c.args.view.now c.args.text.now c.of.result (c.of.ensures ∙ c.new.ensures.items) c.in-None.ensures
