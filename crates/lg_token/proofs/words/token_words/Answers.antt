use Rattle.std.proofs.Common.{length, ◌==◌, ap, ◌∙◌}
use Rattle.lg_token.proofs.WordLists.{token_words-special, token_words-named}
use Rattle.lg_token.proofs.words.token_words.Goals as goal

pub returns-then-is_empty-clause-words : goal.returns-then-is_empty-clause-words
returns-then-is_empty-clause-words c =
    token_words-special c.args.view.now c.args.initial c.args.text.now c.in_ok-words.words c.special_words.result c.in_ok-words.ensures.words (c.if-is_empty.ensures ∙ ap (λ l. length l == 0) c.items.ensures) c.special_words.ensures.words

pub returns-else-is_empty-clause-words : goal.returns-else-is_empty-clause-words
returns-else-is_empty-clause-words c =
    token_words-named c.args.view.now c.args.initial c.args.text.now c.in_ok-words.words c.in_ok-words.ensures.words (c.if-is_empty.ensures ∙ ap (λ l. length l == 0) c.items.ensures)
