use Rattle.std.proofs.Common.{◌≡◌, true, sym, subst, ◌∙◌, rules}
use Rattle.lg_dict.specs.Dictionary.{AreWordsOf}
use Rattle.lg_token.specs.Words.{is_capitalized}
use Rattle.lg_token.proofs.WordLists.{named_joined}
use Rattle.lg_token.proofs.words.named_words.Goals as goal

pub returns-clause-words : goal.returns-clause-words
returns-clause-words c =
    let initial : c.args.initial ≡ true = search rules in
    let capital : is_capitalized c.args.text.now ≡ true = search rules in
    let small = c.deref.ensures.value ∙ c.in_ok-lowered.ensures in
    let words = c.words.inside.items.items in
    let listed = subst (AreWordsOf c.args.view.now c.args.text.now) (sym c.words.view_is) c.in_ok-words.ensures.words in
    named_joined c.args.view.now c.args.initial c.args.text.now c.deref.result.now words c.in_ok-words_of.field-0 c.joined.result initial capital small listed c.in_ok-words_of.ensures c.joined.ensures
