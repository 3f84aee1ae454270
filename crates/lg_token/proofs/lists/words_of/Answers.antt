use Rattle.std.proofs.Common.{sym, subst}
use Rattle.std.proofs.lemmas.List.Elements.{All-push}
use Rattle.lg_dict.specs.Dictionary.{AreWordsOf}
use Rattle.lg_token.specs.declared.lists.Named.{Named}
use Rattle.lg_token.proofs.lists.words_of.Goals as goal

pub returns-clause-words : goal.returns-clause-words
returns-clause-words c = subst (AreWordsOf c.args.view.now c.args.name.now) (sym c.in_ok-copy.ensures) c.in_ok-words.ensures

pub returns-clause-lists : goal.returns-clause-lists
returns-clause-lists c =
    rw c.in_ok-push.ensures.items (All-push (λ (list : Named). AreWordsOf c.args.view.now list.name.now list.words) c.args.lists.now.items _ c.requires c.in_ok-words.ensures)
