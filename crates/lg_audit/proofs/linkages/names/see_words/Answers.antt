use Rattle.std.proofs.Common.{◌≡◌, List, ℕ, Some, subst}
use Rattle.std.specs.FinMap.{get}
use Rattle.std.proofs.lemmas.List.{take_all}
use Rattle.lg_gram.specs.Trees.{Tree}
use Rattle.lg_disj.specs.Exist.{HasNames}
use Rattle.lg_audit.specs.Pages.{HasNamedWords}
use Rattle.lg_audit.proofs.NamedTokens.{named_more}
use Rattle.lg_audit.proofs.linkages.names.see_words.Goals as goal

pub loop-word-preserved : goal.loop-word-preserved
loop-word-preserved c =
    named_more c.args.view.now c.args.words.now c.loop-word.word-index c.word-item.result c.loop-word-test.true c.word-item.is c.loop-word.invariant
    (subst (λ (w : List ℕ). (t : Tree) → get c.args.view.now.words w ≡ Some t → HasNames t) c.bytes.ensures c.see_word.ensures)

pub returns : goal.returns
returns c = subst (HasNamedWords c.args.view.now) (take_all c.loop-word.word-index c.args.words.now c.loop-word-test.false) c.loop-word.invariant
