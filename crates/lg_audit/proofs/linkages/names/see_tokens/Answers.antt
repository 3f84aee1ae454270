use Rattle.std.proofs.Common.{subst}
use Rattle.lg_gram.specs.declared.listing.Token.{Token}
use Rattle.lg_audit.specs.Pages.{HasNamedWords}
use Rattle.lg_audit.proofs.NamedTokens.{named_all}
use Rattle.lg_audit.proofs.Taken.{all_more}
use Rattle.lg_audit.proofs.linkages.names.see_tokens.Goals as goal

pub loop-token-preserved : goal.loop-token-preserved
loop-token-preserved c =
    all_more (λ (t : Token). HasNamedWords c.args.view.now t.words) c.args.tokens.now c.loop-token.token-index c.token-item.result c.loop-token-test.true c.token-item.is c.loop-token.invariant
    (subst (HasNamedWords c.args.view.now) c.items.ensures c.see_words.ensures)

pub returns : goal.returns
returns c = named_all c.args.view.now c.args.tokens.now c.loop-token.token-index c.loop-token-test.false c.loop-token.invariant
