use Rattle.std.proofs.Common.{subst, ◌∙◌, ap}
use Rattle.lg_answer.proofs.Lists.{zip_more}
use Rattle.lg_gram.specs.declared.listing.Token.{Token}
use Rattle.lg_answer.specs.Steps.{AreWordTrees}
use Rattle.lg_answer.proofs.exprs.exprs_of.Goals as goal

pub loop-token-preserved : goal.loop-token-preserved
loop-token-preserved c =
    let token = c.token-item.result in
    let here = subst (λ words. AreWordTrees c.args.view.now words c.in_ok-words_of.field-0) (c.items.ensures ∙ ap (λ (t : Token). t.words) c.token-item.is) c.in_ok-words_of.ensures in
    rw c.in_ok-push.ensures.items (zip_more (λ t ws. AreWordTrees c.args.view.now t.words ws) c.args.tokens.now c.loop-token.positions.items c.loop-token.token-index token c.in_ok-words_of.field-0
    c.loop-token-test.true c.loop-token.invariant here)
