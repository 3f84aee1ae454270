use Rattle.std.proofs.Common.{sym, ◌∙◌, subst}
use Rattle.lg_token.specs.Bounds.{AreListed}
use Rattle.lg_audit.specs.Pages.{HaveNamedWords}
use Rattle.lg_audit.proofs.FoundPages.{no_page, page_of, page_for}
use Rattle.lg_audit.proofs.Weaker.{other_words}
use Rattle.lg_audit.proofs.linkages.page_linkages.Goals as goal

pub returns-in_default-clause-exact : goal.returns-in_default-clause-exact
returns-in_default-clause-exact c = λ before sorted is gs page.
    no_page c.tokens_are_one_list.ensures.one c.args.know.now c.args.view.now c.args.text.now c.args.from before gs c.args.page.now c.in_ok-tokens.field-0 c.in_default.not-Ok c.in_ok-tokens.ensures.beyond page

pub returns-clause-exact : goal.returns-clause-exact
returns-clause-exact c = λ before sorted is.
    let know = c.args.know.now in
    let dict = c.args.view.now in
    let text = c.args.text.now in
    let tokens = c.items-2.result.now in
    let listed : AreListed dict text tokens = subst (AreListed dict text) (sym c.items-2.ensures) (rw c.in-Ok.is at c.in_ok-tokens.ensures.listed) in
    let named = subst (HaveNamedWords dict) (c.items.ensures ∙ sym c.items-2.ensures) c.see_tokens.ensures in
    other_words (λ never gs page. never gs (page_for c.expressions_have_disjuncts.ensures c.tokens_are_one_list.ensures.one know dict text tokens listed named c.args.from before gs c.args.page.now page)) (λ gs page. page_of c.expressions_have_disjuncts.ensures c.tokens_are_one_list.ensures.one know dict text tokens listed named c.args.from before gs.items c.args.page.now page) c.linkages_for.result (c.linkages_for.ensures.exact before sorted is)

pub returns-clause-only : goal.returns-clause-only
returns-clause-only c = λ before gs page.
    let know = c.args.know.now in
    let dict = c.args.view.now in
    let text = c.args.text.now in
    let tokens = c.items-2.result.now in
    let listed : AreListed dict text tokens = subst (AreListed dict text) (sym c.items-2.ensures) (rw c.in-Ok.is at c.in_ok-tokens.ensures.listed) in
    let named = subst (HaveNamedWords dict) (c.items.ensures ∙ sym c.items-2.ensures) c.see_tokens.ensures in
    c.linkages_for.ensures.only before gs (page_for c.expressions_have_disjuncts.ensures c.tokens_are_one_list.ensures.one know dict text tokens listed named c.args.from before gs c.args.page.now page)
