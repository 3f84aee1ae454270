use Rattle.std.proofs.Common.{◌≡◌, ◌∙◌, ℕ, Some, subst}
use Rattle.lg_gram.specs.declared.listing.Page.{Page}
use Rattle.lg_knowread.specs.declared.knowledge.Knowledge.{Knowledge}
use Rattle.lg_answer.specs.Pages.{IsPage}
use Rattle.lg_text.specs.Pages.{listing_text}
use Rattle.lg_run.specs.Documents.{no_knowledge}
use Rattle.lg_run.proofs.Answered.{of_each}
use Rattle.lg_run.proofs.sentence.first_page.Goals as goal

-- the page from the first candidate on, beside the same tokens and numbers
pub returns : goal.returns
returns c = λ problem same.
    let l = c.args.listing in
    let look = c.args.setup.look in
    let options = c.args.setup.listing in
    let page = c.in_ok-listing.page in
    let Shows : Page → Type 0 = IsPage problem no_knowledge l.course.nulls 0 options.want options.examine in
    let is : Shows page =
    subst (λ (know : Knowledge). IsPage problem know l.course.nulls 0 options.want options.examine page) c.no_knowledge-know.ensures
    (subst (λ (n : ℕ). IsPage problem c.no_knowledge-know.result l.course.nulls n options.want options.examine page) c.requires.first (c.in_ok-listing.ensures.page problem same)) in
    let tokens : c.tokens.result.now ≡ l.tokens = c.tokens.ensures.value ∙ c.in_ok-listing.ensures.same.tokens in
    of_each c.listing_text.result (λ text. text.items ≡ listing_text look c.tokens.result.now page (Some c.stats-stats.result)) (λ text. (page : Page) × Shows page × (text.items ≡ listing_text look l.tokens page (Some l.stats)))
    (λ text written. (page, is, written ∙ (λ i. listing_text look (tokens i) page (Some (c.stats-stats.ensures i)))))
    c.listing_text.ensures
