use Rattle.std.proofs.Common.{◌≡◌, Some, subst}
use Rattle.lg_gram.specs.declared.listing.Page.{Page}
use Rattle.lg_dict.specs.Dictionary.{Dictionary}
use Rattle.lg_answer.specs.declared.options.Nulls.{Nulls}
use Rattle.lg_answer.specs.declared.refusal.AnswerRefusal.TheVariants.{Beyond}
use Rattle.lg_token.specs.Bounds.{IsBeyond}
use Rattle.lg_answer.specs.Pages.{IsPage, IsListing, IsRefused}
use Rattle.lg_text.specs.Pages.{listing_text}
use Rattle.lg_text.specs.Texts.{bound_line}
use Rattle.lg_run.specs.Documents.{DocumentIs, listed, beyond, no_knowledge}
use Rattle.lg_run.proofs.Answered.{of_each}
use Rattle.lg_run.proofs.sentence.document.Goals as goal

-- the listing stands for every knowledge
pub first_page-requires-clause-stands : goal.first_page-requires-clause-stands
first_page-requires-clause-stands g c = c.in-Ok.ensures.stands no_knowledge

-- the page of the listing at its start
pub returns-in-Ok : goal.returns-in-Ok
returns-in-Ok g c =
    let l = c.in-Ok.listing in
    let setup = c.args.setup in
    let options = setup.listing in
    let is = subst (λ (d : Dictionary). IsListing d c.args.sentence.now options l) c.of.ensures c.in-Ok.ensures.listing in
    let Shows : Nulls → Page → Type 0 = λ nulls. IsPage is.problem no_knowledge nulls 0 options.want options.examine in
    of_each c.first_page.result (λ text. (page : Page) × Shows l.course.nulls page × (text.items ≡ listing_text setup.look l.tokens page (Some l.stats))) (λ text. DocumentIs setup c.args.dict.now c.args.sentence.now text.items)
    (λ text h. listed l.tokens is.problem h.0 l.stats is.sentence (subst (λ (n : Nulls). Shows n h.0) c.in-Ok.ensures.nulls h.1) is.counted h.2)
    (c.first_page.ensures is.problem is.keeps)

-- the line of the bound
pub returns-in-Err-Beyond : goal.returns-in-Err-Beyond
returns-in-Err-Beyond g c =
    let b = c.in-Err-Beyond.bound in
    let refused : IsRefused c.of.result c.args.sentence.now (Beyond b) = subst (IsRefused c.of.result c.args.sentence.now) c.in-Err-Beyond.field-0-is c.in-Err-Beyond.ensures.refused in
    of_each c.bound_text.result (λ text. text.items ≡ bound_line b) (λ text. DocumentIs c.args.setup c.args.dict.now c.args.sentence.now text.items)
    (λ text h. beyond b (subst (λ (d : Dictionary). IsBeyond d c.args.sentence.now b) c.of.ensures refused) h)
    (rw c.in-Err-Beyond.field-0-is at c.bound_text.ensures)
