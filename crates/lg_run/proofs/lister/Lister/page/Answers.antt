use Rattle.std.proofs.Common.{◌≡◌, ◌∙◌, refl, sym, subst, List, All, arith}
use Rattle.lg_gram.specs.declared.listing.Token.{Token}
use Rattle.lg_answer.specs.Pages.{IsLinkageFor}
use Rattle.lg_run.specs.Listers.{Lister, Turns}
use Rattle.lg_run.proofs.Turned.{stops_near}
use Rattle.lg_run.proofs.lister.Lister.page.Goals as goal

-- the page, and the same tokens
pub returns : goal.returns
returns c =
    let page = c.in_ok-listing.page in
    let held = c.args.held in
    let tokens : c.in_ok-tokens.tokens ≡ held.listing.tokens = c.in_ok-tokens.ensures ∙ c.tokens.ensures.value ∙ c.in_ok-listing.ensures.same.tokens in
    let own = held.listing.course.problem in
    let near = stops_near own _ _ _ _ _ page (c.in_ok-listing.ensures.page own (λ g. (λ h. h, λ h. h))) in
    subst (λ (l : Lister). Turns l held (record { listing = c.in_ok-listing.listing; want = held.want }) c.in_ok-tokens.tokens page) c.self.view_is
    (record {
      shown = c.in_ok-listing.ensures.page;
      same = c.in_ok-listing.ensures.same;
      moved = c.in_ok-listing.ensures.moved;
      knows = c.in_ok-listing.ensures.stands;
      want = refl;
      same_tokens = tokens;
      printable = subst (λ (ts : List Token). All (λ item. IsLinkageFor ts item.linkage) page.items) (sym tokens) c.in_ok-listing.ensures.printable;
      near = omega (arith, near, c.self.invariant.range.examine.1);
    })
