use Rattle.std.proofs.Common.{◌≡◌, ◌-◌, ℕ, List, subst, ◌∙◌, arith}
use Rattle.lg_answer.specs.Candidates.{StandsFor}
use Rattle.lg_answer.specs.Pages.{IsListing, HasSkipped}
use Rattle.lg_run.specs.Documents.{wanted}
use Rattle.lg_run.specs.Listers.{Lister}
use Rattle.lg_run.proofs.Turned.{Skips, wanted_is, opened, skips_near}
use Rattle.lg_run.proofs.lister.ListerEngine.begin.Goals as goal

-- the listing has passed over fewer candidates than a million
pub page-requires : goal.page-requires
page-requires g c =
    let start = c.in-Ok-start.start in
    let skipped = c.in_ok-listing.ensures.skipped start.course.problem (λ h. (λ good. good, λ good. good)) in
    record {
      knows = subst (λ (l : Lister). StandsFor l.know c.in_ok-listing.listing.course) c.self.view_is c.in_ok-listing.ensures.stands;
      near = omega (arith, skips_near _ _ start c.in_ok-listing.listing (c.args.first - 1) skipped c.in-Ok-start.ensures.first, c.requires.first.1);
    }

-- the first page of the listing
pub returns : goal.returns
returns g c =
    let l = c.args.self.now in
    let text = c.args.text.now in
    let start = c.in-Ok-start.start in
    let want = subst (λ (x : Lister). c.unwrap_or-want.result ≡ wanted x.options c.args.want) c.self.view_is (c.unwrap_or-want.ensures ∙ wanted_is c.self.inside.options c.args.want) in
    let is : IsListing c.args.view.now text l.options start =
    subst (λ (x : Lister). IsListing c.args.view.now text x.options start) c.self.view_is
    (subst (λ (bytes : List ℕ). IsListing c.args.view.now bytes c.self.inside.options start) (c.in-Ok.ensures.cases.0 ∙ c.bytes.ensures) c.in-Ok-start.ensures.listing) in
    let skips : Skips l c.args.view.now text c.args.want c.args.first (record { listing = c.in_ok-listing.listing; want = c.unwrap_or-want.result }) = record {
      start = start;
      is = is;
      nulls = subst (λ (x : Lister). start.course.nulls ≡ x.options.nulls) c.self.view_is c.in-Ok-start.ensures.nulls;
      at_start = c.in-Ok-start.ensures.first;
      skipped = subst (λ (x : Lister). HasSkipped x.know is.problem start (c.args.first - 1) c.in_ok-listing.listing) c.self.view_is (c.in_ok-listing.ensures.skipped is.problem is.keeps);
      same = c.in_ok-listing.ensures.same;
      knows = subst (λ (x : Lister). StandsFor x.know c.in_ok-listing.listing.course) c.self.view_is c.in_ok-listing.ensures.stands;
      wants = want;
    } in
    opened l c.args.view.now text c.args.want c.args.first (record { listing = c.in_ok-listing.listing; want = c.unwrap_or-want.result }) skips c.in_ok-held.held c.in_ok-held.tokens c.in_ok-held.page c.stats-stats.result
    c.requires.first.1 c.in_ok-held.ensures c.stats-stats.ensures
