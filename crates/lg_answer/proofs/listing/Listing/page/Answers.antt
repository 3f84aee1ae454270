use Rattle.lg_answer.specs.Pages.{Listing}
use Rattle.lg_answer.proofs.Kept.{page_kept}
use Rattle.lg_answer.proofs.Printable.{page_fits}
use Rattle.lg_answer.proofs.listing.Listing.page.Goals as goal

pub returns-clause-printable : goal.returns-clause-printable
returns-clause-printable c =
    let seen : Listing = record { tokens = c.self.inside.tokens; course = c.self.inside.course; stats = c.self.inside.stats } in
    rw (← c.self.view_is) (page_fits seen c.args.know.now c.args.want c.args.examine c.in_ok-page.page c.self.invariant c.in_ok-page.ensures.page)

pub returns-clause-page : goal.returns-clause-page
returns-clause-page c =
    let seen : Listing = record { tokens = c.self.inside.tokens; course = c.self.inside.course; stats = c.self.inside.stats } in
    rw (← c.self.view_is)
    (λ problem same. page_kept problem seen.course.problem same c.args.know.now seen.course.nulls seen.course.position c.args.want c.args.examine c.in_ok-page.page c.in_ok-page.ensures.page)
