use Rattle.std.proofs.Common.{◌+◌}
use Rattle.lg_answer.specs.Pages.{Listing}
use Rattle.lg_answer.proofs.Kept.{behind_kept}
use Rattle.lg_answer.proofs.listing.Listing.skip.Goals as goal

pub returns-clause-skipped : goal.returns-clause-skipped
returns-clause-skipped c =
    let seen : Listing = record { tokens = c.self.inside.tokens; course = c.self.inside.course; stats = c.self.inside.stats } in
    rw (← c.self.view_is)
    (λ problem same. behind_kept problem seen.course.problem same c.args.know.now seen.course.nulls (seen.course.position + c.args.n) c.skip.new.course.position c.in_ok-skip.ensures.behind)
