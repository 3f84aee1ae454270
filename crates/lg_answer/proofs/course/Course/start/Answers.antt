use Rattle.std.proofs.Common.{[]}
use Rattle.lg_answer.proofs.Coming.{at_start}
use Rattle.lg_answer.proofs.course.Course.start.Goals as goal

pub returns-clause-stands : goal.returns-clause-stands
returns-clause-stands g c = λ know.
    let begins = c.in_ok-search.ensures in
    let search = c.in_ok-search.search in
    ([], rw begins.first (at_start know search.positions c.args.options.now.nulls search.nulls begins.fewest.least))
