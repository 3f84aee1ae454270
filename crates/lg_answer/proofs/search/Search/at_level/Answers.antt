use Rattle.std.proofs.Common.{◌≤◌, subst, length}
use Rattle.lg_answer.proofs.Searching.{begins_fewest, few_unlinked}
use Rattle.lg_answer.proofs.search.Search.at_level.Goals as goal

-- no linkage leaves more words unlinked than there are
pub solve_at_by-requires-clause-nulls : goal.solve_at_by-requires-clause-nulls
solve_at_by-requires-clause-nulls g c κs within =
    let least = c.requires.fewest.some in
    subst (λ z. z ≤ length c.args.problem) least.2 (few_unlinked c.args.problem least.0 least.1)

pub returns : goal.returns
returns g c =
    begins_fewest c.args.problem c.args.nulls c.in_ok-forest.forest.unused c.in_ok-ranked.ranked c.requires.fewest c.in_ok-forest.ensures.unused c.in_ok-ranked.ensures
