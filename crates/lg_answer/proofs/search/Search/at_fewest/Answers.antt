use Rattle.std.proofs.Common.{◌≤◌, subst, sym, length}
use Rattle.lg_answer.proofs.Searching.{few_unlinked, no_level, sharpened_few}
use Rattle.lg_answer.proofs.search.Search.at_fewest.Goals as goal

-- no linkage leaves more words unlinked than there are
pub level_of-requires-clause-few : goal.level_of-requires-clause-few
level_of-requires-clause-few g c κs within =
    let nulls = c.in_ok-nulls.nulls in
    let least = c.in_ok-nulls.ensures.some in
    let few = subst (λ z. z ≤ length c.args.problem) least.2 (few_unlinked c.args.problem least.0 least.1) in
    let sharp = rw c.in-Some.is at c.in_ok-found.ensures in
    subst (λ z. nulls ≤ z) (sym sharp.same_length) few

pub unreachable-requires : goal.unreachable-requires
unreachable-requires g c =
    let nulls = c.in_ok-nulls.nulls in
    let sharp = rw c.in-Some.is at c.in_ok-found.ensures in
    let more = c.in_ok-level.ensures c.args.problem c.in_ok-nulls.ensures.least (sharpened_few c.args.problem nulls c.in-Some.sharp sharp) in
    no_level c.args.problem nulls c.in_ok-nulls.ensures (rw c.in-None.is at more)
