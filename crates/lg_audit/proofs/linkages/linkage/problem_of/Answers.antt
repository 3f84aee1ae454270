use Rattle.std.proofs.Common.{sym, subst}
use Rattle.lg_gram.specs.Problems.{IsProblem}
use Rattle.lg_audit.proofs.Alone.{is_problem}
use Rattle.lg_audit.proofs.Weaker.{is_there}
use Rattle.lg_audit.proofs.linkages.linkage.problem_of.Goals as goal

pub unwrap-requires : goal.unwrap-requires
unwrap-requires c =
    is_there c.of.result (IsProblem c.in_ok-positions.positions) _ c.of.ensures (subst IsProblem (sym c.in_ok-positions.ensures) (is_problem c.args.chosen.now c.requires.few c.requires.fit))
