use Rattle.lg_session.specs.Rows.{ground_of}
use Rattle.lg_session.proofs.Kept.{KeptSoFar}
use Rattle.lg_session.proofs.job.run_one.Given as goal

abbrev pub invariant-loop-index : goal.invariant-loop-index
invariant-loop-index g l = KeptSoFar (g.K.Keeper.keeps l.keeper) (ground_of (g.E.Engine.meaning l.engine) l.scripts l.base) (g.E.Engine.stands l.engine) l.log l.session l.state l.kept l.index
