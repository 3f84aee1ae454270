-- the runs from this number on are known
use Rattle.lg_region.specs.Numbered.{AreRuns}
use Rattle.lg_region.proofs.chains.runs_of.Given as goal

abbrev pub invariant-loop-number : goal.invariant-loop-number
invariant-loop-number l = AreRuns l.nexts l.row l.number l.runs.items
