use Rattle.std.proofs.Common.{◌≡◌, ◌-◌, ◌≤◌, length}
use Rattle.lg_lex.specs.Runs.{runs_from}
use Rattle.lg_lex.proofs.run.run_start.Given as goal

abbrev pub invariant-loop-at : goal.invariant-loop-at
invariant-loop-at l = record {
  in_range : l.at ≤ length l.text;
  from_on : l.from ≤ l.at;
  same : runs_from l.separators l.text l.from ≡ runs_from l.separators l.text l.at;
}

abbrev pub decreases-loop-at : goal.decreases-loop-at
decreases-loop-at l = length l.text - l.at
