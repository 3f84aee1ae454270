use Rattle.std.proofs.Common.{◌≡◌, ◌-◌, ◌<◌, ◌≤◌, length, drop}
use Rattle.std.specs.Prelude.{slice_range}
use Rattle.lg_lex.specs.Runs.{inside, runs_of, runs_from}
use Rattle.lg_lex.proofs.run.run_end.Given as goal

abbrev pub invariant-loop-at : goal.invariant-loop-at
invariant-loop-at l = record {
  in_range : l.at ≤ length l.text;
  after : l.start < l.at;
  same : runs_from l.separators l.text l.start ≡ runs_of l.separators (inside l.start (slice_range l.text l.start l.at)) l.at (drop l.at l.text);
}

abbrev pub decreases-loop-at : goal.decreases-loop-at
decreases-loop-at l = length l.text - l.at
