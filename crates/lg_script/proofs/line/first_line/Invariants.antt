use Rattle.std.proofs.Common.{◌≢◌, ◌-◌, ◌≤◌, length, take}
use Rattle.std.specs.List.{AllByRecursion}
use Rattle.lg_lex.specs.Classes.{line_feed}
use Rattle.lg_script.proofs.line.first_line.Given as goal

abbrev pub invariant-loop-at : goal.invariant-loop-at
invariant-loop-at l = record {
  in_range : l.at ≤ length l.text;
  before : AllByRecursion (λ b. b ≢ line_feed) (take l.at l.text);
}

abbrev pub decreases-loop-at : goal.decreases-loop-at
decreases-loop-at l = length l.text - l.at
