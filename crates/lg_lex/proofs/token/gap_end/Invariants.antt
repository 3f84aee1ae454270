use Rattle.std.proofs.Common.{◌≡◌, ◌-◌, ◌≤◌, length, drop}
use Rattle.lg_lex.specs.Lexing.{tokens_from, lex}
use Rattle.lg_lex.proofs.Loops.{gap_mode}
use Rattle.lg_lex.proofs.token.gap_end.Given as goal

abbrev pub invariant-loop-at : goal.invariant-loop-at
invariant-loop-at l = record {
  in_range : l.at ≤ length l.text;
  from_on : l.from ≤ l.at;
  same : tokens_from l.marks l.text l.from ≡ lex l.marks (gap_mode l.commenting) l.at (drop l.at l.text);
}

abbrev pub decreases-loop-at : goal.decreases-loop-at
decreases-loop-at l = length l.text - l.at
