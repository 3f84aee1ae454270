use Rattle.std.proofs.Common.{◌≡◌, ◌-◌, ◌<◌, ◌≤◌, length, drop}
use Rattle.std.specs.Prelude.{slice_range}
use Rattle.lg_lex.specs.Lexing.{tokens_from, in_plain, lex}
use Rattle.lg_lex.proofs.token.plain_end.Given as goal

abbrev pub invariant-loop-at : goal.invariant-loop-at
invariant-loop-at l = record {
  in_range : l.at ≤ length l.text;
  after : l.start < l.at;
  same : tokens_from l.marks l.text l.start ≡ lex l.marks (in_plain l.start (slice_range l.text l.start l.at)) l.at (drop l.at l.text);
}

abbrev pub decreases-loop-at : goal.decreases-loop-at
decreases-loop-at l = length l.text - l.at
