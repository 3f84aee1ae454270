use Rattle.std.proofs.Common.{◌≡◌, ◌+◌, ◌-◌, ◌≤◌, length, drop}
use Rattle.std.specs.Prelude.{slice_range}
use Rattle.lg_lex.specs.Lexing.{tokens_from, in_quotes, lex}
use Rattle.lg_lex.proofs.token.closing_quote.Given as goal

abbrev pub invariant-loop-at : goal.invariant-loop-at
invariant-loop-at l = record {
  in_range : l.at ≤ length l.text;
  after : l.start + 1 ≤ l.at;
  same : tokens_from l.marks l.text l.start ≡ lex l.marks (in_quotes l.start (slice_range l.text (l.start + 1) l.at)) l.at (drop l.at l.text);
}

abbrev pub decreases-loop-at : goal.decreases-loop-at
decreases-loop-at l = length l.text - l.at
