use Rattle.std.proofs.Common.{◌≡◌, ◌++◌, length, map}
use Rattle.std.specs.List.{AllByRecursion, flat_map}
use Rattle.lg_text.specs.Shown.{closed}
use Rattle.lg_audit.specs.Lines.{word_line, IsWordInForm}
use Rattle.lg_audit.proofs.runs.words.Given as goal

-- the positions so far, and what is left
abbrev pub invariant-loop-line : goal.invariant-loop-line
invariant-loop-line l = record {
  form : AllByRecursion IsWordInForm l.words.items;
  read : l.text ≡ flat_map closed (map word_line l.words.items) ++ l.left;
}

abbrev pub decreases-loop-line : goal.decreases-loop-line
decreases-loop-line l = length l.left
