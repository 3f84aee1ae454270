use Rattle.std.proofs.Common.{◌-◌, ◌≤◌, length, slice_range}
use Rattle.std.specs.List.{AllByRecursion}
use Rattle.lg_lex.proofs.Sections.{IsBefore}
use Rattle.lg_lex.proofs.section.section_to.Given as goal

-- the sign does not stand before the spot, nor does a comment or a quote begin there
abbrev pub invariant-loop-last : goal.invariant-loop-last
invariant-loop-last l = record {
  from : l.fn.from ≤ l.last;
  within : l.last ≤ length l.text;
  before : AllByRecursion (IsBefore l.marks l.sign) (slice_range l.text l.fn.from l.last);
}

abbrev pub decreases-loop-last : goal.decreases-loop-last
decreases-loop-last l = length l.text - l.last
