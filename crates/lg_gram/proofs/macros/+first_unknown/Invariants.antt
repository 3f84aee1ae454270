use Rattle.std.proofs.Common.{ℕ, ◌≤◌, drop}
use Rattle.std.specs.declared.ops.ControlFlow.{ControlFlow}
use Rattle.lg_gram.specs.Limits.{REFERENCES_COUNTED}
use Rattle.lg_gram.specs.RawTrees.{raw_items, raw_trees_in, macros_in}
use Rattle.lg_gram.specs.Filled.{FirstUnknown}
use Rattle.lg_gram.proofs.macros.+first_unknown.Given as goal

-- what is found among the other members is found among all
abbrev pub invariant-unknown_among-loop-member : goal.invariant-unknown_among-loop-member
invariant-unknown_among-loop-member g l = record {
  low : l.next ≤ REFERENCES_COUNTED;
  told : (answer : ControlFlow ℕ ℕ) → FirstUnknown (g.M.Macros.formulas l.macros) (macros_in (raw_trees_in (drop l.member-index l.member-items))) l.next answer → FirstUnknown (g.M.Macros.formulas l.macros) (macros_in (raw_trees_in (raw_items l.members))) l.first answer;
}
