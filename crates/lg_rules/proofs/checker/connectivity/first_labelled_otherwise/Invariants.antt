use Rattle.std.proofs.Common.{◌≡◌, ℕ, ◌<◌, [], slice_index}
use Rattle.lg_gram.specs.Rules.{IsLinked}
use Rattle.lg_rules.specs.Places.{linkage_of}
use Rattle.lg_rules.proofs.checker.connectivity.first_labelled_otherwise.Given as goal

-- the linked positions so far have this label
abbrev pub invariant-loop-i : goal.invariant-loop-i
invariant-loop-i l = (k : ℕ) → k < l.i → IsLinked (linkage_of l.chosen []) k → slice_index l.labels k ≡ l.label
