use Rattle.std.proofs.Common.{◌≡◌, ℕ, ◌<◌}
use Rattle.std.specs.Prelude.{slice_index_or, IsTrue, false}
use Rattle.lg_pp.specs.Judging.{class_of}
use Rattle.lg_pp.proofs.rules.trigger.first_of_class.Given as goal

-- no link so far triggers and has a class as it is asked
abbrev pub invariant-loop-n : goal.invariant-loop-n
invariant-loop-n l = (k : ℕ) → k < l.n → IsTrue (slice_index_or l.triggers k false) × (slice_index_or l.hits (class_of l.grouped l.groups k) false ≡ l.asked) → ⊥
