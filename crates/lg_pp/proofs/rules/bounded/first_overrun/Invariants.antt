use Rattle.std.proofs.Common.{ℕ, ◌<◌}
use Rattle.std.specs.Prelude.{slice_index_or, IsTrue, false}
use Rattle.lg_pp.specs.Judging.{Overruns}
use Rattle.lg_pp.proofs.rules.bounded.first_overrun.Given as goal

-- no start so far has such a domain
abbrev pub invariant-loop-n : goal.invariant-loop-n
invariant-loop-n l = (k : ℕ) → k < l.n → IsTrue (slice_index_or l.starts k false) × Overruns l.links l.rows k → ⊥
