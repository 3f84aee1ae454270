use Rattle.std.proofs.Common.{ℕ, ◌<◌, [], None, slice_index_or}
use Rattle.std.specs.Prelude.{IfSome}
use Rattle.std.specs.List.{Contains}
use Rattle.lg_rules.proofs.membership.are_listed.Given as goal

-- the choices so far are listed
abbrev pub invariant-loop-i : goal.invariant-loop-i
invariant-loop-i l = (k : ℕ) → k < l.i → IfSome (slice_index_or l.chosen k None) (Contains (slice_index_or l.positions k []))
