use Rattle.std.proofs.Common.{◌≡◌, ℕ, ◌<◌, ◌⊎◌, Some}
use Rattle.std.specs.Prelude.{slice_get, slice_index_or, IsTrue, false}
use Rattle.lg_gram.specs.declared.linkage.Link.{Link}
use Rattle.lg_pp.proofs.rules.bounded.overruns.Given as goal

-- no link so far whose flag is set has an end before the root
abbrev pub invariant-loop-m : goal.invariant-loop-m
invariant-loop-m l = (k : ℕ) (x : Link) → k < l.m → slice_get l.links k ≡ Some x → IsTrue (slice_index_or l.row k false) → (x.left < l.root) ⊎ (x.right < l.root) → ⊥
