use Rattle.std.proofs.Common.{◌≡◌, ℕ, ◌<◌, length}
use Rattle.std.specs.Prelude.{slice_index_or, IsTrue, false}
use Rattle.lg_pp.specs.Judging.{AreCycled, IsBridgeAt}
use Rattle.lg_pp.proofs.rules.cycle.first_bridge.Given as goal

-- no link so far matches and is a bridge
abbrev pub invariant-loop-n : goal.invariant-loop-n
invariant-loop-n l = record {
  enough : length l.cycled.items ≡ length l.initial.cycled.items;
  none : (k : ℕ) → k < l.n → IsTrue (slice_index_or l.matching k false) × IsBridgeAt l.g k → ⊥;
  cycled : AreCycled l.g l.cycled.items;
}
