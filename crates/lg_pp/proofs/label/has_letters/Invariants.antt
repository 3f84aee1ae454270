use Rattle.std.proofs.Common.{◌≡◌, ◌⊎◌, ℕ, ◌<◌, Some}
use Rattle.std.specs.Prelude.{slice_get}
use Rattle.lg_gram.specs.Names.{STAR}
use Rattle.lg_pp.proofs.label.has_letters.Given as goal

-- the places so far have a star, or their letter
abbrev pub invariant-loop-k : goal.invariant-loop-k
invariant-loop-k l = (j x : ℕ) → j < l.k → slice_get l.wanted j ≡ Some x → (x ≡ STAR) ⊎ (slice_get l.letters j ≡ Some x)
