-- Lists seen by what stands at their places.
use Rattle.std.proofs.Common.{◌≡◌, ℕ, ◌<◌, List, length, Some, inl, inr, arith}
use Rattle.std.specs.List.{slice_get}
use Rattle.std.proofs.lemmas.Option.{slice_get_cases}

-- what stands at a place inside
pub get_in : {X : Type 0} (xs : List X) (i : ℕ) → i < length xs → (x : X) × (slice_get xs i ≡ Some x)
get_in xs i h = elim ((slice_get_cases xs i).1) [ inl r ↦ (r.0, r.2) | inr r ↦ absurd (let l = r.0 in omega arith) ]
