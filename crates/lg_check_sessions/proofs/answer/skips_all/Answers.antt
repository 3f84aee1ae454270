use Rattle.std.proofs.Common.{◌≡◌, ◌+◌, ◌≤◌, ◌⊎◌, ℕ, List, inl, inr, arith}
use Rattle.lg_gram.specs.declared.disjunct.Disjunct.{Disjunct}
use Rattle.lg_knowread.specs.declared.knowledge.Knowledge.{Knowledge}
use Rattle.lg_answer.specs.Candidates.{IsBehind}
use Rattle.lg_answer.specs.declared.options.Nulls.{Nulls}
use Rattle.lg_check_sessions.proofs.answer.skips_all.Goals as goal

no_farther : (positions : List (List Disjunct)) (know : Knowledge) (nulls : Nulls) (n place : ℕ) → IsBehind positions know nulls n place → place ≤ n
no_farther positions know nulls n place behind = elim behind.at [
  | inl here ↦ omega (arith, here)
  | inr short ↦ omega (arith, short.0)
]

-- no more than 1000 candidates are passed over
pub page-requires-clause-room : goal.page-requires-clause-room
page-requires-clause-room g c =
    let start = c.in_ok-listing.listing in
    let behind = c.in_ok-listing-2.ensures.skipped start.course.problem (λ h. (λ good. good, λ good. good)) in
    omega (arith, no_farther _ _ _ _ _ behind, c.in_ok-listing.ensures.first)
