-- Which problems stand for another, as far as linkages with few unlinked words go.
use Rattle.std.specs.Prelude.{◌≡◌, ◌↔◌, ◌≤◌, ℕ, List, [], length, slice_index_or}
use Rattle.std.specs.List.{Contains}
use Rattle.lg_gram.specs.Linkages.{Linkage, unlinked}
use Rattle.lg_gram.specs.Problems.{IsProblem}
use Rattle.lg_gram.specs.Rules.{Good}
use Rattle.lg_gram.specs.declared.disjunct.Disjunct.{Disjunct}

-- A problem of some of the disjuncts: each linkage with at most so many unlinked words is good for the one exactly where it is good for the
-- other.
pub record IsSharpened (positions : List (List Disjunct)) (nulls : ℕ) (sharp : List (List Disjunct)) : Type 0 where
  pub is_problem : IsProblem sharp
  pub same_length : length sharp ≡ length positions
  pub fewer : (i : ℕ) (d : Disjunct) → Contains (slice_index_or sharp i []) d → Contains (slice_index_or positions i []) d
  pub same : (g : Linkage) → unlinked g ≤ nulls → Good positions g ↔ Good sharp g
