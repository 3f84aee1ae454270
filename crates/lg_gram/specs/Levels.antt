-- The linkages that are listed.
use Rattle.std.specs.Prelude.{◌≡◌, ◌↔◌, ℕ, ◌≤◌, List}
use Rattle.std.specs.List.{Contains}
use Rattle.std.specs.List.Sorted.{IsStrictlySortedBy}
use Rattle.std.specs.declared.cmp.Ordering.TheVariants.{Equal}
use Rattle.lg_gram.specs.Problems.{IsProblem}
use Rattle.lg_gram.specs.Linkages.{Linkage, linkage_cmp, unlinked}
use Rattle.lg_gram.specs.Rules.{Belongs, Good}
use Rattle.lg_gram.specs.declared.disjunct.Disjunct.{Disjunct}

-- exactly all good linkages with so many unlinked positions, in order, each once
pub record IsLevel (positions : List (List Disjunct)) (nulls : ℕ) (level : List Linkage) : Type 0 where
  pub rise : IsStrictlySortedBy linkage_cmp level
  pub exactly : (g : Linkage) → Contains level g ↔ (Good positions g × (unlinked g ≡ nulls))

-- some good linkage has so many unlinked positions, and none has fewer
pub record IsFewest (positions : List (List Disjunct)) (nulls : ℕ) : Type 0 where
  pub some : (g : Linkage) × Good positions g × (unlinked g ≡ nulls)
  pub least : (g : Linkage) → Good positions g → nulls ≤ unlinked g

-- the candidates: the level of the fewest unlinked positions
pub record AreCandidates (positions : List (List Disjunct)) (candidates : List Linkage) : Type 0 where
  pub fewest : ℕ
  pub is_fewest : IsFewest positions fewest
  pub level : IsLevel positions fewest candidates

-- linkages of one problem
pub record AreOfOneProblem (linkages : List Linkage) : Type 0 where
  pub positions : List (List Disjunct)
  pub is_problem : IsProblem positions
  pub each : (g : Linkage) → Contains linkages g → Belongs positions g

-- linkages of one problem that the order does not tell apart are one
abbrev pub TellsApart : Type 0
TellsApart = (positions : List (List Disjunct)) (a b : Linkage) → IsProblem positions → Belongs positions a → Belongs positions b → linkage_cmp a b ≡ Equal → a ≡ b
