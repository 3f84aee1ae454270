-- The listing of a problem's good linkages with so many unlinked positions.
use Rattle.std.specs.Prelude.{◌≡◌, ℕ, ◌<◌, Bool, true, false, List, length, Option, None, Some, is_some, slice_get}
use Rattle.lg_gram.specs.Linkages.{Linkage}
use Rattle.lg_gram.specs.declared.disjunct.Disjunct.{Disjunct}
use Rattle.lg_rank.specs.Meanings.{IsPacked, Subject, whole, IsForestOf}
use Rattle.lg_rank.specs.Tables.{forest_of, IsTable}
use Rattle.lg_rank.specs.Values.{Value}
use Rattle.lg_rank.specs.declared.node.Node.{Node}
use Rattle.lg_rank.specs.declared.part.Way.{Way}

-- the problem, how many positions are unlinked, and how many linkages were given or passed over
pub record Ranking : Type 0 where
  pub positions : List (List Disjunct)
  pub nulls : ℕ
  pub position : ℕ

-- how many linkages are given
abbrev pub given : Option Linkage → ℕ
given None = 0
given (Some g) = 1

-- how many linkages are passed over
abbrev pub passed_over : Bool → ℕ
passed_over false = 0
passed_over true = 1

-- Whether there is a next linkage: one that Next is said of, or none.
abbrev pub IsThere : (Option Linkage → Type 0) → Bool → Type 0
IsThere Next there = (g : Option Linkage) × Next g × (there ≡ is_some g)

-- the node of the whole sentence, or none where all positions are unlinked
abbrev pub IsRoot : List (List Disjunct) → List (List Way) → (ℕ → Subject) → ℕ → Option ℕ → Type 0
IsRoot positions forest subjects nulls None = nulls ≡ length positions
IsRoot positions forest subjects nulls (Some k) = (k < length forest) × (subjects k ≡ whole nulls)

-- r is the linkage of the value at i
abbrev pub IsLinkageAt : List (List Disjunct) → List Value → ℕ → Linkage → Type 0
IsLinkageAt positions values i r = (v : Value) → slice_get values i ≡ Some v → (g : Linkage) → IsPacked positions g v → length g.chosen ≡ length positions → r ≡ g

-- a table for the whole sentence with so many unlinked positions
pub record IsListing (positions : List (List Disjunct)) (z : Value) (nodes : List Node) (nulls : ℕ) (root : Option ℕ) : Type 0 where
  pub subjects : ℕ → Subject
  pub forest : IsForestOf positions z (forest_of nodes) subjects
  pub table : IsTable z nodes
  pub root_is : IsRoot positions (forest_of nodes) subjects nulls root
