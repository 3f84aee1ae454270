-- The links that a choice of disjuncts allows, as the slow lister finds them. Contracts of private steps alone cite this.
use Rattle.std.specs.Prelude.{◌≡◌, ℕ, ◌<◌, List, Option, None, IfSome, slice_index_or, ◌⊎◌}
use Rattle.std.specs.List.{All, Contains}
use Rattle.std.specs.List.Sorted.{IsStrictlySortedBy}
use Rattle.lg_gram.specs.Connectors.{Connector}
use Rattle.lg_gram.specs.Linkages.{link_cmp}
use Rattle.lg_gram.specs.Problems.{FitsProblem}
use Rattle.lg_gram.specs.Rules.{left_list, right_list, Joins}
use Rattle.lg_gram.specs.declared.disjunct.Disjunct.{Disjunct}
use Rattle.lg_gram.specs.declared.linkage.Link.{Link}

-- a disjunct within a problem's limits, or none
abbrev pub FitsChoice : Option Disjunct → Type 0
FitsChoice o = IfSome o FitsProblem

-- the connectors to the right of a position, and to its left
abbrev pub right_at : List (Option Disjunct) → ℕ → List Connector
right_at chosen i = right_list (slice_index_or chosen i None)

abbrev pub left_at : List (Option Disjunct) → ℕ → List Connector
left_at chosen i = left_list (slice_index_or chosen i None)

-- the link goes to the right, and joins two connectors that match
pub record CanLink (chosen : List (Option Disjunct)) (l : Link) : Type 0 where
  pub forward : l.left < l.right
  pub joins : Joins (right_at chosen) (left_at chosen) l

-- links that the choice allows, in order, each once
pub record AreLinks (chosen : List (Option Disjunct)) (links : List Link) : Type 0 where
  pub allowed : All (CanLink chosen) links
  pub rise : IsStrictlySortedBy link_cmp links

-- the link stands, in the order of links, before the one of these positions and places
abbrev pub IsBefore : Link → ℕ → ℕ → ℕ → ℕ → Type 0
IsBefore k left right lplace rplace =
    (k.left < left) ⊎ ((k.left ≡ left) × ((k.right < right) ⊎ ((k.right ≡ right) × ((k.lplace < lplace) ⊎ ((k.lplace ≡ lplace) × (k.rplace < rplace))))))

-- exactly the links that the choice allows before the one of these positions and places
pub record HasThoseBefore (chosen : List (Option Disjunct)) (out : List Link) (left right lplace rplace : ℕ) : Type 0 where
  pub are : AreLinks chosen out
  pub before : All (λ k. IsBefore k left right lplace rplace) out
  pub every : (k : Link) → CanLink chosen k → IsBefore k left right lplace rplace → Contains out k
