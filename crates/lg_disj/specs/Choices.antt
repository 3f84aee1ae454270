-- How choices are ordered and joined, and what their connectors are.
use Rattle.std.specs.Prelude.{◌≡◌, ◌≤ℤ◌, ℕ, Bool, true, false, List, map}
use Rattle.std.specs.List.{All, Contains, flat_map}
use Rattle.std.specs.Ordering.{int_cmp, on, then_cmp}
use Rattle.std.specs.declared.cmp.Ordering.{Ordering}
use Rattle.std.specs.Cmp.Lexicographic.{slice_cmp}
use Rattle.lg_gram.specs.Names.{IsName}
use Rattle.lg_gram.specs.Connectors.{Connector, name_of, connector_cmp}
use Rattle.lg_gram.specs.Measures.{Choice, joined}
use Rattle.lg_gram.specs.Problems.{IsDisjunctCost}
use Rattle.lg_gram.specs.declared.disjunct.Disjunct.{Disjunct}

-- by left list, then right list
abbrev pub lists_cmp : Choice → Choice → Ordering
lists_cmp = then_cmp (on (λ c. c.left) (slice_cmp connector_cmp)) (on (λ c. c.right) (slice_cmp connector_cmp))

-- by the two lists, then by cost
abbrev pub choice_cmp : Choice → Choice → Ordering
choice_cmp = then_cmp lists_cmp (on (λ c. c.cost) int_cmp)

-- each of the first choices joined with each of the second
abbrev pub products : List Choice → List Choice → List Choice
products firsts seconds = flat_map (λ a. map (joined a) seconds) firsts

-- a connector of this direction, with a name that may be written
pub record IsOn (right : Bool) (c : Connector) : Type 0 where
  pub named : IsName (name_of c)
  pub side : c.right ≡ right

-- each connector is in the list of its direction
pub record IsSided (c : Choice) : Type 0 where
  pub left : All (IsOn false) c.left
  pub right : All (IsOn true) c.right

-- one of the choices, and none of them with the same two lists is cheaper
pub record IsCheapest (cs : List Choice) (c : Choice) : Type 0 where
  pub chosen : Contains cs c
  pub least : (b : Choice) → Contains cs b → b.left ≡ c.left → b.right ≡ c.right → c.cost ≤ℤ b.cost

abbrev pub disjunct_of : List ℕ → Choice → Disjunct
disjunct_of word c = record { word = word; left = c.left; right = c.right; cost = c.cost }

abbrev pub HasSmallCost : Choice → Type 0
HasSmallCost c = IsDisjunctCost c.cost
