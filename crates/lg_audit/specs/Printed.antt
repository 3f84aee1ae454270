-- What a line shows of a disjunct, and formulas without the connectors that it does not show.
use Rattle.std.specs.Prelude.{◌≡◌, ℕ, eqb, Bool, List, ℤ, Contains, if◌then◌else◌}
use Rattle.std.specs.Cmp.Lexicographic.{pointwise}
use Rattle.std.specs.List.{list_any, join_with_byte, AllByRecursion}
use Rattle.lg_gram.specs.Connectors.{Connector, connector_text}
use Rattle.lg_gram.specs.Disjuncts.{IsDisjunctOf}
use Rattle.lg_gram.specs.Problems.{FitsProblem}
use Rattle.lg_gram.specs.Trees.{Tree, Trees, empty, leaf, all_of, one_of, priced, no_trees, tree}
use Rattle.lg_gram.specs.declared.disjunct.Disjunct.{Disjunct}
use Rattle.lg_text.specs.Texts.{side_text}
use Rattle.lg_audit.specs.Pieces.{Lacks}

-- the disjunct's sides are printed so, and that is its cost
pub record IsPrintedSo (left right : List ℕ) (cost : ℤ) (d : Disjunct) : Type 0 where
  pub left_side : side_text d.left ≡ left
  pub right_side : side_text d.right ≡ right
  pub costs : d.cost ≡ cost

-- one of these disjuncts that is printed so
pub record IsPrintedOf (ds : List Disjunct) (left right : List ℕ) (cost : ℤ) (d : Disjunct) : Type 0 where
  pub one : Contains ds d
  pub printed : IsPrintedSo left right cost d

-- a disjunct of the word's formula that is printed so, within the limits of a problem
pub record IsPrintedBy (word : List ℕ) (t : Tree) (left right : List ℕ) (cost : ℤ) (d : Disjunct) : Type 0 where
  pub one : IsDisjunctOf word t d
  pub printed : IsPrintedSo left right cost d
  pub fits : FitsProblem d

-- the pieces of a text between its commas
pub record ArePieces (text : List ℕ) (pieces : List (List ℕ)) : Type 0 where
  pub joined : text ≡ join_with_byte 44 pieces
  pub cut : AllByRecursion (Lacks 44) pieces

-- one of the texts is the connector's
abbrev pub is_among : List (List ℕ) → Connector → Bool
is_among texts c = list_any (λ text. pointwise eqb text (connector_text c)) texts

-- the same on the connector's side
abbrev pub is_shown : List (List ℕ) → List (List ℕ) → Connector → Bool
is_shown lefts rights c = if c.right then is_among rights c else is_among lefts c

-- an expression with an `or` of nothing in place of each connector that the test refuses
abbrev mutual
  pub narrowed : (Connector → Bool) → Tree → Tree
  narrowed test empty = empty
  narrowed test (leaf c) = if test c then leaf c else one_of no_trees
  narrowed test (all_of ts) = all_of (all_narrowed test ts)
  narrowed test (one_of ts) = one_of (all_narrowed test ts)
  narrowed test (priced t price) = priced (narrowed test t) price

  pub all_narrowed : (Connector → Bool) → Trees → Trees
  all_narrowed test no_trees = no_trees
  all_narrowed test (tree t ts) = tree (narrowed test t) (all_narrowed test ts)

-- an expression without the connectors that these sides do not show
pub record IsNarrowedTo (left right : List ℕ) (old new : Tree) : Type 0 where
  pub lefts : List (List ℕ)
  pub rights : List (List ℕ)
  pub of_left : ArePieces left lefts
  pub of_right : ArePieces right rights
  pub is : new ≡ narrowed (is_shown lefts rights) old
