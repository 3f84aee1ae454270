-- Lines that are made of choices.
use Rattle.std.specs.Prelude.{◌≡◌, ◌++◌, ℕ, Bool, true, false, cond, List, Option, Some, map, slice_get}
use Rattle.lg_gram.specs.Connectors.{Connector}
use Rattle.lg_disj.specs.Places.{Places, leaf_at, side_of}
use Rattle.lg_disj.specs.declared.outline.Line.{Line}

-- the list of a line on a side, `true` the right, and that of a choice
abbrev pub list_of_line : Bool → List (List Connector) → Line → Option (List Connector)
list_of_line right lists l = slice_get lists (cond right l.right l.left)

abbrev pub list_of_choice : Bool → List Connector → Places → List Connector
list_of_choice right leaves p = map (leaf_at leaves) (side_of right p)

-- the lines have the lists of the choices on the side
abbrev pub AreMadeOn : Bool → List Connector → List (List Connector) → List Places → List Line → Type 0
AreMadeOn right leaves lists ps lines = map (list_of_line right lists) lines ≡ map (λ p. Some (list_of_choice right leaves p)) ps

-- the lines have the lists and the costs of the choices
pub record AreMade (leaves : List Connector) (lefts rights : List (List Connector)) (ps : List Places) (lines : List Line) : Type 0 where
  pub left : AreMadeOn false leaves lefts ps lines
  pub right : AreMadeOn true leaves rights ps lines
  pub costs : map (λ l. l.cost) lines ≡ map (λ p. p.cost) ps

-- a list came to the others, or was there, and stands at this place
pub record Comes (old new : List (List Connector)) (list : List Connector) (place : ℕ) : Type 0 where
  pub more : List (List Connector)
  pub grown : new ≡ old ++ more
  pub there : slice_get new place ≡ Some list
