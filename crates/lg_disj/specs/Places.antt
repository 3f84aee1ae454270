-- Choices whose connectors are told by places in a list of leaves, and how they lie in memory.
use Rattle.std.specs.Prelude.{◌≤◌, ◌-◌, ◌+ℤ◌, ℕ, ℤ, Bool, pos, false, if◌then◌else◌, List, [], ◌++◌, length, map, take, drop, get_or}
use Rattle.std.specs.List.{All, flat_map}
use Rattle.lg_gram.specs.Connectors.{Connector}
use Rattle.lg_gram.specs.Measures.{Choice}
use Rattle.lg_gram.specs.Problems.{IsDisjunctCost}
use Rattle.lg_disj.specs.declared.arena.Row.{Row}
use Rattle.lg_disj.specs.declared.arena.Choices.{Choices}

-- one way to use an expression, each connector by the place of its leaf
pub record Places : Type 0 where
  pub left : List ℕ
  pub right : List ℕ
  pub cost : ℤ

-- the choice of no place, which costs nothing
abbrev pub no_places : Places
no_places = record { left = []; right = []; cost = pos 0 }

-- the places on a side, `true` the right
abbrev pub side_of : Bool → Places → List ℕ
side_of right p = if right then p.right else p.left

-- no place, at a cost
abbrev pub only_cost : ℤ → Places
only_cost cost = record { left = []; right = []; cost = cost }

-- two of them one after another
abbrev pub both : Places → Places → Places
both a b = record { left = a.left ++ b.left; right = a.right ++ b.right; cost = a.cost +ℤ b.cost }

-- each of the first with each of the second
abbrev pub all_both : List Places → List Places → List Places
all_both firsts seconds = flat_map (λ a. map (both a) seconds) firsts

-- the same with a price
abbrev pub raised : ℤ → Places → Places
raised price p = record p { cost = p.cost +ℤ price }

abbrev pub IsCheap : Places → Type 0
IsCheap p = IsDisjunctCost p.cost

-- the leaf at a place
abbrev pub leaf_at : List Connector → ℕ → Connector
leaf_at leaves n = get_or leaves n (record { caps = []; subs = []; multi = false; right = false })

-- the choice that they stand for
abbrev pub choice_by : List Connector → Places → Choice
choice_by leaves p = record { left = map (leaf_at leaves) p.left; right = map (leaf_at leaves) p.right; cost = p.cost }

-- the elements from one place up to another
abbrev pub part : ℕ → ℕ → List ℕ → List ℕ
part from to xs = take (to - from) (drop from xs)

-- what a row stands for: its left list, and then its right list
abbrev pub row_in : List ℕ → Row → Places
row_in places row = record { left = part row.from row.middle places; right = part row.middle row.end places; cost = row.cost }

-- its lists lie within
pub record LiesIn (places : List ℕ) (row : Row) : Type 0 where
  pub left : row.from ≤ row.middle
  pub right : row.middle ≤ row.end
  pub within : row.end ≤ length places

-- the choices that are listed
abbrev pub listed : Choices → List Places
listed c = map (row_in c.places.items) c.rows.items

-- the same with a price
abbrev pub raised_row : ℤ → Row → Row
raised_row price row = record row { cost = row.cost +ℤ price }

abbrev pub IsArena : Choices → Type 0
IsArena c = All (LiesIn c.places.items) c.rows.items
