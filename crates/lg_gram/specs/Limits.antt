-- The limits of the grammar, each in one place.
use Rattle.std.specs.Prelude.{ℕ, ◌^◌, ◌-◌}

-- the letters of a name, capitals and subscripts together
abbrev pub LETTERS : ℕ
LETTERS = 16

-- the greatest rank in the text of a joint, and the greatest position or number of a joint in it
abbrev pub JOINT_RANK : ℕ
JOINT_RANK = 999999

abbrev pub JOINT_PLACE : ℕ
JOINT_PLACE = 999

-- where the counts of nodes and of choices stop
abbrev pub COUNTED : ℕ
COUNTED = 2 ^ 40

-- where the count of connectors on a side stops
abbrev pub SIDE_COUNTED : ℕ
SIDE_COUNTED = 2 ^ 32 - 1

-- where the count of references to macros stops
abbrev pub REFERENCES_COUNTED : ℕ
REFERENCES_COUNTED = 2 ^ 32 - 1

-- where the count of brackets open at once stops
abbrev pub LEVEL_COUNTED : ℕ
LEVEL_COUNTED = 2 ^ 32 - 1

-- the nodes and the choices of a formula
abbrev pub FORMULA_NODES : ℕ
FORMULA_NODES = 1000000

abbrev pub FORMULA_CHOICES : ℕ
FORMULA_CHOICES = 1000000

-- the connectors on a side of a choice
abbrev pub SIDE : ℕ
SIDE = 255

-- the brackets open at once
abbrev pub LEVEL : ℕ
LEVEL = 200

-- how far a leaf of a formula lies below the root
abbrev pub DEPTH : ℕ
DEPTH = 602

-- a bracket's cost, from zero
abbrev pub PRICE : ℕ
PRICE = 10000000

-- the cost of a disjunct, from zero
abbrev pub DISJUNCT_COST : ℕ
DISJUNCT_COST = 10 ^ 13

-- the positions of a problem, and its disjuncts
abbrev pub POSITIONS : ℕ
POSITIONS = 252

abbrev pub DISJUNCTS : ℕ
DISJUNCTS = 8000000

-- the positions of a linkage
abbrev pub LINKAGE_POSITIONS : ℕ
LINKAGE_POSITIONS = 252
