-- The disjuncts of a word in outline.
use Rattle.std.specs.Prelude.{◌<◌, ℕ, Bool, cond, List, [], length, map, get_or}
use Rattle.std.specs.List.{All, flat_map}
use Rattle.lg_gram.specs.Connectors.{Connector}
use Rattle.lg_gram.specs.declared.disjunct.Disjunct.{Disjunct}
use Rattle.lg_disj.specs.Lists.{AreLists, lists_in}
use Rattle.lg_disj.specs.declared.lists.Lists.{Lists}
use Rattle.lg_disj.specs.declared.outline.Line.{Line}

-- the lists that disjuncts of a word have to the left and to the right, and a line for each disjunct
pub record Outlined : Type 0 where
  pub word : List ℕ
  pub lefts : List (List Connector)
  pub rights : List (List Connector)
  pub lines : List Line

abbrev pub outlined : List ℕ → List (List Connector) → List (List Connector) → List Line → Outlined
outlined word lefts rights lines = record { word = word; lefts = lefts; rights = rights; lines = lines }

abbrev pub outline : List ℕ → Lists → Lists → List Line → Outlined
outline word lefts rights lines = outlined word (lists_in lefts) (lists_in rights) lines

-- the lists to the right, or to the left
abbrev pub lists_on : Bool → Outlined → List (List Connector)
lists_on right o = cond right o.rights o.lefts

-- the disjunct of a line
abbrev pub disjunct_on : Outlined → Line → Disjunct
disjunct_on o l = record { word = o.word; left = get_or o.lefts l.left []; right = get_or o.rights l.right []; cost = l.cost }

-- the disjuncts, in order
abbrev pub disjuncts_in : Outlined → List Disjunct
disjuncts_in o = map (disjunct_on o) o.lines

-- the disjuncts of one word after another
abbrev pub all_in : List Outlined → List Disjunct
all_in os = flat_map disjuncts_in os

-- the numbers of a line are those of lists
pub record IsLineOf (o : Outlined) (l : Line) : Type 0 where
  pub left : l.left < length o.lefts
  pub right : l.right < length o.rights

pub record IsOutline (word : List ℕ) (left right : Lists) (all : List Line) : Type 0 where
  pub lefts : AreLists left
  pub rights : AreLists right
  pub lines : All (IsLineOf (outline word left right all)) all
