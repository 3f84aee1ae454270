-- Alternatives of a region by groups of disjuncts of one word that have the same left list.
use Rattle.std.specs.Prelude.{◌≡◌, ℕ, ◌-◌, ◌<◌, ◌≤◌, List, [], length, Some, IsSome, slice_index_or}
use Rattle.lg_gram.specs.Connectors.{Connector}
use Rattle.lg_gram.specs.declared.disjunct.Disjunct.{Disjunct}
use Rattle.lg_region.specs.Parts.{Region}
use Rattle.lg_region.specs.Cuts.{IsCutAt, Split, IsCut}
use Rattle.lg_region.specs.Fronts.{Numbering, list_of}
use Rattle.lg_region.specs.Keys.{region_of_numbers, IsAltOfRegion, IsAltOfWhole, IsDisjunctAt}
use Rattle.lg_region.specs.Chains.{class_of, list_on, IsNext}
use Rattle.lg_region.specs.Ways.{AddsExactly}
use Rattle.lg_region.specs.declared.chains.Side.TheVariants.{Left, Right}
use Rattle.lg_region.specs.declared.key.Key.{Key}
use Rattle.lg_region.specs.declared.key.Key.TheVariants.{Region as Between}
use Rattle.lg_region.specs.declared.alternative.Alt.{Alt}
use Rattle.lg_region.specs.declared.alternative.Alt.TheVariants.{AllNull, Split as At}
use Rattle.lg_region.specs.declared.ways.Way.{Way}
use Rattle.lg_region.specs.declared.group.Lead.{Lead}
use Rattle.lg_region.specs.declared.group.Gap.{Gap}
use Rattle.lg_region.specs.declared.group.Group.{Group}
use Rattle.lg_region.specs.declared.group.Right.{Right as OnRight}

abbrev pub region_of_gap : List (List Connector) → Gap → Region
region_of_gap lists gap = region_of_numbers lists gap.left gap.right gap.llist gap.rlist gap.nulls

-- the disjuncts that can be joined with a list to their left
abbrev pub left_lead : Numbering → ℕ → Lead
left_lead n llist = record { side = Left; class = class_of (list_of n.lists llist) }

-- the disjuncts that can be joined with a list to their right
abbrev pub right_lead : Numbering → ℕ → Lead
right_lead n rlist = record { side = Right; class = class_of (list_of n.lists rlist) }

-- a disjunct has the class that is looked for
abbrev pub IsLed : Lead → Disjunct → Type 0
IsLed lead d = class_of (list_on lead.side d) ≡ lead.class

-- a region is cut by disjuncts of this class alone
abbrev pub Leads : Lead → List (List Disjunct) → Region → Type 0
Leads lead positions k = (c : Split) → IsCut positions k c → IsLed lead c.disjunct

-- the two lists of a gap have numbers, and only disjuncts of its class cut it
pub record IsKnownGap (numbers : Numbering) (gap : Gap) : Type 0 where
  pub llist : gap.llist ≤ length numbers.lists
  pub rlist : gap.rlist ≤ length numbers.lists
  pub small : gap.lead.class < 256
  pub led : Leads gap.lead numbers.positions (region_of_gap numbers.lists gap)

-- disjuncts of a word, from one number up to another, have the left list of a number where they have the class
abbrev pub HaveLeft : Numbering → Lead → ℕ → ℕ → ℕ → ℕ → Type 0
HaveLeft numbers lead word left from to =
    (number : ℕ) (d : Disjunct) → from ≤ number → number < to → IsDisjunctAt numbers.positions word number d → IsLed lead d → list_of numbers.lists left ≡ d.left

-- the first disjunct of the class from a number on
abbrev pub IsNextLed : Numbering → Lead → ℕ → ℕ → ℕ → Type 0
IsNextLed numbers lead word start next = IsNext lead.side (slice_index_or numbers.positions word []) lead.class start next

-- a word inside the gap, and disjuncts of it, from one number up to another, which have the left list of a number where they have
-- the class, as the first one has
pub record IsGroup (numbers : Numbering) (gap : Gap) (group : Group) : Type 0 where
  pub after : gap.left < group.word
  pub before : group.word < gap.right
  pub listed : group.to ≤ length (slice_index_or numbers.positions group.word [])
  pub known : group.left ≤ length numbers.lists
  pub left : HaveLeft numbers gap.lead group.word group.left group.from group.to
  pub first : IsNextLed numbers gap.lead group.word group.from group.from

-- a disjunct of the group with the class, and a way on of its right list and the right list of the gap
pub record IsRightOf (numbers : Numbering) (gap : Gap) (group : Group) (r : OnRight) : Type 0 where
  pub from : group.from ≤ r.disjunct
  pub to : r.disjunct < group.to
  pub known_near : r.way.near ≤ length numbers.lists
  pub known_far : r.way.far ≤ length numbers.lists
  pub led : (d : Disjunct) → IsDisjunctAt numbers.positions group.word r.disjunct d → IsLed gap.lead d
  pub cut : (d : Disjunct) → IsDisjunctAt numbers.positions group.word r.disjunct d → IsCutAt r.way.joint d.right (list_of numbers.lists gap.rlist) (list_of numbers.lists r.way.near) (list_of numbers.lists r.way.far)
  pub joined : gap.llist ≡ 0 → IsSome r.way.joint

-- the right key of an alternative with this disjunct and way on, which leaves so many words unlinked behind its word
abbrev pub key_behind : Gap → Group → ℕ → OnRight → Key
key_behind gap g nulls r = Between g.word gap.right r.way.near r.way.far nulls

abbrev pub right_of : ℕ → Way → OnRight
right_of number way = record { disjunct = number; way = way }

-- the alternative of a word, of so many unlinked words to its left, and of what is chosen on both sides
abbrev pub split_of : Gap → ℕ → ℕ → Way → OnRight → Alt
split_of gap word nulls left right =
    At word right.disjunct left.joint right.way.joint
    (Some (Between gap.left word left.near left.far nulls)) (Some (Between word gap.right right.way.near right.way.far (gap.nulls - nulls)))

-- where an alternative stands: at this word, with one of these disjuncts
abbrev pub StandsIn : ℕ → ℕ → ℕ → Alt → Type 0
StandsIn word from to AllNull = ⊥
StandsIn word from to (At w number to_left to_right lkey rkey) = (w ≡ word) × (from ≤ number) × (number < to)

-- the alternatives of a gap that stand there are added
abbrev pub AddsIn : Numbering → Gap → ℕ → ℕ → ℕ → List Alt → List Alt → Type 0
AddsIn numbers gap word from to old new =
    AddsExactly old new (λ a. IsAltOfRegion numbers.positions numbers.lists (region_of_gap numbers.lists gap) a × StandsIn word from to a)

-- the alternatives of the whole sentence that stand there are added
abbrev pub AddsFirst : Numbering → ℕ → ℕ → ℕ → ℕ → List Alt → List Alt → Type 0
AddsFirst numbers nulls word from to old new =
    AddsExactly old new (λ a. IsAltOfWhole numbers.positions numbers.lists nulls a × StandsIn word from to a)

-- an alternative that links nothing, or stands at an earlier word
abbrev pub StandsBefore : ℕ → Alt → Type 0
StandsBefore word AllNull = Unit {0}
StandsBefore word (At w number to_left to_right lkey rkey) = w < word
