-- What is kept of each list: its last connector and the number of the rest, and how it ends; and the numbers of the lists of each disjunct.
use Rattle.std.specs.Prelude.{◌≡◌, ℕ, suc, ◌+◌, ◌<◌, ◌≤◌, ◌⊎◌, List, [], ◌∷◌, ◌++◌, length, Some, slice_get, slice_index}
use Rattle.std.specs.List.{AllZip, Contains}
use Rattle.lg_gram.specs.Connectors.{Connector}
use Rattle.lg_gram.specs.declared.disjunct.Disjunct.{Disjunct}
use Rattle.lg_gram.specs.Limits.{SIDE}
use Rattle.lg_region.specs.Alike.{last_of}
use Rattle.lg_region.specs.Chains.{AreNexts, AreRunEnds}
use Rattle.lg_region.specs.Fronts.{AreFirstMet, list_of}
use Rattle.lg_region.specs.Ways.{IsEndOf}
use Rattle.lg_region.specs.declared.numbering.Tail.{Tail}
use Rattle.lg_region.specs.declared.numbering.Sides.{Sides}
use Rattle.lg_region.specs.declared.ways.End.{End}
use Rattle.lg_region.specs.declared.chains.Side.{Side}
use Rattle.lg_region.specs.declared.chains.Side.TheVariants.{Left, Right}

-- the list of a number is that of an earlier number with one connector more
pub record IsTailOf (lists : List (List Connector)) (id : ℕ) (t : Tail) : Type 0 where
  pub shorter : t.shorter < id
  pub list : list_of lists id ≡ list_of lists t.shorter ++ t.last ∷ []

pub record AreTailsOf (lists : List (List Connector)) (tails : List Tail) : Type 0 where
  pub same_length : length tails ≡ length lists
  pub each : (n : ℕ) (t : Tail) → slice_get tails n ≡ Some t → IsTailOf lists (suc n) t

-- no list has more connectors than a side of a disjunct may have
abbrev pub AreShort : List (List Connector) → Type 0
AreShort lists = (cs : List Connector) → Contains lists cs → length cs ≤ SIDE

-- a list ends with a connector of this kind
pub record IsKind (lists : List (List Connector)) (kinds : List Connector) (number kind : ℕ) : Type 0 where
  pub within : kind < length kinds
  pub is_last : last_of (list_of lists number) ≡ slice_get kinds kind

-- the ends of the lists of the numbers from 1 on, and the kinds of their last connectors
pub record AreEndsOf (lists : List (List Connector)) (kinds : List Connector) (ends : List End) : Type 0 where
  pub same_length : length ends ≡ length lists
  pub each : (n : ℕ) (e : End) → slice_get ends n ≡ Some e → IsEndOf lists (suc n) e
  pub kind : (n : ℕ) (e : End) → slice_get ends n ≡ Some e → IsKind lists kinds (suc n) e.kind

-- for each kind, the number of a list that ends with it
abbrev pub AreFirstsOf : List (List Connector) → List Connector → List ℕ → Type 0
AreFirstsOf lists kinds firsts = AllZip (λ c first. last_of (list_of lists first) ≡ Some c) kinds firsts

-- A connector of this kind is met, at the end of a list: where it was not met yet, the kind is a new one, with that list.
pub record MeetsKind (old : List Connector) (old_firsts : List ℕ) (kinds : List Connector) (firsts : List ℕ) (last : Connector) (id kind : ℕ) : Type 0 where
  pub grown : List Connector
  pub grows : kinds ≡ old ++ grown
  pub few : length kinds ≤ suc (length old)
  pub is_kind : slice_get kinds kind ≡ Some last
  pub met : (lists : List (List Connector)) → last_of (list_of lists id) ≡ Some last → AreFirstsOf lists old old_firsts → AreFirstsOf lists kinds firsts

-- the lists and their tails, where so many lists have been met so far
pub record AreNumbered (met : List (List Connector)) (lists : List (List Connector)) (tails : List Tail) : Type 0 where
  pub first_met : AreFirstMet met lists
  pub tailed : AreTailsOf lists tails

-- a number stands for a list
pub record IsNumberOf (lists : List (List Connector)) (id : ℕ) (cs : List Connector) : Type 0 where
  pub known : id ≤ length lists
  pub list : list_of lists id ≡ cs

-- the numbers of the two lists of a disjunct
pub record HasSides (lists : List (List Connector)) (d : Disjunct) (s : Sides) : Type 0 where
  pub left : IsNumberOf lists s.left d.left
  pub right : IsNumberOf lists s.right d.right

-- More lists are met: those that had a number keep it, and each of the others gets the next one.
pub record Numbers (old : List (List Connector)) (old_tails : List Tail) (lists : List (List Connector)) (tails : List Tail) (more : List (List Connector)) : Type 0 where
  pub grown : List (List Connector)
  pub grows : lists ≡ old ++ grown
  pub few : length lists ≤ length old + length more
  pub level : length tails ≡ length lists
  pub numbered : (met : List (List Connector)) → AreNumbered met old old_tails → AreNumbered (met ++ more) lists tails

abbrev pub GivesNumber : List (List Connector) → List Tail → List (List Connector) → List Connector → ℕ → Type 0
GivesNumber old old_tails lists cs id = (met : List (List Connector)) → AreNumbered met old old_tails → IsNumberOf lists id cs

abbrev pub GivesSides : List (List Connector) → List Tail → List (List Connector) → List Disjunct → List Sides → Type 0
GivesSides old old_tails lists ds row = (met : List (List Connector)) → AreNumbered met old old_tails → AllZip (HasSides lists) ds row

-- a list with this end is met, and this is its number
pub record Admits (old : List (List Connector)) (old_tails : List Tail) (lists : List (List Connector)) (tails : List Tail) (t : Tail) (front : List Connector) (id : ℕ) : Type 0 where
  pub grown : List (List Connector)
  pub grows : lists ≡ old ++ grown
  pub few : length lists ≤ suc (length old)
  pub level : length tails ≡ length lists
  pub admitted : (met : List (List Connector)) → AreNumbered met old old_tails → t.shorter ≤ length old → front ≡ list_of old t.shorter ++ t.last ∷ [] → AreNumbered (met ++ front ∷ []) lists tails × IsNumberOf lists id front

-- those of all disjuncts
abbrev pub AreSidesOf : List (List Connector) → List (List Disjunct) → List (List Sides) → Type 0
AreSidesOf lists positions sides = AllZip (AllZip (HasSides lists)) positions sides

-- the number of the list of a disjunct on one side
abbrev pub number_on : Side → Sides → ℕ
number_on Left s = s.left
number_on Right s = s.right

-- the run of a disjunct ends with the next one of its class; or where that one's run does, if both have the same left list
abbrev pub EndsRun : List Sides → List ℕ → ℕ → ℕ → ℕ → Type 0
EndsRun row runs number next end =
    (end ≡ next) ⊎ ((next < length row) × (end ≡ slice_index runs next)
    × ((s t : Sides) → slice_get row next ≡ Some s → slice_get row number ≡ Some t → s.left ≡ t.left))

-- from a number on, the ends of the runs of all disjuncts that have these numbers of lists, and these next ones of their classes
pub record AreRuns (nexts : List ℕ) (row : List Sides) (start : ℕ) (runs : List ℕ) : Type 0 where
  pub level : length runs ≡ length row
  pub each : (side : Side) (ds : List Disjunct) (lists : List (List Connector)) → AreNexts side ds nexts → AllZip (HasSides lists) ds row
      → AreRunEnds side ds start runs
