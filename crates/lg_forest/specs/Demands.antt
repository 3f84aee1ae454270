-- What is asked for when a key is asked for.
use Rattle.std.specs.Prelude.{◌≡◌, ℕ, ◌≤◌, List, Option, None, Some, IfSome}
use Rattle.lg_gram.specs.Connectors.{Connector}
use Rattle.lg_gram.specs.Linkages.{Linkage}
use Rattle.lg_gram.specs.declared.disjunct.Disjunct.{Disjunct}
use Rattle.lg_region.specs.Parts.{UnderWhole}
use Rattle.lg_region.specs.Laws.{HasLinkage}
use Rattle.lg_region.specs.Keys.{IsAltOf, region_of_numbers}
use Rattle.lg_region.specs.declared.key.Key.{Key}
use Rattle.lg_region.specs.declared.key.Key.TheVariants.{Whole, Region as Between}
use Rattle.lg_region.specs.declared.alternative.Alt.{Alt}
use Rattle.lg_region.specs.declared.alternative.Alt.TheVariants.{AllNull, Split as At}

-- some linkage lies under what a key asks about
abbrev pub HasLinkageUnder : List (List Disjunct) → List (List Connector) → Key → Type 0
HasLinkageUnder positions lists (Whole nulls) = (g : Linkage) × UnderWhole positions nulls g
HasLinkageUnder positions lists (Between left right llist rlist nulls) = HasLinkage positions (region_of_numbers lists left right llist rlist nulls)

-- the key of the part to the left of an alternative's word, and that of the part to its right
abbrev pub left_key : Alt → Option Key
left_key AllNull = None
left_key (At word disjunct to_left to_right lkey rkey) = lkey

abbrev pub right_key : Alt → Option Key
right_key AllNull = None
right_key (At word disjunct to_left to_right lkey rkey) = rkey

-- What a key asks for next: the left key of each of its alternatives, and the right key of each whose left key has a linkage or
-- is not there.
pub data AsksNext (positions : List (List Disjunct)) (lists : List (List Connector)) (k : Key) : Key → Type 0 where
  left : (a : Alt) (next : Key) → IsAltOf positions lists k a → left_key a ≡ Some next → AsksNext positions lists k next
  right : (a : Alt) (next : Key) → IsAltOf positions lists k a → right_key a ≡ Some next → IfSome (left_key a) (HasLinkageUnder positions lists) → AsksNext positions lists k next

-- a key, and all that is asked for from it in turn
pub data Reaches (positions : List (List Disjunct)) (lists : List (List Connector)) : Key → Key → Type 0 where
  itself : (k : Key) → Reaches positions lists k k
  onward : (k m n : Key) → Reaches positions lists k m → AsksNext positions lists m n → Reaches positions lists k n

-- what is asked for, in turn, from the whole sentence with `from` to `to` unlinked words
abbrev pub IsDemanded : List (List Disjunct) → List (List Connector) → ℕ → ℕ → Key → Type 0
IsDemanded positions lists from to k = (nulls : ℕ) × (from ≤ nulls) × (nulls ≤ to) × Reaches positions lists (Whole nulls) k
