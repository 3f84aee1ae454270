-- Keys and alternatives in numbers, and what they stand for.
use Rattle.std.specs.Prelude.{◌≡◌, ℕ, ◌≤◌, Bool, cond, List, [], ◌∷◌, length, Option, None, Some, slice_get, slice_index_or}
use Rattle.lg_gram.specs.Connectors.{Connector}
use Rattle.lg_gram.specs.declared.disjunct.Disjunct.{Disjunct}
use Rattle.lg_region.specs.Parts.{Region}
use Rattle.lg_region.specs.Cuts.{Split, IsCut, IsAlternative, all_null, IsValid}
use Rattle.lg_region.specs.Whole.{First, IsFirst}
use Rattle.lg_region.specs.Fronts.{list_of}
use Rattle.lg_region.specs.declared.key.Joint.{Joint}
use Rattle.lg_region.specs.declared.key.Key.{Key}
use Rattle.lg_region.specs.declared.key.Key.TheVariants.{Whole, Region as Between}
use Rattle.lg_region.specs.declared.alternative.Alt.{Alt}
use Rattle.lg_region.specs.declared.alternative.Alt.TheVariants.{AllNull, Split as At}

-- the region of two ends, two numbers of lists, and a number of unlinked words
abbrev pub region_of_numbers : List (List Connector) → ℕ → ℕ → ℕ → ℕ → ℕ → Region
region_of_numbers lists left right llist rlist nulls =
    record { left = left; right = right; llist = list_of lists llist; rlist = list_of lists rlist; nulls = nulls }

-- a key that stands for a region
abbrev pub IsKeyOf : List (List Connector) → Key → Region → Type 0
IsKeyOf lists (Whole nulls) k = ⊥
IsKeyOf lists (Between left right llist rlist nulls) k =
    (llist ≤ length lists) × (rlist ≤ length lists) × (k ≡ region_of_numbers lists left right llist rlist nulls)

-- a key that may be asked for
abbrev pub IsValidKey : List (List Disjunct) → List (List Connector) → Key → Type 0
IsValidKey positions lists (Whole nulls) = nulls ≤ length positions
IsValidKey positions lists (Between left right llist rlist nulls) =
    (llist ≤ length lists) × (rlist ≤ length lists) × IsValid positions (region_of_numbers lists left right llist rlist nulls)

-- a number names the disjunct of a word
abbrev pub IsDisjunctAt : List (List Disjunct) → ℕ → ℕ → Disjunct → Type 0
IsDisjunctAt positions word number d = slice_get (slice_index_or positions word []) number ≡ Some d

-- a first word of the whole sentence, in numbers
pub record IsFirstOf (positions : List (List Disjunct)) (lists : List (List Connector)) (nulls word number : ℕ) (rkey : Key) (c : First) : Type 0 where
  pub first : IsFirst positions nulls c
  pub place : c.word ≡ word
  pub chosen : IsDisjunctAt positions word number c.disjunct
  pub behind : IsKeyOf lists rkey c.rkey

-- a cut of a region, in numbers
pub record IsSplitOf (positions : List (List Disjunct)) (lists : List (List Connector)) (k : Region) (word number : ℕ) (to_left to_right : Option Joint) (lkey rkey : Key) (c : Split) : Type 0 where
  pub cut : IsCut positions k c
  pub place : c.word ≡ word
  pub chosen : IsDisjunctAt positions word number c.disjunct
  pub joint_left : c.to_left ≡ to_left
  pub joint_right : c.to_right ≡ to_right
  pub before : IsKeyOf lists lkey c.lkey
  pub behind : IsKeyOf lists rkey c.rkey

-- an alternative of the whole sentence with so many unlinked words
abbrev pub IsAltOfWhole : List (List Disjunct) → List (List Connector) → ℕ → Alt → Type 0
IsAltOfWhole positions lists nulls AllNull = nulls ≡ length positions
IsAltOfWhole positions lists nulls (At word number None None None (Some rkey)) = (c : First) × IsFirstOf positions lists nulls word number rkey c
IsAltOfWhole positions lists nulls _ = ⊥

-- an alternative of a region
abbrev pub IsAltOfRegion : List (List Disjunct) → List (List Connector) → Region → Alt → Type 0
IsAltOfRegion positions lists k AllNull = IsAlternative positions k all_null
IsAltOfRegion positions lists k (At word number to_left to_right (Some lkey) (Some rkey)) =
    (c : Split) × IsSplitOf positions lists k word number to_left to_right lkey rkey c
IsAltOfRegion positions lists k _ = ⊥

-- an alternative of a key
abbrev pub IsAltOf : List (List Disjunct) → List (List Connector) → Key → Alt → Type 0
IsAltOf positions lists (Whole nulls) a = IsAltOfWhole positions lists nulls a
IsAltOf positions lists (Between left right llist rlist nulls) a =
    IsAltOfRegion positions lists (region_of_numbers lists left right llist rlist nulls) a

-- the elements whose flag is true
abbrev pub kept : {A : Type 0} → List A → List Bool → List A
kept [] flags = []
kept (x ∷ xs) [] = []
kept (x ∷ xs) (flag ∷ flags) = cond flag (x ∷ kept xs flags) (kept xs flags)
