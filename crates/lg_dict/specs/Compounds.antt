-- Words of several parts, as `New_York`.
use Rattle.std.specs.Prelude.{ℕ, List, [], ◌∷◌, Bool, true, false, ◌&&◌, ◌==◌, not, if◌then◌else◌, Option, Some, None}
use Rattle.std.specs.List.{list_all, slice_split}
use Rattle.lg_dict.specs.Subscripts.{is_empty, stem_of}

abbrev pub is_underscore : ℕ → Bool
is_underscore byte = byte == 95

-- the parts of a word: what stands between the underscores of its stem, in order
abbrev pub parts_of : List ℕ → List (List ℕ)
parts_of word = slice_split is_underscore (stem_of word)

abbrev pub is_filled : List ℕ → Bool
is_filled part = not (is_empty part)

abbrev pub are_several : List (List ℕ) → Bool
are_several [] = false
are_several (_ ∷ []) = false
are_several (_ ∷ _ ∷ _) = true

-- a compound has two parts or more, and none of them is empty
abbrev pub is_compound : List ℕ → Bool
is_compound word = are_several (parts_of word) && list_all is_filled (parts_of word)

abbrev pub first_in : List (List ℕ) → Option (List ℕ)
first_in [] = None
first_in (part ∷ _) = Some part

-- the first part of a compound; None for each other word
abbrev pub compound_first : List ℕ → Option (List ℕ)
compound_first word = if is_compound word then first_in (parts_of word) else None
