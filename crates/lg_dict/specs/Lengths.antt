-- The lengths that words and their stems have.
use Rattle.std.specs.Prelude.{◌≡◌, ◌≢◌, ℕ, List, length, nat_eq, Bool, true, IsSome}
use Rattle.std.specs.FinMap.{get}
use Rattle.std.specs.List.{list_any}
use Rattle.lg_dict.specs.Dictionary.{Dictionary}
use Rattle.lg_dict.specs.Subscripts.{stem_of}

abbrev pub has_length : List ℕ → ℕ → Bool
has_length lengths n = list_any (nat_eq n) lengths

-- the lengths of the word and of its stem are there
pub record HasLengths (lengths word : List ℕ) : Type 0 where
  pub whole : has_length lengths (length word) ≡ true
  pub stem : has_length lengths (length (stem_of word)) ≡ true

-- no word of the dictionary has so many bytes, and no stem of one
abbrev pub NoWordHas : Dictionary → ℕ → Type 0
NoWordHas dict n = (word : List ℕ) → IsSome (get dict.words word) → (length word ≢ n) × (length (stem_of word) ≢ n)
