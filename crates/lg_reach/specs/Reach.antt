-- Words of which only choices are left whose links reach a partner.
use Rattle.std.specs.Prelude.{◌≡◌, ℕ, List, [], ◌∷◌, length, slice_index_or, Option, None, Some}
use Rattle.std.specs.List.{Contains}
use Rattle.lg_eprune.specs.Live.{WordTree}
use Rattle.lg_gram.specs.Linkages.{Linkage}
use Rattle.lg_gram.specs.Measures.{Choice, choices_of}
use Rattle.lg_reach.specs.Ends.{Uses}

-- The words of a position in order, with some of the choices of each, among them those that are `Used`. A word may be left out where none of its choices is.
pub data Narrows (Used : Choice → Type 0) : List WordTree → List WordTree → Type 0 where
  nothing : Narrows Used [] []
  kept : (old new : WordTree) (olds news : List WordTree) → new.word ≡ old.word → ((c : Choice) → Contains (choices_of new.tree) c → Contains (choices_of old.tree) c)
      → ((c : Choice) → Contains (choices_of old.tree) c → Used c → Contains (choices_of new.tree) c) → Narrows Used olds news → Narrows Used (old ∷ olds) (new ∷ news)
  dropped : (old : WordTree) (olds news : List WordTree) → ((c : Choice) → Contains (choices_of old.tree) c → Used c → ⊥) → Narrows Used olds news → Narrows Used (old ∷ olds) news

-- no choice
abbrev pub Never : Choice → Type 0
Never c = ⊥

-- each position has some of the choices of its words
pub record HaveFewer (words kept : List (List WordTree)) : Type 0 where
  pub same_length : length kept ≡ length words
  pub each : (i : ℕ) → Narrows Never (slice_index_or words i []) (slice_index_or kept i [])

-- each position has all that the linkage uses there
abbrev pub HaveUsed : Linkage → List (List WordTree) → List (List WordTree) → Type 0
HaveUsed g words left = (i : ℕ) → Narrows (Uses g i) (slice_index_or words i []) (slice_index_or left i [])

-- the word, if it is there
abbrev pub one_word : Option WordTree → List WordTree
one_word None = []
one_word (Some w) = w ∷ []
