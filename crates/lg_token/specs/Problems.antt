-- The problem of a sentence.
use Rattle.std.specs.Prelude.{◌≡◌, ◌↔◌, ℕ, List, [], length, Contains, Some, slice_get, slice_index_or}
use Rattle.std.specs.List.Sorted.{IsStrictlySortedBy}
use Rattle.std.specs.FinMap.{get}
use Rattle.lg_gram.specs.Trees.{Tree}
use Rattle.lg_gram.specs.Disjuncts.{disjunct_cmp, IsDisjunctOf}
use Rattle.lg_gram.specs.declared.disjunct.Disjunct.{Disjunct}
use Rattle.lg_gram.specs.declared.listing.Token.{Token}
use Rattle.lg_dict.specs.Dictionary.{Dictionary}

-- a disjunct of one of the words
abbrev pub IsOfWords : Dictionary → List (List ℕ) → Disjunct → Type 0
IsOfWords dict words d = (word : List ℕ) × (t : Tree) × Contains words word × (get dict.words word ≡ Some t) × IsDisjunctOf word t d

-- the disjuncts of all words of a token, in order, each once
pub record IsPositionOf (dict : Dictionary) (words : List (List ℕ)) (ds : List Disjunct) : Type 0 where
  pub rise : IsStrictlySortedBy disjunct_cmp ds
  pub exactly : (d : Disjunct) → Contains ds d ↔ IsOfWords dict words d

-- the problem of these tokens: a position for each
pub record IsProblemOf (dict : Dictionary) (tokens : List Token) (positions : List (List Disjunct)) : Type 0 where
  pub same_length : length positions ≡ length tokens
  pub each : (i : ℕ) (t : Token) → slice_get tokens i ≡ Some t → IsPositionOf dict t.words (slice_index_or positions i [])
