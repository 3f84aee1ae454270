-- The problem of a sentence with idioms, and the one in use.
use Rattle.std.specs.Prelude.{◌≡◌, ◌↔◌, ◌⊎◌, ℕ, Bool, true, false, List, [], length, Contains, Some, slice_get, slice_index_or}
use Rattle.std.specs.List.Sorted.{IsStrictlySortedBy}
use Rattle.lg_gram.specs.Trees.{Tree}
use Rattle.lg_gram.specs.Disjuncts.{disjunct_cmp}
use Rattle.lg_gram.specs.declared.disjunct.Disjunct.{Disjunct}
use Rattle.lg_gram.specs.declared.listing.Token.{Token}
use Rattle.lg_dict.specs.Dictionary.{Dictionary}
use Rattle.lg_token.specs.Problems.{IsOfWords, IsProblemOf}
use Rattle.lg_idiom.specs.Idioms.{AreIdioms}
use Rattle.lg_idiom.specs.Overlays.{IsOfAdded}

-- the disjuncts of all words of a token and of the formulas that idioms add there, in order, each once
pub record IsIdiomPosition (dict : Dictionary) (words : List (List ℕ)) (added : List (List ℕ × Tree)) (ds : List Disjunct) : Type 0 where
  pub rise : IsStrictlySortedBy disjunct_cmp ds
  pub exactly : (d : Disjunct) → Contains ds d ↔ (IsOfWords dict words d ⊎ IsOfAdded added d)

-- the problem of these tokens with idioms
pub record IsIdiomProblem (dict : Dictionary) (tokens : List Token) (positions : List (List Disjunct)) : Type 0 where
  pub added : List (List (List ℕ × Tree))
  pub idioms : AreIdioms dict tokens added
  pub same_length : length positions ≡ length tokens
  pub each : (i : ℕ) (t : Token) → slice_get tokens i ≡ Some t → IsIdiomPosition dict t.words (slice_index_or added i []) (slice_index_or positions i [])

-- the problem in use: with idioms, or without
abbrev pub IsProblemInUse : Bool → Dictionary → List Token → List (List Disjunct) → Type 0
IsProblemInUse true dict tokens positions = IsIdiomProblem dict tokens positions
IsProblemInUse false dict tokens positions = IsProblemOf dict tokens positions
