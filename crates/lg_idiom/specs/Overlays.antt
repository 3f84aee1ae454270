-- What idioms lay over the problem of a sentence.
use Rattle.std.specs.Prelude.{◌≡◌, ◌⊎◌, ◌↔◌, ℕ, ◌≤◌, List, [], length, Contains, Some, slice_index_or}
use Rattle.std.specs.FinMap.{get}
use Rattle.std.specs.List.{sum_by}
use Rattle.lg_gram.specs.Disjuncts.{IsDisjunctOf}
use Rattle.lg_gram.specs.Limits.{POSITIONS}
use Rattle.lg_gram.specs.Measures.{choice_count}
use Rattle.lg_gram.specs.Trees.{Tree}
use Rattle.lg_gram.specs.declared.disjunct.Disjunct.{Disjunct}
use Rattle.lg_gram.specs.declared.listing.Token.{Token}
use Rattle.lg_dict.specs.Dictionary.{Dictionary}
use Rattle.lg_token.specs.Bounds.{LISTED_CHOICES}
use Rattle.lg_idiom.specs.Idioms.{Chain, AreIdioms}
use Rattle.lg_idiom.specs.Sentences.{AreTakenOf}
use Rattle.lg_idiom.specs.Wholes.{HasNoJoint, AreChainsOfIdioms, AreLaidOver}

-- no disjunct of the dictionary's own formulas has a joint
abbrev pub HasNoJoints : Dictionary → Type 0
HasNoJoints dict = (word : List ℕ) (t : Tree) → get dict.words word ≡ Some t → (d : Disjunct) → IsDisjunctOf word t d → HasNoJoint d

-- a disjunct of one of the formulas that idioms add to a position
abbrev pub IsOfAdded : List (List ℕ × Tree) → Disjunct → Type 0
IsOfAdded added d = (a : List ℕ × Tree) × Contains added a × IsDisjunctOf a.0 a.1 d

-- A plain problem, which has no joint, and the same with what idioms add: at each position the plain disjuncts, and those of the formulas that
-- are added there.
pub record HasIdioms (added : List (List (List ℕ × Tree))) (plain positions : List (List Disjunct)) : Type 0 where
  pub same_length : length positions ≡ length plain
  pub no_joint : (p : ℕ) (d : Disjunct) → Contains (slice_index_or plain p []) d → HasNoJoint d
  pub exactly : (p : ℕ) (d : Disjunct) → Contains (slice_index_or positions p []) d ↔ (Contains (slice_index_or plain p []) d ⊎ IsOfAdded (slice_index_or added p []) d)

-- ---- laws

-- The chains that are taken are chains as the other laws want them.
abbrev pub TakenAreChains : Type 0
TakenAreChains = (dict : Dictionary) (tokens : List Token) (added : List (List (List ℕ × Tree))) → HasNoJoints dict → length tokens ≤ POSITIONS
    → (idioms : AreIdioms dict tokens added) → AreChainsOfIdioms idioms.taken

-- They are what is laid over the plain problem.
abbrev pub TakenAreLaidOver : Type 0
TakenAreLaidOver = (dict : Dictionary) (tokens : List Token) (added : List (List (List ℕ × Tree))) (plain positions : List (List Disjunct)) → HasIdioms added plain positions
    → (idioms : AreIdioms dict tokens added) → AreLaidOver idioms.taken plain positions

-- What idioms add has at most 4,000,000 choices in all.
abbrev pub AddedAreFew : Type 0
AddedAreFew = (dict : Dictionary) (tokens : List Token) (added : List (List (List ℕ × Tree))) → AreIdioms dict tokens added
    → sum_by (sum_by (λ (a : List ℕ × Tree). choice_count a.1)) added ≤ LISTED_CHOICES

-- A sentence has one list of chains that are taken.
abbrev pub TakenAreOne : Type 0
TakenAreOne = (dict : Dictionary) (tokens : List Token) (t u : List Chain) → AreTakenOf dict tokens t → AreTakenOf dict tokens u → t ≡ u
