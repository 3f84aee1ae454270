-- Which connectors of a sentence's formulas can be linked, if others that can be linked are there.
use Rattle.std.specs.Prelude.{◌≡◌, ◌↔◌, ◌⊎◌, ℕ, ◌<◌, true, false, List, [], ◌∷◌, length, slice_get, slice_index_or, Some}
use Rattle.std.specs.List.{Contains}
use Rattle.lg_gram.specs.Connectors.{Connector, Match}
use Rattle.lg_gram.specs.Disjuncts.{choice_of}
use Rattle.lg_gram.specs.Linkages.{Linkage}
use Rattle.lg_gram.specs.Measures.{Choice, choices_of}
use Rattle.lg_gram.specs.Rules.{Good, chosen_at}
use Rattle.lg_gram.specs.Trees.{Tree}
use Rattle.lg_gram.specs.declared.disjunct.Disjunct.{Disjunct}

-- a word with its formula
pub record WordTree : Type 0 where
  pub word : List ℕ
  pub tree : Tree

-- a connector of a choice
abbrev pub HasConnector : Choice → Connector → Type 0
HasConnector choice c = Contains choice.left c ⊎ Contains choice.right c

-- a choice of a word at position i
pub record IsChoiceAt (positions : List (List WordTree)) (i : ℕ) (choice : Choice) : Type 0 where
  pub words : List WordTree
  pub word : WordTree
  pub here : slice_get positions i ≡ Some words
  pub listed : Contains words word
  pub chosen : Contains (choices_of word.tree) choice

-- A set of connectors at positions supports itself: each matches one of them at a position on its side, and stands in a choice of its
-- position all of whose connectors are among them.
pub record SupportsItself (positions : List (List WordTree)) (members : List (ℕ × Connector)) : Type 0 where
  pub right : (i : ℕ) (c : Connector) → Contains members (i, c) → c.right ≡ true → (j : ℕ) × (d : Connector) × Contains members (j, d) × (i < j) × Match c d
  pub left : (j : ℕ) (d : Connector) → Contains members (j, d) → d.right ≡ false → (i : ℕ) × (c : Connector) × Contains members (i, c) × (i < j) × Match c d
  pub used : (i : ℕ) (c : Connector) → Contains members (i, c)
      → (choice : Choice) × IsChoiceAt positions i choice × HasConnector choice c × ((d : Connector) → HasConnector choice d → Contains members (i, d))

-- a connector is live at a position where it is in some set that supports itself
abbrev pub IsLive : List (List WordTree) → ℕ → Connector → Type 0
IsLive positions i c = (members : List (ℕ × Connector)) × SupportsItself positions members × Contains members (i, c)

-- a choice all of whose connectors are live
abbrev pub IsLiveChoice : List (List WordTree) → ℕ → Choice → Type 0
IsLiveChoice positions i choice = (c : Connector) → HasConnector choice c → IsLive positions i c

-- exactly the live choices of a formula, with their costs
abbrev pub KeepsLive : List (List WordTree) → ℕ → Tree → Tree → Type 0
KeepsLive positions i old new = (choice : Choice) → Contains (choices_of new) choice ↔ (Contains (choices_of old) choice × IsLiveChoice positions i choice)

-- The words of position i, narrowed to their live choices, in order; a word without any is dropped.
pub data Narrows (positions : List (List WordTree)) (i : ℕ) : List WordTree → List WordTree → Type 0 where
  nothing : Narrows positions i [] []
  kept : (old new : WordTree) (olds news : List WordTree) → new.word ≡ old.word → KeepsLive positions i old.tree new.tree
      → (choice : Choice) → Contains (choices_of new.tree) choice → Narrows positions i olds news → Narrows positions i (old ∷ olds) (new ∷ news)
  dropped : (old : WordTree) (olds news : List WordTree) → ((choice : Choice) → Contains (choices_of old.tree) choice → IsLiveChoice positions i choice → ⊥)
      → Narrows positions i olds news → Narrows positions i (old ∷ olds) news

-- each position's words are narrowed to their live choices
pub record AreNarrowed (positions pruned : List (List WordTree)) : Type 0 where
  pub same_length : length pruned ≡ length positions
  pub each : (i : ℕ) → i < length positions → Narrows positions i (slice_index_or positions i []) (slice_index_or pruned i [])

-- the positions of a problem have only disjuncts that are choices of the words
abbrev pub AreOf : List (List WordTree) → List (List Disjunct) → Type 0
AreOf words positions = (i : ℕ) (d : Disjunct) → Contains (slice_index_or positions i []) d → IsChoiceAt words i (choice_of d)

-- in a good linkage of a problem of these words each connector of what a position uses is live
abbrev pub LinkagesAreLive : Type 0
LinkagesAreLive =
    (words : List (List WordTree)) (positions : List (List Disjunct)) → AreOf words positions → (g : Linkage) → Good positions g
    → (i : ℕ) (d : Disjunct) → chosen_at g i ≡ Some d → IsLiveChoice words i (choice_of d)
