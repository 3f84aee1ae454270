-- Expression pruning takes away no disjunct that is alive.
use Rattle.std.specs.Prelude.{◌≡◌, ℕ, List, [], slice_index_or}
use Rattle.std.specs.List.{Contains}
use Rattle.lg_gram.specs.Disjuncts.{choice_of}
use Rattle.lg_gram.specs.Measures.{Choice, choices_of}
use Rattle.lg_gram.specs.declared.disjunct.Disjunct.{Disjunct}
use Rattle.lg_eprune.specs.Live.{WordTree, IsLiveChoice, AreNarrowed, AreOf}
use Rattle.lg_pprune.specs.Alive.{IsAlive}

-- one of the words is this word, and has this choice
abbrev pub HasWordWith : List WordTree → List ℕ → Choice → Type 0
HasWordWith words text choice = (w : WordTree) × Contains words w × (w.word ≡ text) × Contains (choices_of w.tree) choice

-- Each connector of a disjunct that is alive is live, and each word that had its choice has it after the words are narrowed.
pub record KeepAlive (words : List (List WordTree)) (positions : List (List Disjunct)) : Type 0 where
  pub live : (i : ℕ) (d : Disjunct) → IsAlive positions i d → IsLiveChoice words i (choice_of d)
  pub kept : (pruned : List (List WordTree)) → AreNarrowed words pruned → (i : ℕ) (d : Disjunct) → IsAlive positions i d → (text : List ℕ)
      → HasWordWith (slice_index_or words i []) text (choice_of d) → HasWordWith (slice_index_or pruned i []) text (choice_of d)

-- so it is with each problem whose disjuncts are choices of the words
abbrev pub AliveAreKept : Type 0
AliveAreKept = (words : List (List WordTree)) (positions : List (List Disjunct)) → AreOf words positions → KeepAlive words positions
