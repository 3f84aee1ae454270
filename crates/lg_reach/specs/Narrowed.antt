-- What a walk through the words of a position, or of all positions, tells.
use Rattle.std.specs.Prelude.{◌≡◌, ℕ, List, Some}
use Rattle.std.specs.List.{Contains}
use Rattle.lg_eprune.specs.Live.{WordTree}
use Rattle.lg_gram.specs.Disjuncts.{choice_of}
use Rattle.lg_gram.specs.Linkages.{Linkage}
use Rattle.lg_gram.specs.Measures.{choices_of}
use Rattle.lg_gram.specs.Rules.{chosen_at}
use Rattle.lg_gram.specs.declared.disjunct.Disjunct.{Disjunct}
use Rattle.lg_sharpen.specs.Ways.{HasWay}
use Rattle.lg_reach.specs.Ends.{Keeps, KeepsWays, KnowsAt, Suits, Uses}
use Rattle.lg_reach.specs.Reach.{Narrows, Never}
use Rattle.lg_reach.specs.declared.nearest.Stand.{Stand}
use Rattle.lg_reach.specs.declared.site.Sites.{Sites}

-- The words of a position are narrowed: nothing learned is forgotten, no choice is new, each that a linkage uses is there, and if it is then all links of the position are
-- known, and a way to link it.
pub record AreNarrowed (old new : Sites) (before after : List (List ℕ)) (stand : Stand) (words kept : List WordTree) : Type 0 where
  pub keeps : Keeps old new
  pub keeps_ways : KeepsWays before after
  pub fewer : Narrows Never words kept
  pub used : (g : Linkage) → Suits g stand → Narrows (Uses g stand.position) words kept
  pub known : (g : Linkage) → Suits g stand → (d : Disjunct) → chosen_at g stand.position ≡ Some d → (w : WordTree) → Contains words w → Contains (choices_of w.tree) (choice_of d)
      → KnowsAt new g stand.position × HasWay g after stand.position
