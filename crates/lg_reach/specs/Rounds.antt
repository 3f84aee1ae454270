-- What a round of walks through all formulas tells.
use Rattle.std.specs.Prelude.{◌≡◌, ℕ, List, [], Option, length, slice_index_or}
use Rattle.std.specs.Borrow.{Bor}
use Rattle.lg_eprune.specs.Live.{WordTree}
use Rattle.lg_gram.specs.Linkages.{Linkage}
use Rattle.lg_sharpen.specs.Bounds as few
use Rattle.lg_sharpen.specs.Ways.{KnowsWays}
use Rattle.lg_reach.specs.Ends.{AreKnown, HaveChosen, Knows}
use Rattle.lg_reach.specs.Reach.{HaveFewer, HaveUsed}
use Rattle.lg_reach.specs.declared.known.Known.{Known}
use Rattle.lg_reach.specs.declared.site.Sites.{Sites}

-- a linkage that keeps the rules and has few unlinked words, of so many positions, and what it uses is among these words
pub record IsAmong (most : ℕ) (words : List (List WordTree)) (g : Linkage) : Type 0 where
  pub fits : few.Fits most g
  pub same_length : length g.chosen ≡ length words
  pub chosen : (i : ℕ) → HaveChosen g i (slice_index_or words i [])

-- the links of a linkage are known, and the ways that its words are linked
pub record AreLearned (sites : Sites) (ways : List (List ℕ)) (g : Linkage) : Type 0 where
  pub sites_know : Knows sites g
  pub ways_know : KnowsWays g ways

-- Of the words of all positions these are kept: with what each such linkage uses, of which all is learned, if it was known before.
pub record AreWalked (most : ℕ) (words kept : List (List WordTree)) (before : Option (Bor Known)) (sites : Sites) (ways : List (List ℕ)) : Type 0 where
  pub fewer : HaveFewer words kept
  pub used : (g : Linkage) → IsAmong most words g → AreKnown before g → HaveUsed g words kept
  pub knows : (g : Linkage) → IsAmong most words g → AreKnown before g → AreLearned sites ways g
