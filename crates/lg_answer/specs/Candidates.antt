-- Which linkages of a sentence are listed, in which order, and how far a listing of them has come.
use Rattle.std.specs.Prelude.{◌≡◌, ◌↔◌, ℕ, ◌<◌, ◌≤◌, Bool, true, false, List, [], ◌∷◌, ◌++◌, length, Option, None, Some, ◌⊎◌, Contains}
use Rattle.lg_gram.specs.Linkages.{Linkage, linkage_cmp, unlinked}
use Rattle.lg_gram.specs.Rules.{Good}
use Rattle.lg_gram.specs.declared.disjunct.Disjunct.{Disjunct}
use Rattle.lg_region.specs.Parts.{UnderWhole}
use Rattle.lg_knowread.specs.declared.knowledge.Knowledge.{Knowledge}
use Rattle.lg_pp.specs.Breaks.{Judges}
use Rattle.lg_rank.specs.Fronts.{IsFront, IsAll}
use Rattle.lg_answer.specs.declared.options.Nulls.{Nulls}
use Rattle.lg_answer.specs.declared.options.Nulls.TheVariants.{First, Passing}

-- which good linkages decide how many words may stay unlinked: all of them, or those that pass
abbrev pub Decides : Nulls → Knowledge → Linkage → Type 0
Decides First know g = Unit {0}
Decides Passing know g = Judges know g None

-- A candidate is a good linkage with no more unlinked words than each good linkage that decides.
pub record IsCandidate (positions : List (List Disjunct)) (know : Knowledge) (nulls : Nulls) (g : Linkage) : Type 0 where
  pub good : Good positions g
  pub fewest : (h : Linkage) → Good positions h → Decides nulls know h → unlinked g ≤ unlinked h

-- The first candidates, in order: every other one comes after all of them. Candidates with fewer unlinked words come first.
abbrev pub AreFirst : List (List Disjunct) → Knowledge → Nulls → List Linkage → Type 0
AreFirst positions know nulls front = IsFront linkage_cmp (IsCandidate positions know nulls) front

-- no candidate is missing from them
abbrev pub AreAll : List (List Disjunct) → Knowledge → Nulls → List Linkage → Type 0
AreAll positions know nulls front = IsAll (IsCandidate positions know nulls) front

-- The place behind the first n candidates, or behind all where they are fewer.
pub record IsBehind (positions : List (List Disjunct)) (know : Knowledge) (nulls : Nulls) (n place : ℕ) : Type 0 where
  pub front : List Linkage
  pub first : AreFirst positions know nulls front
  pub count : length front ≡ place
  pub at : (place ≡ n) ⊎ ((place < n) × AreAll positions know nulls front)

-- How far a listing of a problem's candidates has come: how many words are unlinked in those that come next, how many candidates
-- have fewer, how many are behind it in all, and whether one of the level, of those behind it, decides.
pub record Course : Type 0 where
  pub problem : List (List Disjunct)
  pub nulls : Nulls
  pub level : ℕ
  pub before : ℕ
  pub position : ℕ
  pub decided : Bool

-- a good linkage with fewer unlinked words
pub record IsLower (positions : List (List Disjunct)) (level : ℕ) (g : Linkage) : Type 0 where
  pub good : Good positions g
  pub fewer : unlinked g < level

-- A listing has come past these candidates, by this knowledge: all with fewer unlinked words, none of which decides, and the first of
-- its level.
pub record HasCome (know : Knowledge) (c : Course) (front : List Linkage) : Type 0 where
  pub lower : List Linkage
  pub given : List Linkage
  pub is : front ≡ lower ++ given
  pub lower_first : IsFront linkage_cmp (IsLower c.problem c.level) lower
  pub lower_all : IsAll (IsLower c.problem c.level) lower
  pub given_first : IsFront linkage_cmp (UnderWhole c.problem c.level) given
  pub before : length lower ≡ c.before
  pub position : length front ≡ c.position
  pub least : (h : Linkage) → Good c.problem h → Decides c.nulls know h → c.level ≤ unlinked h
  pub decided : (c.decided ≡ true) ↔ ((g : Linkage) × Contains given g × Decides c.nulls know g)

-- what a listing keeps is right for this knowledge
abbrev pub StandsFor : Knowledge → Course → Type 0
StandsFor know c = (front : List Linkage) × HasCome know c front

-- It has come past one more, of which it is still to be noted whether it decides.
abbrev pub HasComeBut : Knowledge → Course → List Linkage → Linkage → Type 0
HasComeBut know c front g = (decided : Bool) → ((decided ≡ true) ↔ ((c.decided ≡ true) ⊎ Decides c.nulls know g)) → HasCome know (record c { decided = decided }) (front ++ g ∷ [])

-- the next candidate, or none where all are behind
abbrev pub IsNextOf : Knowledge → Course → List Linkage → Option Linkage → Type 0
IsNextOf know c front None = HasCome know c front × AreAll c.problem know c.nulls front
IsNextOf know c front (Some g) = HasComeBut know c front g

-- it has come past one more, whichever that is, or none is left where all are behind
abbrev pub HasPassed : Knowledge → Course → List Linkage → Bool → Type 0
HasPassed know c front true = (g : Linkage) × HasCome know c (front ++ g ∷ [])
HasPassed know c front false = HasCome know c front × AreAll c.problem know c.nulls front

-- one listing of the same problem, with the same rule
pub record IsSameCourse (old new : Course) : Type 0 where
  pub problem : new.problem ≡ old.problem
  pub nulls : new.nulls ≡ old.nulls
