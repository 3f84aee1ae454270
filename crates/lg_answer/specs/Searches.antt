-- What is searched for a listing: a problem, or as long as it stands for the problem, a sharper one.
use Rattle.std.specs.Prelude.{◌≡◌, ◌==◌, ℕ, ◌≤◌, List, length, Option, None, Some}
use Rattle.std.specs.List.{Contains, count_by}
use Rattle.std.specs.Map.{keys_of}
use Rattle.lg_gram.specs.Levels.{IsFewest}
use Rattle.lg_gram.specs.declared.disjunct.Disjunct.{Disjunct}
use Rattle.lg_region.specs.declared.key.Key.TheVariants.{Whole}
use Rattle.lg_forest.specs.Forests.{Forest}
use Rattle.lg_rank.specs.Rankings.{Ranking}
use Rattle.lg_answer.specs.Pages.{HasLinkagesOf}
use Rattle.lg_answer.specs.Wide.{IsReady, KeepsFew, problem_of}
use Rattle.lg_answer.specs.declared.wide.Wide.{Wide}

-- the problem of a search: the wide one, where there is one beside that which is ranked
abbrev pub wide_of : Option Wide → List (List Disjunct) → List (List Disjunct)
wide_of None ranked = ranked
wide_of (Some wide) ranked = problem_of wide

-- what is ranked stands for the wide problem up to so many unlinked words, and the wide one may be sharpened for more
abbrev pub StandsUpTo : ℕ → Option Wide → List (List Disjunct) → Type 0
StandsUpTo nulls None ranked = Unit {0}
StandsUpTo nulls (Some wide) ranked = KeepsFew (problem_of wide) nulls ranked × IsReady wide

-- a search for a problem with these linkages, before the first with the fewest unlinked words
pub record Begins (positions : List (List Disjunct)) (search : Ranking) : Type 0 where
  pub keeps : HasLinkagesOf positions search.positions
  pub same_length : length search.positions ≡ length positions
  pub fewest : IsFewest search.positions search.nulls
  pub first : search.position ≡ 0

-- the same, of a sharper problem that stands for this one up to so many unlinked words
pub record BeginsSharper (positions : List (List Disjunct)) (ranked : Ranking) : Type 0 where
  pub sharper : KeepsFew positions ranked.nulls ranked.positions
  pub fewest : IsFewest positions ranked.nulls
  pub first : ranked.position ≡ 0

-- how many positions have no disjunct
abbrev pub blanks : List (List Disjunct) → ℕ
blanks positions = count_by (λ ds. length ds == 0) positions

-- the sentence has a linkage in its forest, with at most so many unlinked words
abbrev pub HasFew : ℕ → Forest → Type 0
HasFew most forest = (forest.unused ≤ most) × Contains (keys_of forest.entries) (Whole forest.unused)
