-- What is searched: a problem, or formulas of which problems are made.
use Rattle.std.specs.Prelude.{◌≡◌, ◌↔◌, ℕ, ◌≤◌, List, length, map, All, Bool, not, ◌&&◌, ◌||◌}
use Rattle.std.specs.List.{AllZip, flat_map, filter, list_all}
use Rattle.std.specs.Cmp.Lexicographic.{pointwise}
use Rattle.std.specs.Int.Signed.{le_z}
use Rattle.lg_gram.specs.Connectors.{connector_eq}
use Rattle.lg_gram.specs.Limits.{POSITIONS}
use Rattle.lg_gram.specs.Linkages.{Linkage, unlinked}
use Rattle.lg_gram.specs.Measures.{Choice, choices_of}
use Rattle.lg_gram.specs.Problems.{IsProblem}
use Rattle.lg_gram.specs.Rules.{Good}
use Rattle.lg_gram.specs.declared.disjunct.Disjunct.{Disjunct}
use Rattle.lg_disj.specs.Choices.{disjunct_of}
use Rattle.lg_eprune.specs.Live.{WordTree}
use Rattle.lg_answer.specs.Pages.{HasLinkagesOf}
use Rattle.lg_answer.specs.Steps.{AreApart, AreMade}
use Rattle.lg_answer.specs.declared.wide.Wide.{Wide}
use Rattle.lg_answer.specs.declared.wide.Wide.TheVariants.{Problem, Words}

-- the same two lists
abbrev pub same_lists : Choice → Choice → Bool
same_lists c e = pointwise connector_eq c.left e.left && pointwise connector_eq c.right e.right

-- none of these has the same lists and costs less
abbrev pub is_cheapest : List Choice → Choice → Bool
is_cheapest cs c = list_all (λ e. not (same_lists c e) || le_z c.cost e.cost) cs

-- the disjuncts of a word, in the order of its choices
abbrev pub disjuncts_in : WordTree → List Disjunct
disjuncts_in w = map (disjunct_of w.word) (filter (is_cheapest (choices_of w.tree)) (choices_of w.tree))

-- the disjuncts of the words of each position
abbrev pub all_disjuncts : List (List WordTree) → List (List Disjunct)
all_disjuncts words = map (flat_map disjuncts_in) words

-- the problem, or the disjuncts of all choices
abbrev pub problem_of : Wide → List (List Disjunct)
problem_of (Problem problem) = problem
problem_of (Words words) = all_disjuncts words

-- few positions, at each of which disjuncts that their order does not tell apart are one, and what is made of the words is a problem
pub record AreExpandable (words : List (List WordTree)) : Type 0 where
  pub few : length words ≤ POSITIONS
  pub apart : All AreApart words
  pub limits : (positions : List (List Disjunct)) → AllZip AreMade words positions → IsProblem positions

abbrev pub IsReady : Wide → Type 0
IsReady (Problem problem) = IsProblem problem
IsReady (Words words) = AreExpandable words

-- each linkage with at most so many unlinked words is good for the one exactly if it is for the other
pub record KeepsFew (positions : List (List Disjunct)) (nulls : ℕ) (kept : List (List Disjunct)) : Type 0 where
  pub same_length : length kept ≡ length positions
  pub same : (g : Linkage) → unlinked g ≤ nulls → Good positions g ↔ Good kept g

-- the same of every linkage
pub record IsAsGood (positions kept : List (List Disjunct)) : Type 0 where
  pub same_length : length kept ≡ length positions
  pub keeps : HasLinkagesOf positions kept

-- no linkage leaves fewer words unlinked
abbrev pub HasNoFewer : List (List Disjunct) → ℕ → Type 0
HasNoFewer positions nulls = (g : Linkage) → Good positions g → nulls ≤ unlinked g
