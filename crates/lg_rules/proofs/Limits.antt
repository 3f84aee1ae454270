-- A linkage that is one of a problem.
use Rattle.std.proofs.Common.{◌≡◌, ◌≤◌, Bool, true, false, List, [], length, get_or, Option, Some, None, refl, subst, inl, inr, Contains, arith}
use Rattle.std.specs.Prelude.{if◌then◌else◌}
use Rattle.std.proofs.lemmas.Bool.{cases_lt}
use Rattle.std.proofs.lemmas.List.{get_or_past}
use Rattle.std.proofs.lemmas.List.Elements.{All-contains}
use Rattle.lg_gram.specs.Limits.{SIDE}
use Rattle.lg_gram.specs.Linkages.{Linkage}
use Rattle.lg_gram.specs.Problems.{IsProblem, FitsProblem}
use Rattle.lg_gram.specs.Rules.{chosen_at, left_list, right_list}
use Rattle.lg_gram.specs.declared.disjunct.Disjunct.{Disjunct}
use Rattle.lg_gram.specs.declared.linkage.Link.{Link}
use Rattle.lg_rules.specs.Places.{IsOf, HasShortSides, linkage_of}

-- a linkage is that of its choices and links
pub same_linkage : (g : Linkage) (chosen : List (Option Disjunct)) (links : List Link) → chosen ≡ g.chosen → links ≡ g.links → linkage_of chosen links ≡ g
same_linkage g chosen links e f = λ i. linkage_of (e i) (f i)

side_short : (o : Option Disjunct) → ((d : Disjunct) → o ≡ Some d → FitsProblem d) → (right : Bool) → length (if right then right_list o else left_list o) ≤ SIDE
side_short None fits true = omega arith
side_short None fits false = omega arith
side_short (Some d) fits true = (fits d refl).right
side_short (Some d) fits false = (fits d refl).left

-- the sides are those of disjuncts of the problem
pub short_sides : (positions : List (List Disjunct)) (g : Linkage) → IsProblem positions → IsOf positions g → HasShortSides g
short_sides positions g limits of right i =
    side_short (chosen_at g i) (λ d is.
    let listed = of.listed i d is in
    elim (cases_lt i (length positions)) [
      | inl within ↦ All-contains FitsProblem (get_or positions i []) d ((limits.each i [] within).fit) listed
      | inr past ↦ absurd (let none : Contains [] d = subst (λ z. Contains z d) (get_or_past positions i [] past) listed in omega (arith, none.1))
    ]) right
