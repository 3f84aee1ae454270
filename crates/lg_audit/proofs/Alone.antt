-- A problem whose positions have just what a linkage uses: its limits, and what is good of it.
use Rattle.std.proofs.Common.{◌≡◌, ℕ, zero, suc, ◌<◌, ◌≤◌, true, false, List, [], ◌∷◌, length, get_or, slice_get, inl, inr, Option, Some, None, refl, ap, subst, arith}
use Rattle.std.specs.List.{All, AllByRecursion, sum_by}
use Rattle.std.specs.List.Sorted.{IsStrictlySortedBy}
use Rattle.std.proofs.lemmas.Bool.{cases_lt}
use Rattle.std.proofs.lemmas.List.{get_or_past}
use Rattle.std.proofs.lemmas.List.Elements.{All-nil, All-cons, Contains-get_or}
use Rattle.std.proofs.lemmas.List.Sums.{sum_by-cons}
use Rattle.std.proofs.lemmas.Option.{slice_get_within}
use Rattle.lg_gram.specs.Connectors.{Connector}
use Rattle.lg_gram.specs.Limits.{SIDE, LINKAGE_POSITIONS}
use Rattle.lg_gram.specs.Linkages.{Linkage, IsLinkage, HasSmallCost}
use Rattle.lg_gram.specs.Problems.{FitsProblem, IsPosition, IsProblem}
use Rattle.lg_gram.specs.Rules.{Good, HasLink, chosen_at, left_list, right_list, rights_of, lefts_of}
use Rattle.lg_gram.specs.declared.disjunct.Disjunct.{Disjunct}
use Rattle.lg_gram.specs.declared.linkage.Link.{Link}
use Rattle.lg_rules.specs.Places.{IsOf, IsPlaced, HasShortSides}
use Rattle.lg_rules.proofs.FewLinks.{few_links}
use Rattle.lg_audit.specs.Pages.{MayFit, alone, problem_of}

-- ---- the limits of the problem

none_position : IsPosition []
unfolding IsStrictlySortedBy
none_position = record { fit = All-nil FitsProblem; rise = tt }

alone_position : (o : Option Disjunct) → MayFit o → IsPosition (alone o)
unfolding IsStrictlySortedBy
alone_position None fits = none_position
alone_position (Some d) fits = record { fit = All-cons FitsProblem d [] fits (All-nil FitsProblem); rise = (tt, tt) }

alone_few : (o : Option Disjunct) → length (alone o) ≤ 1
alone_few None = omega arith
alone_few (Some d) = omega arith

all_few : (os : List (Option Disjunct)) → sum_by length (problem_of os) ≤ length os
all_few [] = omega arith
all_few (o ∷ os) =
    let more = sum_by-cons length (alone o) (problem_of os) in
    let one = alone_few o in
    let rest = all_few os in
    omega arith

all_positions : (os : List (Option Disjunct)) → AllByRecursion MayFit os → All IsPosition (problem_of os)
all_positions [] fit = All-nil IsPosition
all_positions (o ∷ os) fit = All-cons IsPosition (alone o) (problem_of os) (alone_position o fit.0) (all_positions os fit.1)

pub as_many : (os : List (Option Disjunct)) → length (problem_of os) ≡ length os
as_many [] = refl
as_many (o ∷ os) = ap suc (as_many os)

pub is_problem : (os : List (Option Disjunct)) → length os ≤ LINKAGE_POSITIONS → AllByRecursion MayFit os → IsProblem (problem_of os)
is_problem os few fit =
    let count = all_few os in
    let same = as_many os in
    record { few = omega arith; few_disjuncts = omega arith; each = all_positions os fit }

-- ---- a good linkage of any problem

-- where a side has a connector, the position is one
left_within : (g : Linkage) (i p : ℕ) (a : Connector) → slice_get (lefts_of g i) p ≡ Some a → i < length g.chosen
left_within g i p a e = elim (cases_lt i (length g.chosen)) [
  | inl lt ↦ lt
  | inr past ↦ (let f = subst (λ (o : Option Disjunct). slice_get (left_list o) p ≡ Some a) (get_or_past g.chosen i None past) e in absurd cc)
]

placed : (positions : List (List Disjunct)) (g : Linkage) → Good positions g → (l : Link) → HasLink g l → IsPlaced g l
placed positions g good l has =
    let (a, b, from, to, m) = good.rules.matched.joins l has in
    record {
      forward = good.rules.matched.forward l has;
      within = left_within g l.right l.rplace b to;
      lplace = slice_get_within (rights_of g l.left) l.lplace a from;
      rplace = slice_get_within (lefts_of g l.right) l.rplace b to;
    }

pub good_is_of : (positions : List (List Disjunct)) (g : Linkage) → Good positions g → IsOf positions g
good_is_of positions g good = record { same_length = good.belongs.same_length; listed = good.belongs.listed; placed = placed positions g good }

-- ---- the limits of a linkage

fit_at : (os : List (Option Disjunct)) (i : ℕ) → AllByRecursion MayFit os → MayFit (get_or os i None)
fit_at [] i fit = tt
fit_at (o ∷ os) zero fit = fit.0
fit_at (o ∷ os) (suc i) fit = fit_at os i fit.1

short_left : (o : Option Disjunct) → MayFit o → length (left_list o) ≤ SIDE
short_left None fits = omega arith
short_left (Some d) fits = fits.left

short_right : (o : Option Disjunct) → MayFit o → length (right_list o) ≤ SIDE
short_right None fits = omega arith
short_right (Some d) fits = fits.right

short_sides : (g : Linkage) → AllByRecursion MayFit g.chosen → HasShortSides g
short_sides g fit true i = short_right (chosen_at g i) (fit_at g.chosen i fit)
short_sides g fit false i = short_left (chosen_at g i) (fit_at g.chosen i fit)

small_cost : (o : Option Disjunct) → MayFit o → HasSmallCost o
small_cost None fits = tt
small_cost (Some d) fits = fits.cost

small_costs : (os : List (Option Disjunct)) → AllByRecursion MayFit os → All HasSmallCost os
small_costs [] fit = All-nil HasSmallCost
small_costs (o ∷ os) fit = All-cons HasSmallCost o os (small_cost o fit.0) (small_costs os fit.1)

pub good_linkage : (positions : List (List Disjunct)) (g : Linkage) → length g.chosen ≤ LINKAGE_POSITIONS → AllByRecursion MayFit g.chosen → Good positions g → IsLinkage g
good_linkage positions g few fit good = record {
  few = few;
  few_links = few_links g few (short_sides g fit) (placed positions g good) good.belongs.set;
  forward = λ k d within. good.rules.matched.forward (get_or g.links k d) (Contains-get_or g.links k d within);
  rise = good.belongs.set;
  costs = small_costs g.chosen fit;
}
