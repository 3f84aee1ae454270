-- The first list that is not empty has the good linkages of the fewest unlinked positions.
use Rattle.std.proofs.Common.{◌≡◌, ℕ, suc, zero, ◌<◌, ◌≤◌, ◌+◌, ◌↔◌, List, [], ◌∷◌, length, get_or, refl, sym, subst, inl, inr, ◌⊎◌, Option, Some, None, arith, is_none, le_antisymm, Bool, true, false, ◌==◌}
use Rattle.std.specs.List.{AllZip, Contains, count_by}
use Rattle.std.specs.List.Sorted.{IsStrictlySortedBy}
use Rattle.std.proofs.lemmas.Bool.Decides.{nat_tests}
use Rattle.std.proofs.lemmas.List.Sums.{count_by-le-length}
use Rattle.std.proofs.lemmas.Slice.Zip.{AllZip-long}
use Rattle.lg_gram.specs.Levels.{AreCandidates, AreOfOneProblem}
use Rattle.lg_gram.specs.Linkages.{Linkage, link_cmp, linkage_cmp, unlinked}
use Rattle.lg_gram.specs.Problems.{IsProblem}
use Rattle.lg_gram.specs.Rules.{Good}
use Rattle.lg_gram.specs.declared.disjunct.Disjunct.{Disjunct}
use Rattle.lg_rules.specs.Steps.{Adds, GoesOn, IsSoundWith, IsPick, AreGoodWithin}
use Rattle.lg_rules.specs.Places.{linkage_of}
use Rattle.lg_rules.proofs.Unlinked.{all_unlinked, unlinked_picks, unlinked_sound}

-- picks from the rows, place by place, are choices that are listed
picked : (row : List Disjunct) (o : Option Disjunct) → IsPick row o → (d : Disjunct) → o ≡ Some d → Contains row d
picked row None pick d e = cc
picked row (Some x) pick d e = let same : x ≡ d = cc in subst (Contains row) same pick

picks_listed : (rows : List (List Disjunct)) (os : List (Option Disjunct)) → AllZip IsPick rows os → (i : ℕ) (d : Disjunct) → get_or os i None ≡ Some d → Contains (get_or rows i []) d
picks_listed [] [] z i d e = cc
picks_listed [] (o ∷ os) z i d e = absurd z
picks_listed (row ∷ rows) [] z i d e = absurd z
picks_listed (row ∷ rows) (o ∷ os) z zero d e = picked row o z.0 d e
picks_listed (row ∷ rows) (o ∷ os) z (suc i) d e = picks_listed rows os z.1 i d e

pick_of : (row : List Disjunct) (o : Option Disjunct) → ((d : Disjunct) → o ≡ Some d → Contains row d) → IsPick row o
pick_of row None h = tt
pick_of row (Some d) h = h d refl

listed_picks : (rows : List (List Disjunct)) (os : List (Option Disjunct)) → length os ≡ length rows → ((i : ℕ) (d : Disjunct) → get_or os i None ≡ Some d → Contains (get_or rows i []) d) → AllZip IsPick rows os
listed_picks [] [] e h = tt
listed_picks [] (o ∷ os) e h = absurd (omega arith)
listed_picks (row ∷ rows) [] e h = absurd (omega arith)
listed_picks (row ∷ rows) (o ∷ os) e h = (pick_of row o (λ d. h 0 d), listed_picks rows os (omega arith) (λ i d. h (suc i) d))

good_of : (positions : List (List Disjunct)) (g : Linkage) (more : List (Option Disjunct)) → AllZip IsPick positions more → IsSoundWith more g → Good positions g
good_of positions g more z with =
    let picks : AllZip IsPick positions g.chosen = subst (AllZip IsPick positions) (sym with.same) z in
    record {
      belongs = record { same_length = AllZip-long IsPick positions g.chosen picks; listed = picks_listed positions g.chosen picks; set = with.rise };
      rules = with.sound.rules;
      connected = with.sound.connected;
    }

-- from the empty choice all good linkages go on
goes_on_good : (positions : List (List Disjunct)) (spare : ℕ) (g : Linkage) → GoesOn [] positions spare g ↔ (Good positions g × (unlinked g ≤ spare))
unfolding GoesOn
goes_on_good positions spare g = (
  λ q. (good_of positions g q.0 q.1 q.3, subst (λ (os : List (Option Disjunct)). count_by is_none os ≤ spare) (sym q.3.same) q.2),
  λ h. (
    g.chosen,
    listed_picks positions g.chosen h.0.belongs.same_length h.0.belongs.listed,
    h.1,
    record { same = refl; rise = h.0.belongs.set; sound = record { rules = h.0.rules; connected = h.0.connected } },
  ),
)

le_cases : (a b : ℕ) → (a ≤ b) ⊎ (b + 1 ≤ a)
le_cases a b = grind arith

first_of_some : (xs : List Linkage) → 0 < length xs → (x : Linkage) × Contains xs x
first_of_some [] h = absurd (omega arith)
first_of_some (x ∷ xs) h = (x, (0, omega arith, refl))

nothing_rises : IsStrictlySortedBy link_cmp []
unfolding IsStrictlySortedBy
nothing_rises = tt

-- some good linkage has no more unlinked positions than positions
pub never_beyond : (positions : List (List Disjunct)) (n : ℕ) → length positions + 1 ≤ n → ((h : Linkage) → Good positions h → n ≤ unlinked h) → ⊥
never_beyond positions n beyond low =
    let none = linkage_of (all_unlinked positions) [] in
    let with : IsSoundWith (all_unlinked positions) none = record { same = refl; rise = nothing_rises; sound = unlinked_sound positions } in
    let good = good_of positions none (all_unlinked positions) (unlinked_picks positions) with in
    let a = count_by-le-length is_none (all_unlinked positions) in
    let b = AllZip-long IsPick positions (all_unlinked positions) (unlinked_picks positions) in
    let c = low none good in
    omega (arith, a, b, c)

pub good_within : (positions : List (List Disjunct)) (spare : ℕ) (all : List Linkage) → Adds (GoesOn [] positions spare) [] all → AreGoodWithin positions spare all
unfolding Adds
good_within positions spare all added g =
    let both = goes_on_good positions spare g in (
      λ m. elim ((added g).0 m) [ inl i ↦ absurd (omega (arith, i.1)) | inr q ↦ both.0 q ],
      λ h. (added g).1 (inr (both.1 h)),
    )

module _ (positions : List (List Disjunct)) (spare : ℕ) (all : List Linkage) (listed : AreGoodWithin positions spare all) where
  pub of_one_problem : IsProblem positions → AreOfOneProblem all
  of_one_problem fine = record { positions = positions; is_problem = fine; each = λ g m. ((listed g).0 m).0.belongs }

  pub none_yet : length all ≡ 0 → (h : Linkage) → Good positions h → spare + 1 ≤ unlinked h
  none_yet e h good =
      elim (le_cases (unlinked h) spare) [ inl l ↦ let m = (listed h).1 (good, l) in absurd (omega (arith, m.1)) | inr l ↦ l ]

  module _ (low : (h : Linkage) → Good positions h → spare ≤ unlinked h) where
    exactly : (g : Linkage) → Contains all g ↔ (Good positions g × (unlinked g ≡ spare))
    exactly g = (
      λ m. let h = (listed g).0 m in (h.0, le_antisymm h.1 (low g h.0)),
      λ h. (listed g).1 (h.0, omega (arith, h.1)),
    )

    pub are_candidates : 0 < length all → (list : List Linkage) → IsStrictlySortedBy linkage_cmp list → ((g : Linkage) → Contains list g ↔ Contains all g) → AreCandidates positions list
    are_candidates some list rise same =
        let first = first_of_some all some in
        let h = (exactly first.0).0 first.1 in
        record {
          fewest = spare;
          is_fewest = record { some = (first.0, h.0, h.1); least = low };
          level = record {
            rise = rise;
            exactly = λ g. (λ m. (exactly g).0 ((same g).0 m), λ q. (same g).1 ((exactly g).1 q));
          };
        }

pub empty : (n m : ℕ) (r : Bool) → r ≡ (n == 0) → r ≡ true → m ≡ n → m ≡ 0
empty n m r e t f = grind (arith, nat_tests)

pub not_empty : (n m : ℕ) (r : Bool) → r ≡ (n == 0) → r ≡ false → m ≡ n → 0 < m
not_empty n m r e t f = grind (arith, nat_tests)
