-- Rows in the order of ranks are choices in their order.
use Rattle.std.proofs.Common.{◌≡◌, ℕ, ◌-◌, ◌<◌, ◌≤◌, Bool, true, List, [], ◌∷◌, length, map, take, drop, get_or, refl, sym, ap, subst, ◌∙◌, arith, if◌then◌else◌, ◌↔◌}
use Rattle.std.proofs.lemmas.Bool.Decides.{nat_tests}
use Rattle.std.specs.Cmp.Derive.{both_true}
use Rattle.std.specs.List.{drop-map}
use Rattle.std.proofs.lemmas.Simd.{map-map}
use Rattle.std.proofs.lemmas.List.Filters.{All-dedup}
use Rattle.std.proofs.lemmas.List.Kept.{IsStrictlySortedBy-dedup}
use Rattle.std.specs.Prelude.{nat_le, ◌&&◌}
use Rattle.std.specs.Ordering.{nat_cmp, int_cmp, ordering_then, on, eq_by_cmp}
use Rattle.std.specs.Cmp.Lexicographic.{slice_cmp}
use Rattle.std.specs.List.{All, Contains, dedup}
use Rattle.std.specs.List.Sorted.{IsSorted, IsStrictlySortedBy}
use Rattle.std.proofs.lemmas.List.Sorted.{All-permutation, IsPermutation-map}
use Rattle.std.proofs.lemmas.List.{take-map, length-map, get_or-map}
use Rattle.std.proofs.lemmas.List.Elements.{All-map, All-head, All-tail}
use Rattle.lg_gram.specs.Connectors.{Connector, connector_cmp, ConnectorsToldApart}
use Rattle.lg_gram.specs.Measures.{Choice}
use Rattle.lg_disj.specs.declared.arena.Row.{Row}
use Rattle.lg_disj.specs.declared.numbers.Numbered.{Numbered}
use Rattle.lg_disj.specs.Choices.{lists_cmp, choice_cmp, IsSided, IsCheapest}
use Rattle.lg_disj.specs.Grown.{IsPlaced}
use Rattle.lg_disj.specs.Places.{no_places, leaf_at, choice_by, part, row_in, LiesIn}
use Rattle.lg_disj.specs.Ranks.{AreRanks, part_or, key_in, ranks_cmp, places_cmp, IsKept}
use Rattle.lg_disj.proofs.Runs.{same, lists_cmp_total, lists_sorted}
use Rattle.lg_disj.proofs.Alike.{sorted_map, dedup_map}
use Rattle.lg_disj.proofs.Kept.{kept_is_cheapest, cheapest_is_kept}

nat_le_true : (a b : ℕ) → a ≤ b → nat_le a b ≡ true
nat_le_true a b h = grind (arith, nat_tests)

part_or_map : (g : ℕ → ℕ) (xs : List ℕ) (from to : ℕ) → from ≤ to → to ≤ length xs → part_or from to (map g xs) ≡ map g (part from to xs)
part_or_map g xs from to low high =
    let test : (nat_le from to && nat_le to (length (map g xs))) ≡ true = both_true (nat_le_true from to low) (nat_le_true to (length (map g xs)) (omega (arith, high, length-map xs g))) in
    ap {B = List ℕ} (λ b. if b then take (to - from) (drop from (map g xs)) else []) test
    ∙ ap (take (to - from)) (drop-map g from xs) ∙ take-map g (to - from) (drop from xs)

module _ (leaves : List Connector) (ranks : List ℕ) (are : AreRanks leaves ranks) (places : List ℕ) where
  abbrev rank_at : ℕ → ℕ
  rank_at n = get_or ranks n 0

  lists_alike : (xs ys : List ℕ) → All (λ n. n < length leaves) xs → All (λ n. n < length leaves) ys →
      slice_cmp nat_cmp (map rank_at xs) (map rank_at ys) ≡ slice_cmp connector_cmp (map (leaf_at leaves) xs) (map (leaf_at leaves) ys)
  lists_alike [] [] p q = refl
  lists_alike [] (y ∷ ys) p q = refl
  lists_alike (x ∷ xs) [] p q = refl
  lists_alike (x ∷ xs) (y ∷ ys) p q =
      let P : ℕ → Type 0 = λ n. n < length leaves in
      let first = are.order x y _ (All-head P x xs p) (All-head P y ys q) in
      let others = lists_alike xs ys (All-tail P x xs p) (All-tail P y ys q) in
      λ i. ordering_then (first i) (others i)

  -- the choice of a row
  abbrev pub choice_in : Row → Choice
  choice_in row = choice_by leaves (row_in places row)

  abbrev pub IsGood : Row → Type 0
  IsGood row = LiesIn places row × IsPlaced leaves (row_in places row)

  abbrev pub ranked : List ℕ
  ranked = map rank_at places

  by_lists : (a b : Row) → IsGood a → IsGood b → ranks_cmp (key_in ranked a) (key_in ranked b) ≡ lists_cmp (choice_in a) (choice_in b)
  by_lists a b p q =
      let left_a = part_or_map rank_at places a.from a.middle p.0.left (omega (arith, p.0.right, p.0.within)) in
      let left_b = part_or_map rank_at places b.from b.middle q.0.left (omega (arith, q.0.right, q.0.within)) in
      let right_a = part_or_map rank_at places a.middle a.end p.0.right p.0.within in
      let right_b = part_or_map rank_at places b.middle b.end q.0.right q.0.within in
      let left = (λ i. slice_cmp nat_cmp (left_a i) (left_b i)) ∙ lists_alike (part a.from a.middle places) (part b.from b.middle places) p.1.left q.1.left in
      let right = (λ i. slice_cmp nat_cmp (right_a i) (right_b i)) ∙ lists_alike (part a.middle a.end places) (part b.middle b.end places) p.1.right q.1.right in
      λ i. ordering_then (left i) (right i)

  by_all : (a b : Row) → IsGood a → IsGood b → places_cmp (key_in ranked a) (key_in ranked b) ≡ choice_cmp (choice_in a) (choice_in b)
  by_all a b p q = let lists = by_lists a b p q in λ i. ordering_then (lists i) (int_cmp a.cost b.cost)

  sorted_choices : (up : List Row) → All IsGood up → IsSorted (on (key_in ranked) places_cmp) up → IsSorted choice_cmp (map choice_in up)
  sorted_choices = sorted_map choice_in IsGood (on (key_in ranked) places_cmp) choice_cmp by_all

  abbrev pub same_row : Row → Row → Bool
  same_row = eq_by_cmp (on (key_in ranked) ranks_cmp)

  same_kept : (xs : List Row) → All IsGood xs → dedup same (map choice_in xs) ≡ map choice_in (dedup same_row xs)
  same_kept = dedup_map choice_in IsGood (on (key_in ranked) ranks_cmp) lists_cmp by_lists

  good_rows : (rows : List Row) → All (LiesIn places) rows → All (IsPlaced leaves) (map (row_in places) rows) → All IsGood rows
  good_rows rows lie placed k d within = (
    lie k d within,
    subst (IsPlaced leaves) (get_or-map (row_in places) rows k d no_places within) (placed k no_places (omega (arith, within, length-map rows (row_in places)))),
  )

  pub kept_rise : (rows kept : List Row) → All (LiesIn places) rows → All (IsPlaced leaves) (map (row_in places) rows) → IsKept ranked rows kept →
      IsStrictlySortedBy lists_cmp (map (choice_by leaves) (map (row_in places) kept))
  kept_rise rows kept lie placed h =
      let good = All-permutation IsGood rows h.sorted h.moved (good_rows rows lie placed) in
      let up = map choice_in h.sorted in
      let is : map (choice_by leaves) (map (row_in places) kept) ≡ dedup same up =
      map-map (choice_by leaves) (row_in places) kept ∙ ap (map choice_in) h.is ∙ sym (same_kept h.sorted good) in
      subst (IsStrictlySortedBy lists_cmp) (sym is) (IsStrictlySortedBy-dedup lists_cmp_total (λ x y. refl) up (lists_sorted up (sorted_choices h.sorted good h.order)))

  pub kept_exactly : ConnectorsToldApart → (rows kept : List Row) → All (LiesIn places) rows → All (IsPlaced leaves) (map (row_in places) rows) →
      All IsSided (map (choice_by leaves) (map (row_in places) rows)) → IsKept ranked rows kept →
      (c : Choice) → Contains (map (choice_by leaves) (map (row_in places) kept)) c ↔ IsCheapest (map (choice_by leaves) (map (row_in places) rows)) c
  kept_exactly apart rows kept lie placed sided h c =
      let good = All-permutation IsGood rows h.sorted h.moved (good_rows rows lie placed) in
      let up = map choice_in h.sorted in
      let all : map (choice_by leaves) (map (row_in places) rows) ≡ map choice_in rows = map-map (choice_by leaves) (row_in places) rows in
      let is : map (choice_by leaves) (map (row_in places) kept) ≡ dedup same up =
      map-map (choice_by leaves) (row_in places) kept ∙ ap (map choice_in) h.is ∙ sym (same_kept h.sorted good) in
      let moved = IsPermutation-map choice_in rows h.sorted h.moved in
      let order = sorted_choices h.sorted good h.order in (
        λ m. subst (λ cs. IsCheapest cs c) (sym all) (kept_is_cheapest (map choice_in rows) up moved order c (subst (λ cs. Contains cs c) is m)),
        λ m. subst (λ cs. Contains cs c) (sym is)
            (cheapest_is_kept apart (map choice_in rows) up (subst (All IsSided) all sided) moved order c (subst (λ cs. IsCheapest cs c) all m)),
      )

  pub kept_good : (rows kept : List Row) → All (LiesIn places) rows → All (IsPlaced leaves) (map (row_in places) rows) → IsKept ranked rows kept → All IsGood kept
  kept_good rows kept lie placed h =
      subst (All IsGood) (sym h.is) (All-dedup same_row IsGood h.sorted (All-permutation IsGood rows h.sorted h.moved (good_rows rows lie placed)))

  pub kept_lie : (rows kept : List Row) → All (LiesIn places) rows → All (IsPlaced leaves) (map (row_in places) rows) → IsKept ranked rows kept → All (LiesIn places) kept
  kept_lie rows kept lie placed h k d within = (kept_good rows kept lie placed h k d within).0

  pub kept_placed : (rows kept : List Row) → All (LiesIn places) rows → All (IsPlaced leaves) (map (row_in places) rows) → IsKept ranked rows kept →
      All (IsPlaced leaves) (map (row_in places) kept)
  kept_placed rows kept lie placed h = All-map (IsPlaced leaves) (row_in places) kept (λ k d within. (kept_good rows kept lie placed h k d within).1)

-- the rows that are kept by the ranks at their places
pub kept_by : (ranks d places e ranked f : List ℕ) (rows g kept : List Row) (numbered h : List Numbered) → d ≡ ranks → e ≡ places → ranked ≡ map (λ (n : ℕ). get_or d n 0) e →
    f ≡ ranked → g ≡ rows → h ≡ numbered → kept ≡ map (λ (k : Numbered). k.row) h → IsKept f g (map (λ (k : Numbered). k.row) numbered) →
    IsKept (map (λ (n : ℕ). get_or ranks n 0) places) rows kept
kept_by ranks d places e r f rows g kept numbered h one two is three four five all left =
    subst (IsKept (map (λ (n : ℕ). get_or ranks n 0) places) rows) (sym (all ∙ ap (map (λ (k : Numbered). k.row)) five))
    (subst (λ r. IsKept r rows (map (λ (k : Numbered). k.row) numbered)) (three ∙ is ∙ (λ i. map (λ (n : ℕ). get_or (one i) n 0) (two i)))
    (subst (λ rows. IsKept f rows (map (λ (k : Numbered). k.row) numbered)) four left))
