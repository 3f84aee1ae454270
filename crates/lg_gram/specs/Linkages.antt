-- Linkages and their order.
use Rattle.std.specs.Prelude.{ℕ, ◌-◌, ◌<◌, ◌≤◌, ◌^◌, ◌==◌, ◌&&◌, List, [], ◌∷◌, length, map, Option, Some, None, is_none, ℤ, pos, ◌+ℤ◌, IfSome}
use Rattle.std.specs.List.{All, flat_map, range_with_len, count_by, sum_by, filter}
use Rattle.std.specs.List.Sorted.{IsStrictlySortedBy}
use Rattle.std.specs.Option.{option_cmp}
use Rattle.std.specs.Ordering.{nat_cmp, int_cmp, on, then_cmp, flip_args}
use Rattle.std.specs.declared.cmp.Ordering.{Ordering}
use Rattle.std.specs.Cmp.Lexicographic.{slice_cmp}
use Rattle.lg_gram.specs.Limits.{LINKAGE_POSITIONS}
use Rattle.lg_gram.specs.Disjuncts.{disjunct_cmp}
use Rattle.lg_gram.specs.Problems.{IsDisjunctCost}
use Rattle.lg_gram.specs.declared.disjunct.Disjunct.{Disjunct}
use Rattle.lg_gram.specs.declared.linkage.Link.{Link}

-- what each position uses, or none where it is unlinked, and the links
pub record Linkage : Type 0 where
  pub chosen : List (Option Disjunct)
  pub links : List Link

-- by the two positions, and then by the two places
abbrev pub link_cmp : Link → Link → Ordering
link_cmp = then_cmp (on (λ l. l.left) nat_cmp) (then_cmp (on (λ l. l.right) nat_cmp) (then_cmp (on (λ l. l.lplace) nat_cmp) (on (λ l. l.rplace) nat_cmp)))

abbrev pub IsForward : Link → Type 0
IsForward l = l.left < l.right

abbrev pub link_length : Link → ℕ
link_length l = l.right - l.left

abbrev pub HasSmallCost : Option Disjunct → Type 0
HasSmallCost o = IfSome o (λ d. IsDisjunctCost d.cost)

pub record IsLinkage (g : Linkage) : Type 0 where
  pub few : length g.chosen ≤ LINKAGE_POSITIONS
  pub few_links : length g.links < 2 ^ 32
  pub forward : All IsForward g.links
  pub rise : IsStrictlySortedBy link_cmp g.links
  pub costs : All HasSmallCost g.chosen

-- how many positions are unlinked
abbrev pub unlinked : Linkage → ℕ
unlinked g = count_by is_none g.chosen

abbrev pub cost_of : Option Disjunct → ℤ
cost_of None = pos 0
cost_of (Some d) = d.cost

abbrev pub cost_sum : List (Option Disjunct) → ℤ
cost_sum [] = pos 0
cost_sum (o ∷ os) = cost_of o +ℤ cost_sum os

-- the sum of the costs of the chosen disjuncts
abbrev pub total_cost : Linkage → ℤ
total_cost g = cost_sum g.chosen

-- the sum of the lengths of the links
abbrev pub total_length : Linkage → ℕ
total_length g = sum_by link_length g.links

abbrev pub pair_cmp : Link → Link → Ordering
pair_cmp = then_cmp (on (λ l. l.left) nat_cmp) (on (λ l. l.right) nat_cmp)

-- The order of the first links that differ. Where one list has a link of an earlier pair of positions, the other has none at that pair and comes first; at one pair the places decide.
abbrev pub tie_cmp : Link → Link → Ordering
tie_cmp = then_cmp (flip_args pair_cmp) (then_cmp (on (λ l. l.lplace) nat_cmp) (on (λ l. l.rplace) nat_cmp))

-- The order of linkages, after link-parser: the fewest unlinked positions first, then the least cost, then the least length; then, of this project's own, what each position uses, and the links of each pair.
abbrev pub linkage_cmp : Linkage → Linkage → Ordering
linkage_cmp = then_cmp (on unlinked nat_cmp)
    (then_cmp (on total_cost int_cmp)
    (then_cmp (on total_length nat_cmp)
    (then_cmp (on (λ g. g.chosen) (slice_cmp (option_cmp disjunct_cmp)))
    (on (λ g. g.links) (slice_cmp tie_cmp)))))

-- the places of the links from i to j, in order
abbrev pub places_between : List Link → ℕ → ℕ → List (ℕ × ℕ)
places_between links i j = map (λ l. (l.lplace, l.rplace)) (filter (λ l. (l.left == i) && (l.right == j)) links)

-- the same for each pair of n positions, by the first and then by the second
abbrev pub places_of_pairs : ℕ → List Link → List (List (ℕ × ℕ))
places_of_pairs n links =
    let all = range_with_len 0 n in
    flat_map (λ i. map (places_between links i) all) all

abbrev pub places_cmp : (ℕ × ℕ) → (ℕ × ℕ) → Ordering
places_cmp = then_cmp (on (λ p. p.0) nat_cmp) (on (λ p. p.1) nat_cmp)

-- Pair by pair of n positions: no link before a link, then the place at the left word, then the place at the right word.
abbrev pub pairs_cmp : ℕ → List Link → List Link → Ordering
pairs_cmp n = on (places_of_pairs n) (slice_cmp (slice_cmp places_cmp))
