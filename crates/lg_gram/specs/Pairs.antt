-- What the order of links says of each pair of positions.
use Rattle.std.specs.Prelude.{◌≡◌, ℕ, ◌<◌, List, length}
use Rattle.std.specs.List.{All}
use Rattle.std.specs.List.Sorted.{IsStrictlySortedBy}
use Rattle.std.specs.Option.{option_cmp}
use Rattle.std.specs.Ordering.{nat_cmp, int_cmp, on, then_cmp}
use Rattle.std.specs.declared.cmp.Ordering.{Ordering}
use Rattle.std.specs.Cmp.Lexicographic.{slice_cmp}
use Rattle.lg_gram.specs.Disjuncts.{disjunct_cmp}
use Rattle.lg_gram.specs.Linkages.{Linkage, unlinked, total_cost, total_length, link_cmp, tie_cmp, linkage_cmp, pairs_cmp}
use Rattle.lg_gram.specs.Rules.{Good}
use Rattle.lg_gram.specs.declared.disjunct.Disjunct.{Disjunct}
use Rattle.lg_gram.specs.declared.linkage.Link.{Link}

-- the link joins two of n positions
abbrev pub LiesAmong : ℕ → Link → Type 0
LiesAmong n l = (l.left < n) × (l.right < n)

-- sets of links among n positions, written in order, compare as they do pair by pair
abbrev pub PairsDecide : Type 0
PairsDecide = (n : ℕ) (a b : List Link) → IsStrictlySortedBy link_cmp a → IsStrictlySortedBy link_cmp b → All (LiesAmong n) a → All (LiesAmong n) b →
    slice_cmp tie_cmp a b ≡ pairs_cmp n a b

-- The order of linkages of n positions, pair by pair: the fewest unlinked positions first, then the least cost, then the least
-- length, then what each position uses, and then the places of the link of each pair of positions.
abbrev pub by_pairs : ℕ → Linkage → Linkage → Ordering
by_pairs n = then_cmp (on unlinked nat_cmp)
    (then_cmp (on total_cost int_cmp)
    (then_cmp (on total_length nat_cmp)
    (then_cmp (on (λ g. g.chosen) (slice_cmp (option_cmp disjunct_cmp)))
    (on (λ g. g.links) (pairs_cmp n)))))

-- good linkages of one problem compare as they do pair by pair
abbrev pub GoodByPairs : Type 0
GoodByPairs = (positions : List (List Disjunct)) (a b : Linkage) → Good positions a → Good positions b → linkage_cmp a b ≡ by_pairs (length positions) a b
