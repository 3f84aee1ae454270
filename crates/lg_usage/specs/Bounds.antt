-- How great totals may be.
use Rattle.std.specs.Prelude.{ℕ, ◌*◌, ◌≤◌, List, length}
use Rattle.std.specs.List.{All}
use Rattle.lg_gram.specs.Limits.{LINKAGE_POSITIONS}
use Rattle.lg_gram.specs.Linkages.{Linkage, IsLinkage}
use Rattle.lg_usage.specs.Totals.{Totals, AreTotals, IsGood, count_in, times, words_used, labels_used}

-- A linkage uses a word at most once a position, and, as it is good, a label at most once for each two positions.
abbrev pub UsesAreFew : Type 0
UsesAreFew = (g : Linkage) → IsLinkage g → IsGood g → (text : List ℕ) →
    (times text (words_used g) ≤ LINKAGE_POSITIONS) × (times text (labels_used g) ≤ LINKAGE_POSITIONS * LINKAGE_POSITIONS)

-- so do the totals of several
abbrev pub TotalsAreFew : Type 0
TotalsAreFew = (gs : List Linkage) (t : Totals) → All IsLinkage gs → All IsGood gs → AreTotals gs t → (text : List ℕ) →
    (count_in t.words text ≤ LINKAGE_POSITIONS * length gs) × (count_in t.labels text ≤ LINKAGE_POSITIONS * LINKAGE_POSITIONS * length gs)
