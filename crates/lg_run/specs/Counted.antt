-- What a share of usage has counted.
use Rattle.std.specs.Prelude.{ℕ, ◌*◌, ◌≤◌, List}
use Rattle.lg_gram.specs.Linkages.{Linkage}
use Rattle.lg_usage.specs.Totals.{Totals, AreTotals, count_in}

-- the greatest number of times that one linkage may use a text: once for each two positions
abbrev pub USES : ℕ
USES = 252 * 252

-- The totals of these linkages, of which there are at most n, by what one linkage may use.
pub record IsShare (n : ℕ) (gs : List Linkage) (t : Totals) : Type 0 where
  pub counted : AreTotals gs t
  pub words : (text : List ℕ) → count_in t.words text ≤ USES * n
  pub labels : (text : List ℕ) → count_in t.labels text ≤ USES * n
