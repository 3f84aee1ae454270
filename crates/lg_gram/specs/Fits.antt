-- That formulas keep to their levels, also with macros put in.
use Rattle.std.specs.Prelude.{◌≡◌, ℕ, List, IfSome, true}
use Rattle.lg_gram.specs.Filled.{Formulas, filled, filled_level}
use Rattle.lg_gram.specs.Formulas.{LevelFits, prices_are_small}
use Rattle.lg_gram.specs.RawTrees.{RawTree}
use Rattle.lg_gram.specs.Trees.{Tree}

-- a formula keeps to its level, and its prices are within their bounds
pub record Fits (level : ℕ) (formula : Tree) : Type 0 where
  pub level_fits : LevelFits level formula
  pub prices : prices_are_small formula ≡ true

abbrev pub AllFit : Formulas → Type 0
AllFit formulas = (name : List ℕ) → IfSome (formulas name) (λ m. Fits m.1 m.0)

-- with its macros put in
abbrev pub FilledFits : Formulas → ℕ → RawTree → Type 0
FilledFits formulas written e = Fits (filled_level formulas written e) (filled formulas e)
