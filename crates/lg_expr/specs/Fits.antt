-- What the macros of a text are to the expressions after them.
use Rattle.std.specs.Prelude.{ℕ, Option, Some, None}
use Rattle.lg_gram.specs.Filled.{Formulas}
pub use Rattle.lg_gram.specs.Fits.{Fits, AllFit, FilledFits}
use Rattle.lg_gram.specs.Trees.{Tree}
use Rattle.lg_expr.specs.declared.macros.Known.{Known}
use Rattle.lg_expr.specs.declared.macros.Known.TheVariants.{Unknown, Leveled}
use Rattle.lg_expr.specs.Grammar.{Rules}

-- what is known of a macro by what it stands for: its expression has so many brackets open at once
abbrev pub known_as : Option (Tree × ℕ) → Known
known_as None = Unknown
known_as (Some m) = Leveled m.1

-- the rules of an expression that names these macros
abbrev pub rules_of : Formulas → ℕ → Rules
rules_of formulas limit = record { known = λ name. known_as (formulas name); limit = limit }
