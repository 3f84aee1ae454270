-- The formula of an expression, read or recalled by the text of the expression.
use Rattle.std.specs.Prelude.{◌≡◌, ℕ, List, [], IfSome, Result, Ok, Err}
use Rattle.lg_gram.specs.Filled.{Formulas, filled, filled_level}
use Rattle.lg_gram.specs.Limits.{LEVEL}
use Rattle.lg_gram.specs.RawTrees.{RawTree}
use Rattle.lg_gram.specs.Trees.{Tree, tree_of}
use Rattle.lg_lex.specs.declared.marks.Marks.TheVariants.{Dictionary}
use Rattle.lg_lex.specs.Lexing.{tokens_from}
use Rattle.lg_lex.specs.Sections.{IsClosed}
use Rattle.lg_lex.specs.Spots.{location_left, IsSpot}
use Rattle.lg_lex.specs.Tokens.{Token}
use Rattle.lg_expr.specs.Fits.{rules_of}
use Rattle.lg_expr.specs.Reading.{StandFor, FirstFault}
use Rattle.lg_expr.specs.declared.fault.Fault as expr_fault
use Rattle.lg_dictread.specs.declared.dict_error.DictError.{DictError}
use Rattle.lg_dictread.specs.declared.dict_error.DictError.TheVariants as errors
use Rattle.lg_dictread.specs.declared.formula.FormulaRead.{FormulaRead}
use Rattle.lg_dictread.specs.Entries.{part}
use Rattle.lg_dictread.specs.Lines.{part_left}
use Rattle.lg_dictread.specs.Telling.{UnlessMemory}
use Rattle.lg_dictread.specs.Texts.{IsSmall, IsLarge, IsErrorOf}

-- at the front of the tokens stands an expression, by these macros, and then the rest; it is within the measures, and
-- means this formula of that level
pub record Means (formulas : Formulas) (ts : List Token) (formula : Tree) (level : ℕ) (rest : List Token) : Type 0 where
  pub expr : RawTree
  pub written : ℕ
  pub stands : StandFor Token part (rules_of formulas LEVEL) ts expr written rest
  pub small : IsSmall (filled formulas expr)
  pub formula_is : formula ≡ filled formulas expr
  pub level_is : level ≡ filled_level formulas written expr

-- the section is the whole text of an expression that means so much, wherever it stands
pub record Writes (formulas : Formulas) (section : List ℕ) (formula : Tree) (level : ℕ) : Type 0 where
  pub closed : IsClosed Dictionary section
  pub means : Means formulas (tokens_from Dictionary section 0) formula level []

-- why no formula is read: the first token at fault, or the first measure that is passed by an entry on this line
pub data IsRefused (text : List ℕ) (formulas : Formulas) (line : ℕ) (ts : List Token) (error : DictError) : Type 0 where
  at_fault : (f : expr_fault.Fault) (left : List Token) → FirstFault Token part (rules_of formulas LEVEL) ts f left
      → IsErrorOf (location_left text left) (part_left left) f error → IsRefused text formulas line ts error
  large : (e : RawTree) (n : ℕ) (rest : List Token) → StandFor Token part (rules_of formulas LEVEL) ts e n rest
      → IsLarge (filled formulas e) line error → IsRefused text formulas line ts error

-- a formula is read, and its section, if it is told, can be recalled
pub record IsRead (text : List ℕ) (formulas : Formulas) (ts : List Token) (x : FormulaRead) : Type 0 where
  pub means : Means formulas ts (tree_of x.formula) x.level (tokens_from Dictionary text x.end.at)
  pub spot : IsSpot text x.end
  pub section : IfSome x.section (λ s. Writes formulas s.now (tree_of x.formula) x.level)

abbrev pub TellsFormula : List ℕ → Formulas → ℕ → List Token → Result FormulaRead DictError → Type 0
TellsFormula text formulas line ts (Ok x) = IsRead text formulas ts x
TellsFormula text formulas line ts (Err error) = UnlessMemory (IsRefused text formulas line ts) error

-- the error is of the text itself, and of no word file
abbrev pub IsOfText : DictError → Type 0
IsOfText (errors.WordFile line name cause) = ⊥
IsOfText error = Unit {0}
