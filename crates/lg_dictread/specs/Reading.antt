-- What the reader of a text holds, and how it tells the entries.
use Rattle.std.specs.Prelude.{◌≡◌, ◌⊎◌, ℕ, ◌<◌, List, [], ◌∷◌, ◌++◌, map, length, Option, Some, None, IfSome, IsSomeAnd, slice_get, Result, Ok, Err}
use Rattle.std.specs.Borrow.{Bor}
use Rattle.std.specs.List.{AllByRecursion, flat_map}
use Rattle.std.specs.Map.{lookup}
use Rattle.std.specs.Option.{option_map}
use Rattle.lg_gram.specs.declared.entry.Entry.{Entry}
use Rattle.lg_gram.specs.Filled.{Formulas}
use Rattle.lg_gram.specs.Trees.{Tree, tree_of}
use Rattle.lg_base.specs.Contents.{Contents}
use Rattle.lg_lex.specs.declared.marks.Marks.TheVariants.{Dictionary}
use Rattle.lg_lex.specs.Lexing.{tokens_from}
use Rattle.lg_lex.specs.Tokens.{HasUtf8, Token}
use Rattle.lg_lex.specs.declared.spot.Spot.{Spot}
use Rattle.lg_expr.specs.Fits.{Fits}
use Rattle.lg_dictread.specs.declared.dict_error.DictError.{DictError}
use Rattle.lg_dictread.specs.declared.dict_error.DictError.TheVariants as errors
use Rattle.lg_dictread.specs.declared.stop.Stop.{Stop}
use Rattle.lg_dictread.specs.declared.stop.Stop.TheVariants as stops
use Rattle.lg_dictread.specs.Telling.{Determined, Answers, AsksFront, UnlessMemory, ErrorTells}
use Rattle.lg_dictread.specs.declared.define.Names.{Names}
use Rattle.lg_dictread.specs.declared.earlier.Earlier as code_earlier
use Rattle.lg_dictread.specs.Definitions.{same_text, Lines, AreNew, Defined}
use Rattle.lg_dictread.specs.Tables.{text_entries}
use Rattle.lg_dictread.specs.Texts.{Earlier, Meaning, then_entry, EntryOutcome, means, fails, EntryGives}
use Rattle.lg_dictread.specs.DictTexts.{entry_meaning}
use Rattle.lg_dictread.specs.Recalling.{Writes}
use Rattle.lg_dictread.specs.Defining.{names_in, defined_in}

abbrev pub entry_formula : Entry → Tree × ℕ
entry_formula e = (tree_of e.formula, e.level)

-- what the entry of that number has, if there is one
abbrev pub formula_at : List Entry → Option ℕ → Option (Tree × ℕ)
formula_at entries None = None
formula_at entries (Some number) = option_map entry_formula (slice_get entries number)

abbrev pub number_of_macro : code_earlier.Earlier → List ℕ → Option ℕ
number_of_macro e name = lookup (same_text name) (text_entries e.formulas)

abbrev pub number_of_section : code_earlier.Earlier → List ℕ → Option ℕ
number_of_section e section = lookup (same_text section) (text_entries e.sections)

abbrev pub formulas_of : code_earlier.Earlier → Formulas
formulas_of e name = formula_at e.entries.items (number_of_macro e name)

-- what was read, as the definition of texts has it
abbrev pub earlier_of : code_earlier.Earlier → Earlier
earlier_of e = record { defined = defined_in e.tables; formulas = formulas_of e }

-- what an entry means that defines these names and has this formula
abbrev pub named_meaning : Names → Tree → ℕ → ℕ → Meaning
named_meaning names formula level line = record {
  words = names.words.items;
  macros = names.macros.items;
  formula = formula;
  level = level;
  line = line;
}

-- the text is recalled as before, or it is the section that is recalled from now on
abbrev pub RecallsAt : Lines → Lines → Option (Bor (List ℕ)) → ℕ → List ℕ → Type 0
RecallsAt old new section number text =
    (lookup (same_text text) new ≡ lookup (same_text text) old)
    ⊎ ((lookup (same_text text) new ≡ Some number) × IsSomeAnd section (λ s. s.now ≡ text))

-- each macro's entry is there, each entry's formula keeps to its level, and each section that is recalled writes the formula
-- of an entry that is there
pub record IsKept (e : code_earlier.Earlier) : Type 0 where
  pub numbers : (name : List ℕ) → IfSome (number_of_macro e name) (λ number. number < length e.entries.items)
  pub fits : AllByRecursion (λ x. Fits x.level (tree_of x.formula)) e.entries.items
  pub sections : (section : List ℕ) → IfSome (number_of_section e section) (λ number. number < length e.entries.items)
  pub written : (section : List ℕ) → IfSome (formula_at e.entries.items (number_of_section e section)) (λ m. Writes (formulas_of e) section m.0 m.1)

-- no name is defined twice, and the entries list them all
pub record AreListed (defined : Lines) (names : List (List ℕ)) : Type 0 where
  pub are_new : AreNew [] defined
  pub listed : names ≡ names_in defined

pub record ListsAll (e : code_earlier.Earlier) : Type 0 where
  pub words : AreListed (defined_in e.tables).words (flat_map (λ x. x.words) e.entries.items)
  pub macros : AreListed (defined_in e.tables).macros (flat_map (λ x. x.macros) e.entries.items)

-- the error that tells a stop
abbrev pub TellsStopBy : Stop → DictError → Type 0
TellsStopBy stops.NoMemory error = error ≡ errors.NoMemory
TellsStopBy (stops.Syntax location) error = error ≡ errors.Syntax location.line location.column
TellsStopBy (stops.CostForm line) error = error ≡ errors.CostForm line
TellsStopBy (stops.UnknownMacro line name) error = UnlessMemory (λ e. e ≡ errors.UnknownMacro line name.now) error
TellsStopBy (stops.TooDeep line) error = error ≡ errors.TooDeep line

-- each token is UTF-8
abbrev pub AreUtf8 : List Token → Type 0
AreUtf8 ts = AllByRecursion (λ t. HasUtf8 t.0) ts

-- what the entry at the front of the tokens gives, after what was read before
abbrev pub NextIs : List ℕ → Earlier → List Token → Determined EntryOutcome
NextIs text earlier ts asked outcome = EntryGives text earlier ts asked outcome

-- one entry more, which means this and defines so much
pub record AddsEntry (old now : code_earlier.Earlier) (m : Meaning) (new : Defined) : Type 0 where
  pub earlier : earlier_of now ≡ then_entry (earlier_of old) new m
  pub entries : map entry_meaning now.entries.items ≡ map entry_meaning old.entries.items ++ m ∷ []

-- the entry is read, or an error is told
abbrev pub TellsNext : Option Contents → List ℕ → List Token → List (List ℕ) → List (List ℕ) → code_earlier.Earlier → code_earlier.Earlier → Result Spot DictError → Type 0
TellsNext known text ts asked more old now (Ok end) = (m : Meaning) × (new : Defined) × AddsEntry old now m new
    × Answers known (NextIs text (earlier_of old) ts) asked more (means m new (tokens_from Dictionary text end.at))
TellsNext known text ts asked more old now (Err error) =
    let is = NextIs text (earlier_of old) ts in ErrorTells (AsksFront known is asked more) known is fails asked more error
