-- What the text of a dictionary stands for: its entries, or its first fault.
--   text := entry*
use Rattle.std.specs.Prelude.{◌≡◌, ◌≢◌, ℕ, ◌<◌, ◌≤◌, min, List, [], ◌∷◌, ◌++◌, Some, None, map, if◌then◌else◌}
use Rattle.std.specs.List.{list_any}
use Rattle.std.specs.Str.{IsValidUpTo}
use Rattle.lg_base.specs.Contents.{Contents}
use Rattle.lg_gram.specs.Filled.{Formulas, filled, filled_level}
use Rattle.lg_gram.specs.Limits.{FORMULA_NODES, FORMULA_CHOICES, SIDE, COUNTED, SIDE_COUNTED, LEVEL}
use Rattle.lg_gram.specs.Measures.{node_count, choice_count}
pub use Rattle.lg_gram.specs.Measured.{longest_side, IsSmall}
use Rattle.lg_gram.specs.Trees.{Tree}
use Rattle.lg_lex.specs.declared.marks.Marks.TheVariants.{Dictionary}
use Rattle.lg_lex.specs.declared.location.Location.{Location}
use Rattle.lg_lex.specs.Marked.{without_mark}
use Rattle.lg_lex.specs.Tokens.{Token, IsText}
use Rattle.lg_lex.specs.Spots.{location_left}
use Rattle.lg_expr.specs.declared.fault.Fault as expr_fault
use Rattle.lg_expr.specs.declared.fault.Fault.TheVariants as faults
use Rattle.lg_expr.specs.Fits.{known_as}
use Rattle.lg_expr.specs.Grammar.{Rules}
use Rattle.lg_expr.specs.Parts.{Part, names}
use Rattle.lg_dictread.specs.declared.dict_error.DictError.{DictError}
use Rattle.lg_dictread.specs.declared.dict_error.DictError.TheVariants.{NotUtf8, Syntax, UnknownMacro, CostForm, TooDeep, TooManyNodes, TooManyChoices, SideTooLong}
use Rattle.lg_dictread.specs.Findings.{Asked, names_of, AreIn}
use Rattle.lg_dictread.specs.Entries.{Written, EntryStands, EntryFault}
use Rattle.lg_dictread.specs.Lines.{part_left, line_of, entry_line}
use Rattle.lg_dictread.specs.Definitions.{same_text, Defined, none_defined, both, define, refuse_items, ItemsGive}

-- what was read before: every word and macro with its line, and what each macro stands for
pub record Earlier : Type 0 where
  pub defined : Defined
  pub formulas : Formulas

abbrev pub nothing : Earlier
nothing = record { defined = none_defined; formulas = λ name. None }

-- a macro that is defined counts as one bracket round its own
abbrev pub rules_after : Earlier → Rules
rules_after earlier = record { known = λ name. known_as (earlier.formulas name); limit = LEVEL }

-- an entry as it is meant: its words, those of its word files too, its macros, its formula with macros put in, the
-- greatest number of brackets open at once, and its line
pub record Meaning : Type 0 where
  pub words : List (List ℕ)
  pub macros : List (List ℕ)
  pub formula : Tree
  pub level : ℕ
  pub line : ℕ

-- what an entry means that is written so, where its items define so much
abbrev pub meaning_of : List ℕ → Earlier → Written → Defined → Meaning
meaning_of text earlier e new = record {
  words = map (λ d. d.0) new.words;
  macros = map (λ d. d.0) new.macros;
  formula = filled earlier.formulas e.expr;
  level = filled_level earlier.formulas e.level e.expr;
  line = entry_line text e.items;
}

-- after an entry its macros stand for its formula
abbrev pub then_entry : Earlier → Defined → Meaning → Earlier
then_entry earlier new m = record {
  defined = both earlier.defined new;
  formulas = λ name. if list_any (same_text name) m.macros then Some (m.formula, m.level) else earlier.formulas name;
}

-- the first measure that the formula of an entry on this line passes, with what was counted
pub data IsLarge (t : Tree) (line : ℕ) : DictError → Type 0 where
  nodes : FORMULA_NODES < node_count t → IsLarge t line (TooManyNodes line (min (node_count t) COUNTED))
  choices : node_count t ≤ FORMULA_NODES → FORMULA_CHOICES < choice_count t → IsLarge t line (TooManyChoices line (min (choice_count t) COUNTED))
  side : node_count t ≤ FORMULA_NODES → choice_count t ≤ FORMULA_CHOICES → SIDE < longest_side t → IsLarge t line (SideTooLong line (min (longest_side t) SIDE_COUNTED))

-- the error that tells a fault at the token that stands here and is this part of an expression
abbrev pub IsErrorOf : Location → Part → expr_fault.Fault → DictError → Type 0
IsErrorOf p q faults.Syntax error = error ≡ Syntax p.line p.column
IsErrorOf p q faults.CostForm error = error ≡ CostForm p.line
IsErrorOf p q faults.UnknownMacro error = (m : List ℕ) × (q ≡ names m) × (error ≡ UnknownMacro p.line m)
IsErrorOf p q faults.TooDeep error = error ≡ TooDeep p.line

-- what one entry gives: what it means and defines, and the tokens after it; or the first fault
pub data EntryOutcome : Type 0 where
  means : Meaning → Defined → List Token → EntryOutcome
  fails : DictError → EntryOutcome

-- The entry at the front of the tokens: the word files that are asked for, in order, with what was found, and what it gives.
pub data EntryGives (text : List ℕ) (earlier : Earlier) (ts : List Token) : List Asked → EntryOutcome → Type 0 where
  whole : (e : Written) (rest : List Token) (asked : List Asked) (new : Defined)
      → EntryStands (rules_after earlier) ts e rest → IsSmall (filled earlier.formulas e.expr)
      → ItemsGive earlier.defined (map (λ i. (i.0, line_of text i)) e.items) asked (define new)
      → EntryGives text earlier ts asked (means (meaning_of text earlier e new) new rest)
  at_fault : (f : expr_fault.Fault) (left : List Token) (error : DictError)
      → EntryFault (rules_after earlier) ts f left → IsErrorOf (location_left text left) (part_left left) f error
      → EntryGives text earlier ts [] (fails error)
  large : (e : Written) (rest : List Token) (error : DictError)
      → EntryStands (rules_after earlier) ts e rest → IsLarge (filled earlier.formulas e.expr) (entry_line text e.items) error
      → EntryGives text earlier ts [] (fails error)
  at_items : (e : Written) (rest : List Token) (asked : List Asked) (error : DictError)
      → EntryStands (rules_after earlier) ts e rest → IsSmall (filled earlier.formulas e.expr)
      → ItemsGive earlier.defined (map (λ i. (i.0, line_of text i)) e.items) asked (refuse_items error)
      → EntryGives text earlier ts asked (fails error)

-- what a text stands for, or its first fault
pub data TextAnswer : Type 0 where
  stands : List Meaning → TextAnswer
  refuse : DictError → TextAnswer

-- with an entry in front
abbrev pub with_meaning : Meaning → TextAnswer → TextAnswer
with_meaning m (stands ms) = stands (m ∷ ms)
with_meaning m (refuse error) = refuse error

-- The tokens of a text, after what was read before: the word files that are asked for, in order, with what was found, and
-- the answer. The entries are read one after another, so that a macro may be named from the next entry on.
pub data TextIs (text : List ℕ) : Earlier → List Token → List Asked → TextAnswer → Type 0 where
  ended : (earlier : Earlier) → TextIs text earlier [] [] (stands [])
  entry : (earlier : Earlier) (ts rest : List Token) (asked more : List Asked) (m : Meaning) (new : Defined) (answer : TextAnswer)
      → ts ≢ [] → EntryGives text earlier ts asked (means m new rest)
      → TextIs text (then_entry earlier new m) rest more answer
      → TextIs text earlier ts (asked ++ more) (with_meaning m answer)
  fault : (earlier : Earlier) (ts : List Token) (asked : List Asked) (error : DictError)
      → ts ≢ [] → EntryGives text earlier ts asked (fails error)
      → TextIs text earlier ts asked (refuse error)

-- A dictionary file: the word files that are asked for, in order, with what was found, and the answer.
pub data DictionaryGives (bytes : List ℕ) : List Asked → TextAnswer → Type 0 where
  not_utf8 : (n : ℕ) → IsValidUpTo bytes n → DictionaryGives bytes [] (refuse (NotUtf8 n))
  text : (ts : List Token) (asked : List Asked) (answer : TextAnswer) → IsText Dictionary bytes ts
      → TextIs (without_mark bytes) nothing ts asked answer → DictionaryGives bytes asked answer

-- A dictionary file, where word files have these contents: the names that are asked for, in order, and the answer.
pub record DictionaryIs (contents : Contents) (bytes : List ℕ) (names : List (List ℕ)) (answer : TextAnswer) : Type 0 where
  pub asked : List Asked
  pub names_are : names ≡ names_of asked
  pub found : AreIn contents asked
  pub gives : DictionaryGives bytes asked answer
