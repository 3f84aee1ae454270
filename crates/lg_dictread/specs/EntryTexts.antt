-- What a text of exactly one entry stands for, or its first fault. Macros stay as they are named.
use Rattle.std.specs.Prelude.{◌≡◌, ℕ, List, [], ◌∷◌, map, Result, Ok, Err}
use Rattle.std.specs.Str.{IsUtf8, IsValidUpTo}
use Rattle.lg_gram.specs.declared.entry.RawEntry.{RawEntry}
use Rattle.lg_gram.specs.EntryViews.{EntryView, entry_view}
use Rattle.lg_lex.specs.declared.marks.Marks.TheVariants.{Dictionary}
use Rattle.lg_lex.specs.declared.location.Location.{Location}
use Rattle.lg_lex.specs.Tokens.{Token, AreTokens}
use Rattle.lg_lex.specs.Spots.{location_left}
use Rattle.lg_expr.specs.declared.fault.Fault as expr_fault
use Rattle.lg_expr.specs.declared.fault.Fault.TheVariants as faults
use Rattle.lg_expr.specs.declared.macros.Known.TheVariants.{Free}
use Rattle.lg_expr.specs.Grammar.{Rules}
use Rattle.lg_dictread.specs.declared.entry_text.EntryError.{EntryError}
use Rattle.lg_dictread.specs.declared.entry_text.EntryError.TheVariants.{NoMemory, NotUtf8, Syntax, CostForm, TooDeep}
use Rattle.lg_gram.specs.Limits.{LEVEL}
use Rattle.lg_dictread.specs.Entries.{Written, EntryStands, EntryFault}
use Rattle.lg_dictread.specs.Lines.{entry_line}

-- each macro may be named, at any depth
abbrev pub free_rules : Rules
free_rules = record { known = λ name. Free; limit = LEVEL }

-- what contracts see of an entry that is written in a text
abbrev pub written_view : List ℕ → Written → EntryView
written_view text e = record {
  items = map (λ i. i.0) e.items;
  expr = e.expr;
  level = e.level;
  line = entry_line text e.items;
}

-- the error that tells a fault at this location; no macro is unknown
abbrev pub IsErrorAt : Location → expr_fault.Fault → EntryError → Type 0
IsErrorAt p faults.Syntax error = error ≡ Syntax p.line p.column
IsErrorAt p faults.CostForm error = error ≡ CostForm p.line
IsErrorAt p faults.UnknownMacro error = ⊥
IsErrorAt p faults.TooDeep error = error ≡ TooDeep p.line

-- The text is UTF-8 and has these tokens. It is no file, so that a byte order mark at its front is part of its first token.
pub record AreTokensOf (bytes : List ℕ) (ts : List Token) : Type 0 where
  pub utf8 : IsUtf8 bytes
  pub tokens : AreTokens Dictionary ts 0 bytes

-- The text has one entry and nothing after it, or this error tells its first fault.
pub data EntryTextIs (bytes : List ℕ) : Result EntryView EntryError → Type 0 where
  not_utf8 : (n : ℕ) → IsValidUpTo bytes n → EntryTextIs bytes (Err (NotUtf8 n))
  one : (ts : List Token) (e : Written) → AreTokensOf bytes ts → EntryStands free_rules ts e [] → EntryTextIs bytes (Ok (written_view bytes e))
  goes_on : (ts : List Token) (e : Written) (t : Token) (rest : List Token) (error : EntryError) → AreTokensOf bytes ts → EntryStands free_rules ts e (t ∷ rest)
      → IsErrorAt (location_left bytes (t ∷ rest)) faults.Syntax error → EntryTextIs bytes (Err error)
  faulty : (ts : List Token) (f : expr_fault.Fault) (left : List Token) (error : EntryError) → AreTokensOf bytes ts → EntryFault free_rules ts f left
      → IsErrorAt (location_left bytes left) f error → EntryTextIs bytes (Err error)

-- what the reader answers, unless memory ran out
abbrev pub TellsEntryText : List ℕ → Result RawEntry EntryError → Type 0
TellsEntryText bytes (Ok e) = EntryTextIs bytes (Ok (entry_view e))
TellsEntryText bytes (Err NoMemory) = Unit {0}
TellsEntryText bytes (Err error) = EntryTextIs bytes (Err error)
