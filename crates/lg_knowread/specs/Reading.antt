-- What the tokens of a knowledge text stand for, or the first of them at fault; and the same of a whole text.
use Rattle.std.specs.Prelude.{◌≡◌, ℕ, List, [], ◌∷◌, ◌++◌, map, true, Result, Ok, Err}
use Rattle.std.specs.Str.{IsValidUpTo}
use Rattle.lg_lex.specs.declared.marks.Marks.TheVariants as marks
use Rattle.lg_lex.specs.declared.location.Location.{Location}
use Rattle.lg_lex.specs.Marked.{without_mark}
use Rattle.lg_lex.specs.Spots.{location_left}
use Rattle.lg_lex.specs.Tokens.{Lexeme, Token, plain, IsText}
use Rattle.lg_knowread.specs.declared.fault.Fault.{Fault}
use Rattle.lg_knowread.specs.declared.fault.Fault.TheVariants as faults
use Rattle.lg_knowread.specs.declared.fault.KnowError.{KnowError}
use Rattle.lg_knowread.specs.declared.fault.KnowError.TheVariants.{NoMemory, NotUtf8, Syntax, UnknownSection, BadPattern, BadType}
use Rattle.lg_knowread.specs.declared.knowledge.Pattern.{Pattern}
use Rattle.lg_knowread.specs.declared.knowledge.Knowledge.{Knowledge}
use Rattle.lg_knowread.specs.Statements.{Statement, is_kind, IsPattern, AreStatements, pattern_token, kind_token, all_spelled, knowledge_of}

abbrev pub lexeme : Token → Lexeme
lexeme t = t.0

-- ---- what the tokens stand for

-- these statements are written, one after another
pub record AreWritten (ts : List Token) (ss : List Statement) : Type 0 where
  pub spells : map lexeme ts ≡ all_spelled ss
  pub statements : AreStatements ss

-- ---- the first token at fault

-- statements begin so
abbrev pub Begins : List Lexeme → Type 0
Begins front = (ss : List Statement) × (more : List Lexeme) × AreStatements ss × (front ++ more ≡ all_spelled ss)

-- statements begin so, and have this token next
abbrev pub MayFollow : List Lexeme → Lexeme → Type 0
MayFollow front x = Begins (front ++ x ∷ [])

-- whole statements
abbrev pub AreWhole : List Lexeme → Type 0
AreWhole front = (ss : List Statement) × AreStatements ss × (front ≡ all_spelled ss)

abbrev pub IsPlain : Lexeme → Type 0
IsPlain x = (w : List ℕ) × (x ≡ plain w)

-- a pattern may stand next, or a kind
abbrev pub WantsPattern : List Lexeme → Type 0
WantsPattern front = (p : Pattern) × IsPattern p × MayFollow front (pattern_token p)

abbrev pub WantsKind : List Lexeme → Type 0
WantsKind front = (kind : ℕ) × (is_kind kind ≡ true) × MayFollow front (kind_token kind)

abbrev pub IsNoPattern : List Lexeme → Lexeme → Type 0
IsNoPattern front x = IsPlain x × WantsPattern front

abbrev pub IsNoKind : List Lexeme → Lexeme → Type 0
IsNoKind front x = IsPlain x × WantsKind front

-- why this token may not follow
abbrev pub StopsAt : Fault → List Lexeme → Lexeme → Type 0
StopsAt faults.UnknownSection front x = AreWhole front
StopsAt faults.BadPattern front x = IsNoPattern front x
StopsAt faults.BadType front x = IsNoKind front x
StopsAt faults.Syntax front x = (AreWhole front → ⊥) × (IsNoPattern front x → ⊥) × (IsNoKind front x → ⊥)

-- the end of the text inside a statement is a syntax error
abbrev pub StopsAtEnd : Fault → List Lexeme → Type 0
StopsAtEnd faults.Syntax front = AreWhole front → ⊥
StopsAtEnd _ front = ⊥

abbrev pub Stops : Fault → List Lexeme → List Token → Type 0
Stops fault front [] = StopsAtEnd fault front
Stops fault front (t ∷ rest) = (MayFollow front t.0 → ⊥) × StopsAt fault front t.0

-- The first token at fault is at the head of the rest, or it is the end where there is no rest.
pub record FirstFault (ts : List Token) (fault : Fault) (rest : List Token) : Type 0 where
  pub front : List Token
  pub split : ts ≡ front ++ rest
  pub begins : Begins (map lexeme front)
  pub stops : Stops fault (map lexeme front) rest

-- ---- texts

-- the error that tells a fault at this location
abbrev pub error_at : Fault → Location → KnowError
error_at faults.Syntax p = Syntax p.line p.column
error_at faults.UnknownSection p = UnknownSection p.line
error_at faults.BadPattern p = BadPattern p.line
error_at faults.BadType p = BadType p.line

-- The text is some statements, or this error tells its first fault.
pub data KnowledgeIs (bytes : List ℕ) : Result Knowledge KnowError → Type 0 where
  not_utf8 : (n : ℕ) → IsValidUpTo bytes n → KnowledgeIs bytes (Err (NotUtf8 n))
  stands : (ts : List Token) (ss : List Statement) → IsText marks.Knowledge bytes ts → AreWritten ts ss → KnowledgeIs bytes (Ok (knowledge_of ss))
  refused : (ts : List Token) (fault : Fault) (left : List Token) → IsText marks.Knowledge bytes ts → FirstFault ts fault left
      → KnowledgeIs bytes (Err (error_at fault (location_left (without_mark bytes) left)))

-- what the reader answers, unless memory ran out
abbrev pub TellsKnowledge : List ℕ → Result Knowledge KnowError → Type 0
TellsKnowledge bytes (Err NoMemory) = Unit {0}
TellsKnowledge bytes x = KnowledgeIs bytes x
