-- Knowledge texts: the statements that are written, and what they say.
use Rattle.std.specs.Prelude.{◌≡◌, ◌≢◌, ℕ, List, [], ◌∷◌, ◌++◌, map, Bool, true, ◌&&◌, nat_le, codes, if◌then◌else◌}
use Rattle.std.specs.List.{flat_map, AllByRecursion}
use Rattle.lg_gram.specs.Names.{is_written}
use Rattle.lg_lex.specs.Tokens.{Lexeme, sign, plain}
use Rattle.lg_knowread.specs.declared.knowledge.Pattern.{Pattern}
use Rattle.lg_knowread.specs.declared.knowledge.Start.{Start}
use Rattle.lg_knowread.specs.declared.knowledge.Rule.{Rule}
use Rattle.lg_knowread.specs.declared.knowledge.Rule.TheVariants.{Forbid, Demand, Bounded, Cycle}
use Rattle.lg_knowread.specs.declared.knowledge.Knowledge.{Knowledge}

-- A statement as it is written. `forbids` and `demands` have whether they are grouped, the trigger and the others.
pub data Statement : Type 0 where
  starts : ℕ → List Pattern → Statement
  ignores : List Pattern → Statement
  forbids : Bool → Pattern → List Pattern → Statement
  demands : Bool → Pattern → List Pattern → Statement
  bounds : ℕ → Statement
  cycles : Pattern → Statement

-- ---- which statements may be written

-- a to z
abbrev pub is_kind : ℕ → Bool
is_kind b = nat_le 97 b && nat_le b 122

-- one capital letter or more, small letters and stars, at most 16 letters in all
abbrev pub IsPattern : Pattern → Type 0
IsPattern p = is_written p.caps p.subs ≡ true

-- one pattern or more
abbrev pub ArePatterns : List Pattern → Type 0
ArePatterns ps = (ps ≢ []) × AllByRecursion IsPattern ps

abbrev pub IsStatement : Statement → Type 0
IsStatement (starts kind ps) = (is_kind kind ≡ true) × ArePatterns ps
IsStatement (ignores ps) = ArePatterns ps
IsStatement (forbids grouped p ps) = IsPattern p × ArePatterns ps
IsStatement (demands grouped p ps) = IsPattern p × ArePatterns ps
IsStatement (bounds kind) = is_kind kind ≡ true
IsStatement (cycles p) = IsPattern p

abbrev pub AreStatements : List Statement → Type 0
AreStatements ss = AllByRecursion IsStatement ss

-- ---- how they are written

-- 58 is the colon, 59 the semicolon, 123 and 125 are the braces
abbrev pub colon : Lexeme
colon = sign 58

abbrev pub semicolon : Lexeme
semicolon = sign 59

abbrev pub opening_brace : Lexeme
opening_brace = sign 123

abbrev pub closing_brace : Lexeme
closing_brace = sign 125

-- the token of a pattern, and of a kind
abbrev pub pattern_token : Pattern → Lexeme
pattern_token p = plain (p.caps ++ p.subs)

abbrev pub kind_token : ℕ → Lexeme
kind_token kind = plain (kind ∷ [])

-- the name that a statement begins with
abbrev pub name : Statement → List ℕ
name (starts kind ps) = codes "start"
name (ignores ps) = codes "ignore"
name (forbids grouped p ps) = if grouped then codes "none-in-group" else codes "none"
name (demands grouped p ps) = if grouped then codes "one-in-group" else codes "one"
name (bounds kind) = codes "bounded"
name (cycles p) = codes "cycle"

-- patterns in braces, after the trigger
abbrev pub in_braces : Pattern → List Pattern → List Lexeme
in_braces p ps = pattern_token p ∷ opening_brace ∷ (map pattern_token ps ++ closing_brace ∷ [])

-- what stands between its colon and its semicolon
abbrev pub body : Statement → List Lexeme
body (starts kind ps) = kind_token kind ∷ map pattern_token ps
body (ignores ps) = map pattern_token ps
body (forbids grouped p ps) = in_braces p ps
body (demands grouped p ps) = in_braces p ps
body (bounds kind) = kind_token kind ∷ []
body (cycles p) = pattern_token p ∷ []

-- the tokens of a statement, and of some
abbrev pub spelled : Statement → List Lexeme
spelled s = plain (name s) ∷ colon ∷ (body s ++ semicolon ∷ [])

abbrev pub all_spelled : List Statement → List Lexeme
all_spelled ss = flat_map spelled ss

-- ---- what they say

abbrev pub start : ℕ → Pattern → Start
start kind p = record { kind = kind; pattern = p }

-- a start for each pattern
abbrev pub starts_of : Statement → List Start
starts_of (starts kind ps) = map (start kind) ps
starts_of _ = []

abbrev pub ignored_of : Statement → List Pattern
ignored_of (ignores ps) = ps
ignored_of _ = []

abbrev pub rules_of : Statement → List Rule
rules_of (forbids grouped p ps) = Forbid grouped p ps ∷ []
rules_of (demands grouped p ps) = Demand grouped p ps ∷ []
rules_of (bounds kind) = Bounded kind ∷ []
rules_of (cycles p) = Cycle p ∷ []
rules_of _ = []

-- the starts, the ignored patterns and the rules, each in the order of the text
abbrev pub knowledge_of : List Statement → Knowledge
knowledge_of ss = record { starts = flat_map starts_of ss; ignored = flat_map ignored_of ss; rules = flat_map rules_of ss }
