-- Which token writes which part of an expression.
use Rattle.std.specs.Prelude.{◌≡◌, ◌≢◌, ℕ, List, [], ◌∷◌, ◌++◌, Bool, true, false, ℤ, ◌⊎◌, IsTrue, nat_le, ◌==◌, ◌&&◌, ◌||◌, codes}
use Rattle.lg_base.specs.Costs.{IsCostNumber}
use Rattle.lg_gram.specs.Names.{is_written, trimmed}
use Rattle.lg_gram.specs.Connectors.{Connector}
use Rattle.lg_lex.specs.Tokens.{Lexeme, sign, plain}
use Rattle.lg_expr.specs.declared.part.Operator.TheVariants.{And, Or}
use Rattle.lg_expr.specs.declared.part.Bracket.TheVariants.{Round, Curly, Square}
use Rattle.lg_expr.specs.Parts.{Part, connects, names, operates, opens, closes, number, no_number, ends, wrong}

-- `@` where a connector may take several links
abbrev pub at_text : Bool → List ℕ
at_text true = codes "@"
at_text false = []

-- its direction
abbrev pub sign_text : Bool → List ℕ
sign_text true = codes "+"
sign_text false = codes "-"

-- The word writes the connector: an `@` or none, one capital letter or more, small letters and stars, at most 16 letters
-- in all, and a sign. The connector has no star at its end.
pub record WritesConnector (w : List ℕ) (c : Connector) : Type 0 where
  pub caps : List ℕ
  pub subs : List ℕ
  pub spells : w ≡ at_text c.multi ++ (caps ++ (subs ++ sign_text c.right))
  pub written : is_written caps subs ≡ true
  pub caps_are : c.caps ≡ caps
  pub subs_are : c.subs ≡ trimmed subs

-- in angle brackets, with at least one byte between
abbrev pub IsMacroName : List ℕ → Type 0
IsMacroName m = (inner : List ℕ) × (inner ≢ []) × (m ≡ codes "<" ++ (inner ++ codes ">"))

-- a digit, `.` or `-`
abbrev pub begins_number : List ℕ → Bool
begins_number [] = false
begins_number (b ∷ bs) = (nat_le 48 b && nat_le b 57) || (b == 46 || b == 45)

-- The token writes the part. No token writes `wrong`, which stands for all other tokens.
abbrev pub Writes : Lexeme → Part → Type 0
Writes x (connects c) = (w : List ℕ) × (x ≡ plain w) × WritesConnector w c
Writes x (names m) = (x ≡ plain m) × IsMacroName m
Writes x (operates And) = (x ≡ plain (codes "and")) ⊎ (x ≡ sign 38)
Writes x (operates Or) = (x ≡ plain (codes "or")) ⊎ (x ≡ sign 124)
Writes x (opens Round) = x ≡ sign 40
Writes x (opens Curly) = x ≡ sign 123
Writes x (opens Square) = x ≡ sign 91
Writes x (closes Round) = x ≡ sign 41
Writes x (closes Curly) = x ≡ sign 125
Writes x (closes Square) = x ≡ sign 93
Writes x (number cost) = (w : List ℕ) × (x ≡ plain w) × IsCostNumber w cost
Writes x no_number = (w : List ℕ) × (x ≡ plain w) × IsTrue (begins_number w) × ((cost : ℤ) → ¬ IsCostNumber w cost)
Writes x ends = x ≡ sign 59
Writes x wrong = ⊥
