-- What the token that a search finds stands for.
use Rattle.std.specs.Prelude.{ℕ, ◌+◌, List, [], length}
use Rattle.lg_lex.specs.declared.marks.Class.{Class}
use Rattle.lg_lex.specs.declared.marks.Class.TheVariants.{Blank, LineEnd, Percent, Quote, Sign, Other}
use Rattle.lg_lex.specs.declared.token.Token.{Token}
use Rattle.lg_lex.specs.declared.token.Token.TheVariants as tokens
use Rattle.lg_lex.specs.Tokens.{Lexeme, sign, quoted, plain, broken}

-- a token begins with a byte of this class
abbrev pub BeginsToken : Class → Type 0
BeginsToken Blank = ⊥
BeginsToken LineEnd = ⊥
BeginsToken Percent = ⊥
BeginsToken Quote = Unit {0}
BeginsToken Sign = Unit {0}
BeginsToken Other = Unit {0}

abbrev pub lexeme_of : Token → Lexeme
lexeme_of (tokens.Sign b) = sign b
lexeme_of (tokens.Quoted w) = quoted w.now
lexeme_of (tokens.Plain w) = plain w.now
lexeme_of tokens.Broken = broken

-- the tokens that follow it: none where it is broken
abbrev pub following : Token → List (Lexeme × ℕ) → List (Lexeme × ℕ)
following (tokens.Sign b) rest = rest
following (tokens.Quoted w) rest = rest
following (tokens.Plain w) rest = rest
following tokens.Broken rest = []

-- the number of its bytes: a quoted token has its two quotes, and a broken one is its quote alone
abbrev pub width : Token → ℕ
width (tokens.Sign b) = 1
width (tokens.Quoted w) = length w.now + 2
width (tokens.Plain w) = length w.now
width tokens.Broken = 1
