-- The tokens of a text, found a byte at a time.
use Rattle.std.specs.Prelude.{ℕ, ◌+◌, List, [], ◌∷◌, ◌++◌, drop}
use Rattle.lg_lex.specs.declared.marks.Class.{Class}
use Rattle.lg_lex.specs.declared.marks.Class.TheVariants.{Blank, LineEnd, Percent, Quote, Sign, Other}
use Rattle.lg_lex.specs.declared.marks.Marks.{Marks}
use Rattle.lg_lex.specs.Classes.{class_of}
use Rattle.lg_lex.specs.Tokens.{Token, sign, quoted, plain, broken}

-- between two tokens, in a comment, or in a token, with the number of bytes before it and its bytes so far
pub data Mode : Type 0 where
  between : Mode
  in_comment : Mode
  in_plain : ℕ → List ℕ → Mode
  in_quotes : ℕ → List ℕ → Mode

-- the tokens from a mode on, once the next byte is read
abbrev pub Rest : Type 0
Rest = Mode → List Token

-- a byte between two tokens
abbrev pub begun : Class → ℕ → ℕ → Rest → List Token
begun Blank b at next = next between
begun LineEnd b at next = next between
begun Percent b at next = next in_comment
begun Quote b at next = next (in_quotes at [])
begun Sign b at next = (sign b, at) ∷ next between
begun Other b at next = next (in_plain at (b ∷ []))

-- a byte of a comment
abbrev pub commented : Class → Rest → List Token
commented LineEnd next = next between
commented _ next = next in_comment

-- a byte after some of a plain token
abbrev pub plained : ℕ → List ℕ → Class → ℕ → ℕ → Rest → List Token
plained start w Other b at next = next (in_plain start (w ++ b ∷ []))
plained start w c b at next = (plain w, start) ∷ begun c b at next

-- the closing quote
abbrev pub closed : ℕ → List ℕ → Rest → List Token
closed start [] next = (broken, start) ∷ []
closed start (c ∷ w) next = (quoted (c ∷ w), start) ∷ next between

-- a byte after the opening quote
abbrev pub quoting : ℕ → List ℕ → Class → ℕ → Rest → List Token
quoting start w Quote b next = closed start w next
quoting start w LineEnd b next = (broken, start) ∷ []
quoting start w _ b next = next (in_quotes start (w ++ b ∷ []))

abbrev pub lex_step : Mode → Class → ℕ → ℕ → Rest → List Token
lex_step between c b at next = begun c b at next
lex_step in_comment c b at next = commented c next
lex_step (in_plain start w) c b at next = plained start w c b at next
lex_step (in_quotes start w) c b at next = quoting start w c b next

-- the end of the text
abbrev pub ended : Mode → List Token
ended between = []
ended in_comment = []
ended (in_plain start w) = (plain w, start) ∷ []
ended (in_quotes start w) = (broken, start) ∷ []

-- the tokens that follow in a mode, where so many bytes stand before these
abbrev pub lex : Marks → Mode → ℕ → List ℕ → List Token
lex marks m at [] = ended m
lex marks m at (b ∷ bs) = lex_step m (class_of marks b) b at (λ n. lex marks n (at + 1) bs)

-- the tokens of a text from a spot between two tokens on
abbrev pub tokens_from : Marks → List ℕ → ℕ → List Token
tokens_from marks text at = lex marks between at (drop at text)
