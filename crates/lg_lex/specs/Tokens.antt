-- What a text is made of: gaps and tokens in turn.
use Rattle.std.specs.Prelude.{◌≡◌, ◌≢◌, ◌==◌, ℕ, ◌+◌, Bool, List, [], ◌∷◌, ◌++◌, length, ◌⊎◌}
use Rattle.std.specs.Cmp.Lexicographic.{pointwise}
use Rattle.std.specs.List.{flat_map, AllByRecursion}
use Rattle.std.specs.Str.{IsUtf8}
use Rattle.lg_lex.specs.declared.marks.Class.TheVariants.{Blank, LineEnd, Percent, Quote, Sign, Other}
use Rattle.lg_lex.specs.declared.marks.Marks.{Marks}
use Rattle.lg_lex.specs.Classes.{line_feed, percent_sign, quotation_mark, class_of}
use Rattle.lg_lex.specs.Marked.{without_mark}

-- a sign, what stands in quotes, a plain run of bytes, or a quote that is closed at once or not on its line
pub data Lexeme : Type 0 where
  sign : ℕ → Lexeme
  quoted : List ℕ → Lexeme
  plain : List ℕ → Lexeme
  broken : Lexeme

-- a token of a text, and the number of bytes before it
abbrev pub Token : Type 0
Token = Lexeme × ℕ

-- the word is this text
abbrev pub is_text : List ℕ → List ℕ → Bool
is_text text w = pointwise ◌==◌ w text

-- what stands between tokens: a byte of white space, or a comment with the line feed that ends it
pub data Skip : Type 0 where
  space : ℕ → Skip
  comment : List ℕ → Skip

-- the bytes of a skip, and of the skips of a gap
abbrev pub skip_text : Skip → List ℕ
skip_text (space b) = b ∷ []
skip_text (comment c) = percent_sign ∷ (c ++ line_feed ∷ [])

abbrev pub gap_text : List Skip → List ℕ
gap_text gap = flat_map skip_text gap

-- no line feed is among the bytes
abbrev pub IsInLine : Marks → List ℕ → Type 0
IsInLine marks bs = AllByRecursion (λ b. class_of marks b ≢ LineEnd) bs

abbrev pub IsSkip : Marks → Skip → Type 0
IsSkip marks (space b) = (class_of marks b ≡ Blank) ⊎ (class_of marks b ≡ LineEnd)
IsSkip marks (comment c) = IsInLine marks c

abbrev pub IsGap : Marks → List Skip → Type 0
IsGap marks gap = AllByRecursion (IsSkip marks) gap

-- what may stand after the last gap: nothing, or a comment that the end of the text ends
abbrev pub IsTail : Marks → List ℕ → Type 0
IsTail marks [] = Unit {0}
IsTail marks (b ∷ bs) = (class_of marks b ≡ Percent) × IsInLine marks bs

-- bytes of a plain token alone
abbrev pub ArePlain : Marks → List ℕ → Type 0
ArePlain marks bs = AllByRecursion (λ b. class_of marks b ≡ Other) bs

-- a plain token that stands before these bytes goes on as far as it can
abbrev pub EndsPlain : Marks → List ℕ → Type 0
EndsPlain marks [] = Unit {0}
EndsPlain marks (b ∷ bs) = class_of marks b ≢ Other

-- bytes that may stand in quotes alone
abbrev pub AreInside : Marks → List ℕ → Type 0
AreInside marks bs = AllByRecursion (λ b. (class_of marks b ≢ Quote) × (class_of marks b ≢ LineEnd)) bs

-- a line that stands before these bytes ends there
abbrev pub EndsLine : Marks → List ℕ → Type 0
EndsLine marks [] = Unit {0}
EndsLine marks (b ∷ bs) = class_of marks b ≡ LineEnd

-- no quote stands on the first line of these bytes
abbrev pub IsUnclosed : Marks → List ℕ → Type 0
IsUnclosed marks bs = (line : List ℕ) × (rest : List ℕ)
    × AreInside marks line × EndsLine marks rest × (bs ≡ line ++ rest)

-- a quote that stands before these bytes is closed at once
abbrev pub IsClosedAtOnce : Marks → List ℕ → Type 0
IsClosedAtOnce marks [] = ⊥
IsClosedAtOnce marks (b ∷ bs) = class_of marks b ≡ Quote

-- the token is written as text, where rest follows it
abbrev pub Spells : Marks → Lexeme → List ℕ → List ℕ → Type 0
Spells marks (sign b) text rest = (class_of marks b ≡ Sign) × (text ≡ b ∷ [])
Spells marks (quoted w) text rest = (class_of marks quotation_mark ≡ Quote) × (w ≢ []) × AreInside marks w
    × (text ≡ quotation_mark ∷ (w ++ quotation_mark ∷ []))
Spells marks (plain w) text rest = (w ≢ []) × ArePlain marks w × EndsPlain marks rest × (text ≡ w)
Spells marks broken text rest = (class_of marks quotation_mark ≡ Quote)
    × (IsClosedAtOnce marks rest ⊎ IsUnclosed marks rest) × (text ≡ quotation_mark ∷ [])

-- a broken token ends the list, and after any other token the list goes on
abbrev pub AfterToken : Lexeme → Type 0 → Type 0 → Type 0
AfterToken (sign b) ends goes_on = goes_on
AfterToken (quoted w) ends goes_on = goes_on
AfterToken (plain w) ends goes_on = goes_on
AfterToken broken ends goes_on = ends

-- the tokens of a text, each with the number of bytes before it, where so many bytes stand before the text
abbrev pub AreTokens : Marks → List Token → ℕ → List ℕ → Type 0
AreTokens marks [] before bytes = (gap : List Skip) × (tail : List ℕ)
    × IsGap marks gap × IsTail marks tail × (bytes ≡ gap_text gap ++ tail)
AreTokens marks (t ∷ ts) before bytes = (gap : List Skip) × (text : List ℕ) × (rest : List ℕ)
    × IsGap marks gap × Spells marks t.0 text rest
    × (bytes ≡ gap_text gap ++ (text ++ rest)) × (t.1 ≡ before + length (gap_text gap))
    × AfterToken t.0 (ts ≡ []) (AreTokens marks ts (t.1 + length text) rest)

-- a text of bytes is UTF-8, and has these tokens after a byte order mark, from which locations count
pub record IsText (marks : Marks) (bytes : List ℕ) (ts : List Token) : Type 0 where
  pub utf8 : IsUtf8 bytes
  pub tokens : AreTokens marks ts 0 (without_mark bytes)

-- the bytes that the token quotes, or that it is, are UTF-8
abbrev pub HasUtf8 : Lexeme → Type 0
HasUtf8 (sign b) = Unit {0}
HasUtf8 (quoted w) = IsUtf8 w
HasUtf8 (plain w) = IsUtf8 w
HasUtf8 broken = Unit {0}
