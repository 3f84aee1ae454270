-- What a byte means in a dictionary text and in a knowledge text.
use Rattle.std.specs.Prelude.{ℕ, Bool, false, if◌then◌else◌, ◌==◌, List, [], ◌∷◌, codes}
use Rattle.std.specs.List.{list_any}
use Rattle.lg_lex.specs.declared.marks.Class.{Class}
use Rattle.lg_lex.specs.declared.marks.Class.TheVariants.{Blank, LineEnd, Percent, Quote, Sign, Other}
use Rattle.lg_lex.specs.declared.marks.Marks.{Marks}
use Rattle.lg_lex.specs.declared.marks.Marks.TheVariants.{Dictionary, Knowledge}

abbrev pub line_feed : ℕ
line_feed = 10

abbrev pub percent_sign : ℕ
percent_sign = 37

abbrev pub quotation_mark : ℕ
quotation_mark = 34

-- the byte is one of these characters
abbrev pub is_one_of : List ℕ → ℕ → Bool
is_one_of cs b = list_any (λ c. b == c) cs

-- a space, a tab, a carriage return or a form feed
abbrev pub is_blank : ℕ → Bool
is_blank b = is_one_of (32 ∷ 9 ∷ 13 ∷ 12 ∷ []) b

-- a token by itself
abbrev pub is_sign : Marks → ℕ → Bool
is_sign Dictionary b = is_one_of (codes "(){}[]&|:;") b
is_sign Knowledge b = is_one_of (codes ":;{}") b

-- the mark that quotes a word, which only a dictionary text has
abbrev pub is_quote : Marks → ℕ → Bool
is_quote Dictionary b = b == quotation_mark
is_quote Knowledge b = false

-- what a byte means where a token may begin
abbrev pub class_of : Marks → ℕ → Class
class_of marks b =
    if b == line_feed then LineEnd
    else (if is_blank b then Blank
    else (if b == percent_sign then Percent
    else (if is_quote marks b then Quote
    else (if is_sign marks b then Sign
    else Other))))
