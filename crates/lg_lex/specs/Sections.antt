-- Sections of a text whose tokens are the same wherever they stand.
use Rattle.std.specs.Prelude.{◌≡◌, ℕ, ◌+◌, List, [], ◌∷◌, ◌++◌, Bool, true, false}
use Rattle.std.specs.List.{AllByRecursion}
use Rattle.lg_lex.specs.declared.marks.Class.{Class}
use Rattle.lg_lex.specs.declared.marks.Class.TheVariants.{Percent, Quote, Sign}
use Rattle.lg_lex.specs.declared.marks.Marks.{Marks}
use Rattle.lg_lex.specs.Classes.{class_of}
use Rattle.lg_lex.specs.Tokens.{Token}

-- it neither begins a comment nor quotes
abbrev pub is_bare_class : Class → Bool
is_bare_class Percent = false
is_bare_class Quote = false
is_bare_class _ = true

abbrev pub is_bare : Marks → ℕ → Bool
is_bare marks b = is_bare_class (class_of marks b)

abbrev pub AreBare : Marks → List ℕ → Type 0
AreBare marks bs = AllByRecursion (λ b. is_bare marks b ≡ true) bs

-- it has no comment and no quote, and ends in a sign
pub record IsClosed (marks : Marks) (section : List ℕ) : Type 0 where
  pub front : List ℕ
  pub last : ℕ
  pub is : section ≡ front ++ last ∷ []
  pub bare : AreBare marks front
  pub sign : class_of marks last ≡ Sign

-- this byte is its last, and stands nowhere before
abbrev pub EndsIn : ℕ → List ℕ → Type 0
EndsIn last section = (front : List ℕ) × (section ≡ front ++ last ∷ []) × AllByRecursion (λ b. b ≡ last → ⊥) front

-- the byte does not stand in the text, or a comment or a quote begins before it does
abbrev pub NoSection : Marks → ℕ → List ℕ → Type 0
NoSection marks last bytes = (front rest : List ℕ) → AreBare marks front → bytes ≡ front ++ last ∷ rest → ⊥

-- the token of a section, where so many bytes stand before the section
abbrev pub moved : ℕ → Token → Token
moved before t = (t.0, before + t.1)
