-- The lines of a script, and the parts of a line. Blanks are spaces and tabs.
use Rattle.std.specs.Prelude.{◌≡◌, ◌≢◌, ℕ, List, [], ◌∷◌, ◌++◌, false}
use Rattle.std.specs.List.{AllByRecursion, join_with_byte}
use Rattle.lg_lex.specs.declared.run.Separators.TheVariants.{Blanks}
use Rattle.lg_lex.specs.Classes.{line_feed, percent_sign}
use Rattle.lg_lex.specs.Runs.{is_separator, AreSeparators, AreInner, EndsRun}

-- the bytes are these lines, one or more, with a line feed between each and the next; none of them has one
pub record AreLines (lines : List (List ℕ)) (bytes : List ℕ) : Type 0 where
  pub some : lines ≢ []
  pub whole : AllByRecursion (AllByRecursion (λ b. b ≢ line_feed)) lines
  pub joined : bytes ≡ join_with_byte line_feed lines

-- what a line says: a carriage return at its end is dropped
abbrev pub carriage_return : ℕ
carriage_return = 13

pub data Says (line : List ℕ) : List ℕ → Type 0 where
  returned : (body : List ℕ) → line ≡ body ++ carriage_return ∷ [] → Says line body
  plain : ((body : List ℕ) → line ≢ body ++ carriage_return ∷ []) → Says line line

-- it begins with no blank, and does not end in one
pub record IsTrimmed (bytes : List ℕ) : Type 0 where
  pub front : (b : ℕ) (rest : List ℕ) → bytes ≡ b ∷ rest → is_separator Blanks b ≡ false
  pub back : (b : ℕ) (rest : List ℕ) → bytes ≡ rest ++ b ∷ [] → is_separator Blanks b ≡ false

-- what stands between the blanks at both ends
pub record Trims (bytes inner : List ℕ) : Type 0 where
  pub front : List ℕ
  pub back : List ℕ
  pub split : bytes ≡ front ++ (inner ++ back)
  pub blanks : AreSeparators Blanks front × AreSeparators Blanks back
  pub trimmed : IsTrimmed inner

-- a line of blanks, and a comment, are passed over
pub data IsPassedOver (body : List ℕ) : Type 0 where
  blank : AreSeparators Blanks body → IsPassedOver body
  comment : (front rest : List ℕ) → AreSeparators Blanks front → body ≡ front ++ percent_sign ∷ rest → IsPassedOver body

-- every other line is a command: its word runs to the next blank, and its rest has no blanks at both ends
pub record IsCommand (body word rest : List ℕ) : Type 0 where
  pub front : List ℕ
  pub tail : List ℕ
  pub split : body ≡ front ++ (word ++ tail)
  pub blanks : AreSeparators Blanks front
  pub some : word ≢ []
  pub inner : AreInner Blanks word
  pub no_comment : (b : List ℕ) → word ≢ percent_sign ∷ b
  pub ends : EndsRun Blanks tail
  pub trims : Trims tail rest
