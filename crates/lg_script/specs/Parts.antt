-- What the reader's functions say of the parts of a line.
use Rattle.std.specs.Prelude.{◌≡◌, ℕ, List, [], ◌∷◌, ◌++◌, false}
use Rattle.lg_lex.specs.declared.run.Separators.TheVariants.{Blanks}
use Rattle.lg_lex.specs.Runs.{is_separator, AreSeparators}

-- the first byte, if there is one, is no blank; and so the last one
abbrev pub BeginsInner : List ℕ → Type 0
BeginsInner bytes = (b : ℕ) (rest : List ℕ) → bytes ≡ b ∷ rest → is_separator Blanks b ≡ false

abbrev pub EndsInner : List ℕ → Type 0
EndsInner bytes = (b : ℕ) (rest : List ℕ) → bytes ≡ rest ++ b ∷ [] → is_separator Blanks b ≡ false

-- some blanks less, at the front and at the end
abbrev pub SkipsFront : List ℕ → List ℕ → Type 0
SkipsFront bytes left = (front : List ℕ) × (bytes ≡ front ++ left) × AreSeparators Blanks front

abbrev pub SkipsBack : List ℕ → List ℕ → Type 0
SkipsBack bytes left = (back : List ℕ) × (bytes ≡ left ++ back) × AreSeparators Blanks back
