-- How a chunk of a sentence, which has no blanks, is cut into tokens.
use Rattle.std.specs.Prelude.{◌≡◌, ◌≢◌, ℕ, List, [], ◌∷◌, ◌++◌, Bool, true, ◌==◌, codes}
use Rattle.std.specs.List.{list_any}
use Rattle.lg_dict.specs.Dictionary.{Dictionary}
use Rattle.lg_token.specs.Words.{Has, IsKnown}

abbrev pub is_closing : ℕ → Bool
is_closing b = list_any (λ c. b == c) (codes ".,;:!?)]}\"'")

abbrev pub is_opening : ℕ → Bool
is_opening b = list_any (λ c. b == c) (codes "([{\"'")

abbrev pub possessive : List ℕ
possessive = codes "'s"

-- what may be cut off a chunk, where something is left: a closing sign, an opening sign, or `'s`
abbrev pub EndsWithSign : List ℕ → List ℕ → ℕ → Type 0
EndsWithSign chunk rest sign = (chunk ≡ rest ++ sign ∷ []) × (rest ≢ []) × (is_closing sign ≡ true)

abbrev pub BeginsWithSign : List ℕ → ℕ → List ℕ → Type 0
BeginsWithSign chunk sign rest = (chunk ≡ sign ∷ rest) × (rest ≢ []) × (is_opening sign ≡ true)

abbrev pub EndsWithPossessive : List ℕ → List ℕ → Type 0
EndsWithPossessive chunk rest = (chunk ≡ rest ++ possessive) × (rest ≢ [])

abbrev pub HasNoClosing : List ℕ → Type 0
HasNoClosing chunk = (rest : List ℕ) (sign : ℕ) → EndsWithSign chunk rest sign → ⊥

abbrev pub HasNoOpening : List ℕ → Type 0
HasNoOpening chunk = (sign : ℕ) (rest : List ℕ) → BeginsWithSign chunk sign rest → ⊥

abbrev pub HasNoPossessive : List ℕ → Type 0
HasNoPossessive chunk = (rest : List ℕ) → EndsWithPossessive chunk rest → ⊥

-- the pieces of a chunk: what was cut off before the middle piece, the middle piece, and what was cut off after it
pub record Pieces : Type 0 where
  pub before : List (List ℕ)
  pub middle : List ℕ
  pub after : List (List ℕ)

abbrev pub whole : List ℕ → Pieces
whole chunk = record { before = []; middle = chunk; after = [] }

abbrev pub with_before : List ℕ → Pieces → Pieces
with_before piece p = record p { before = piece ∷ p.before }

abbrev pub with_after : Pieces → List ℕ → Pieces
with_after p piece = record p { after = p.after ++ piece ∷ [] }

-- A chunk that is known is one piece. Of any other a closing sign is cut off, else an opening sign, else `'s` where the
-- dictionary has it, and then the rest is cut. What is left is one piece. After link-parser.
pub data IsCut (Known : List ℕ → Type 0) (HasPossessive : Type 0) : List ℕ → Pieces → Type 0 where
  known : (chunk : List ℕ) → Known chunk → IsCut Known HasPossessive chunk (whole chunk)
  closing : (chunk rest : List ℕ) (sign : ℕ) (p : Pieces)
      → (Known chunk → ⊥)
      → EndsWithSign chunk rest sign
      → IsCut Known HasPossessive rest p → IsCut Known HasPossessive chunk (with_after p (sign ∷ []))
  opening : (chunk rest : List ℕ) (sign : ℕ) (p : Pieces)
      → (Known chunk → ⊥) → HasNoClosing chunk
      → BeginsWithSign chunk sign rest
      → IsCut Known HasPossessive rest p → IsCut Known HasPossessive chunk (with_before (sign ∷ []) p)
  owner : (chunk rest : List ℕ) (p : Pieces)
      → (Known chunk → ⊥) → HasNoClosing chunk → HasNoOpening chunk
      → HasPossessive → EndsWithPossessive chunk rest
      → IsCut Known HasPossessive rest p → IsCut Known HasPossessive chunk (with_after p possessive)
  unknown : (chunk : List ℕ)
      → (Known chunk → ⊥) → HasNoClosing chunk → HasNoOpening chunk → (HasPossessive → HasNoPossessive chunk)
      → IsCut Known HasPossessive chunk (whole chunk)

-- a chunk of a sentence, which is its first one or is not, is cut so
abbrev pub AreCut : Dictionary → Bool → List ℕ → Pieces → Type 0
AreCut dict initial chunk p = IsCut (IsKnown dict initial) (Has dict possessive) chunk p
