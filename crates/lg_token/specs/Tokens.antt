-- The tokens of a sentence.
use Rattle.std.specs.Prelude.{◌≡◌, ℕ, ◌+◌, List, [], ◌∷◌, ◌++◌, length, map, Bool, true, false, codes}
use Rattle.lg_gram.specs.declared.listing.Token.{Token}
use Rattle.lg_lex.specs.Runs.{AreRuns}
use Rattle.lg_lex.specs.declared.run.Separators.TheVariants.{Blanks}
use Rattle.lg_dict.specs.Dictionary.{Dictionary, AreWordsOf}
use Rattle.lg_token.specs.Words.{Has, AreTokenWords}
use Rattle.lg_token.specs.Cuts.{Pieces, AreCut}

-- pieces that were cut off, and all pieces of a chunk in their order, each with whether it is the initial token
abbrev pub cut_off : List (List ℕ) → List (Bool × List ℕ)
cut_off texts = map (λ text. (false, text)) texts

abbrev pub pieces_of : Bool → Pieces → List (Bool × List ℕ)
pieces_of initial p = cut_off p.before ++ (initial, p.middle) ∷ cut_off p.after

-- the token of a piece that stands from this byte on
pub record IsToken (dict : Dictionary) (from : ℕ) (piece : Bool × List ℕ) (t : Token) : Type 0 where
  pub text : t.text ≡ piece.1
  pub begins : t.from ≡ from
  pub ends : t.to ≡ from + length piece.1
  pub words : AreTokenWords dict piece.0 piece.1 t.words

-- the tokens of pieces that stand one after another from this byte on
abbrev pub AreOfPieces : Dictionary → ℕ → List (Bool × List ℕ) → List Token → Type 0
AreOfPieces dict from [] ts = ts ≡ []
AreOfPieces dict from (p ∷ ps) [] = ⊥
AreOfPieces dict from (p ∷ ps) (t ∷ ts) = IsToken dict from p t × AreOfPieces dict (from + length p.1) ps ts

-- the tokens of a chunk, which the sentence's first one is or is not
abbrev pub AreOfChunk : Dictionary → Bool → List ℕ × ℕ → List Token → Type 0
AreOfChunk dict initial chunk ts = (p : Pieces) × AreCut dict initial chunk.0 p × AreOfPieces dict chunk.1 (pieces_of initial p) ts

-- the tokens of chunks, of which the first is or is not the sentence's first
abbrev pub AreOfChunks : Dictionary → Bool → List (List ℕ × ℕ) → List Token → Type 0
AreOfChunks dict initial [] ts = ts ≡ []
AreOfChunks dict initial (c ∷ cs) ts = (here : List Token) × (rest : List Token) × (ts ≡ here ++ rest) × AreOfChunk dict initial c here × AreOfChunks dict false cs rest

-- a wall, where the dictionary has its word: a token with an empty span; else none
pub data IsWall (dict : Dictionary) (name : List ℕ) (at : ℕ) : List Token → Type 0 where
  stands : Has dict name → (words : List (List ℕ)) → AreWordsOf dict name words → IsWall dict name at (record { from = at; to = at; text = name; words = words } ∷ [])
  absent : (Has dict name → ⊥) → IsWall dict name at []

-- The tokens of a sentence: the left wall, those of its chunks, which are its runs between spaces and tabs, and the right wall.
pub record AreTokens (dict : Dictionary) (text : List ℕ) (ts : List Token) : Type 0 where
  pub chunks : List (List ℕ × ℕ)
  pub left : List Token
  pub inner : List Token
  pub right : List Token
  pub parts : ts ≡ left ++ (inner ++ right)
  pub runs : AreRuns Blanks chunks 0 text
  pub left_wall : IsWall dict (codes "LEFT-WALL") 0 left
  pub of_chunks : AreOfChunks dict true chunks inner
  pub right_wall : IsWall dict (codes "RIGHT-WALL") (length text) right

-- the sentence has so many tokens
pub record HasTokens (dict : Dictionary) (text : List ℕ) (count : ℕ) : Type 0 where
  pub tokens : List Token
  pub of_text : AreTokens dict text tokens
  pub counted : count ≡ length tokens
