-- The work step by step: what one step cuts off a chunk, and what one adds to the tokens.
use Rattle.std.specs.Prelude.{◌≡◌, ◌<◌, ℕ, ◌+◌, List, [], ◌∷◌, ◌++◌, length, map, Bool, All}
use Rattle.std.specs.List.{sum_by}
use Rattle.lg_gram.specs.declared.listing.Token.{Token}
use Rattle.lg_dict.specs.Dictionary.{Dictionary, AreWordsOf}
use Rattle.lg_token.specs.declared.lists.Named.{Named}
use Rattle.lg_token.specs.declared.place.Place.{Place}
use Rattle.lg_token.specs.declared.cuts.Side.{Side}
use Rattle.lg_token.specs.declared.cuts.Side.TheVariants.{Before, After}
use Rattle.lg_token.specs.declared.cuts.Off.{Off}
use Rattle.lg_token.specs.declared.cuts.Cut.{Cut}
use Rattle.lg_token.specs.Cuts.{possessive, EndsWithSign, BeginsWithSign, EndsWithPossessive, Pieces, with_before, with_after, AreCut}
use Rattle.lg_token.specs.Places.{Lead}

-- the pieces of a chunk, seen as texts
abbrev pub pieces_in : Cut → Pieces
pieces_in cut = record {
  before = map (λ piece. piece.now) cut.before.items;
  middle = cut.middle.now;
  after = map (λ piece. piece.now) cut.after.items;
}

-- the number of bytes of texts
abbrev pub total : List (List ℕ) → ℕ
total texts = sum_by length texts

-- the pieces of the whole, by those of what is left
abbrev pub put_back : Side → List ℕ → Pieces → Pieces
put_back Before piece p = with_before piece p
put_back After piece p = with_after p piece

-- a closing sign, an opening sign and `'s`, as they are cut off
pub record IsClosing (chunk : List ℕ) (off : Off) : Type 0 where
  pub side : off.side ≡ After
  pub sign : ℕ
  pub piece : off.piece.now ≡ sign ∷ []
  pub ends : EndsWithSign chunk off.rest.now sign

pub record IsOpening (chunk : List ℕ) (off : Off) : Type 0 where
  pub side : off.side ≡ Before
  pub sign : ℕ
  pub piece : off.piece.now ≡ sign ∷ []
  pub begins : BeginsWithSign chunk sign off.rest.now

pub record IsPossessive (chunk : List ℕ) (off : Off) : Type 0 where
  pub side : off.side ≡ After
  pub piece : off.piece.now ≡ possessive
  pub ends : EndsWithPossessive chunk off.rest.now

-- whatever cuts what is left, cuts the chunk, with what was cut off
pub record IsStep (dict : Dictionary) (initial : Bool) (chunk : List ℕ) (off : Off) : Type 0 where
  pub shorter : length off.rest.now < length chunk
  pub cuts : (p : Pieces) → AreCut dict initial off.rest.now p → AreCut dict initial chunk (put_back off.side off.piece.now p)

-- how many pieces there are; and the chunk has so many
abbrev pub piece_count : Pieces → ℕ
piece_count p = length p.before + (1 + length p.after)

pub record HasPieces (dict : Dictionary) (initial : Bool) (chunk : List ℕ) (count : ℕ) : Type 0 where
  pub pieces : Pieces
  pub cut : AreCut dict initial chunk pieces
  pub counted : count ≡ piece_count pieces

-- each of these lists has the words of its name
abbrev pub AreLists : Dictionary → List Named → Type 0
AreLists dict lists = All (λ list. AreWordsOf dict list.name.now list.words) lists

-- so many tokens are of this kind
pub record Counts (Are : List Token → Type 0) (count : ℕ) : Type 0 where
  pub tokens : List Token
  pub are : Are tokens
  pub counted : count ≡ length tokens

-- places of tokens of this kind were added at the end
pub record Adds (dict : Dictionary) (Are : List Token → Type 0) (old new : List Place) : Type 0 where
  pub more : List Place
  pub grown : new ≡ old ++ more
  pub lead : Lead dict Are more
