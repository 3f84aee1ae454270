-- Where the tokens of a sentence stand: the tokens without their words.
use Rattle.std.specs.Prelude.{◌≡◌, ℕ, List, [], ◌∷◌, min}
use Rattle.lg_gram.specs.declared.listing.Token.{Token}
use Rattle.lg_dict.specs.Dictionary.{Dictionary, AreWordsOf}
use Rattle.lg_token.specs.declared.place.Kind.{Kind}
use Rattle.lg_token.specs.declared.place.Kind.TheVariants.{Wall, Piece}
use Rattle.lg_token.specs.declared.place.Place.{Place}
use Rattle.lg_token.specs.Words.{AreTokenWords}
use Rattle.lg_token.specs.Bounds.{CHOICES_COUNTED, all_choices}

-- the words of a token of this text
abbrev pub AreWordsAt : Dictionary → Kind → List ℕ → List (List ℕ) → Type 0
AreWordsAt dict Wall text words = AreWordsOf dict text words
AreWordsAt dict (Piece initial) text words = AreTokenWords dict initial text words

-- the token that stands at this place
pub record IsAt (dict : Dictionary) (place : Place) (t : Token) : Type 0 where
  pub begins : t.from ≡ place.from
  pub ends : t.to ≡ place.to
  pub text : t.text ≡ place.text.now
  pub words : AreWordsAt dict place.kind place.text.now t.words

-- the tokens that stand at these places
abbrev pub AreAt : Dictionary → List Place → List Token → Type 0
AreAt dict [] ts = ts ≡ []
AreAt dict (p ∷ ps) [] = ⊥
AreAt dict (p ∷ ps) (t ∷ ts) = IsAt dict p t × AreAt dict ps ts

-- whatever stands at these places is of this kind
abbrev pub Lead : Dictionary → (List Token → Type 0) → List Place → Type 0
Lead dict Are places = (ts : List Token) → AreAt dict places ts → Are ts

-- the words of the tokens at these places have so many choices, counted up to 2^60
pub record HaveChoices (dict : Dictionary) (places : List Place) (choices : ℕ) : Type 0 where
  pub tokens : List Token
  pub stand : AreAt dict places tokens
  pub counted : choices ≡ min (all_choices dict tokens) CHOICES_COUNTED
