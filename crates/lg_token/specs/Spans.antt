-- Where the tokens of a sentence lie.
use Rattle.std.specs.Prelude.{◌≡◌, ◌<◌, ◌≤◌, List, ℕ, length, slice_range, codes, All, AllPairs}
use Rattle.lg_gram.specs.declared.listing.Token.{Token}

-- The text of a token is the bytes of its span, of which there are some. A wall has its word and an empty span, at the start or at the end.
pub data LiesIn (text : List ℕ) (t : Token) : Type 0 where
  is_piece : t.from < t.to → t.to ≤ length text → t.text ≡ slice_range text t.from t.to → LiesIn text t
  is_left_wall : t.from ≡ 0 → t.to ≡ 0 → t.text ≡ codes "LEFT-WALL" → LiesIn text t
  is_right_wall : t.from ≡ length text → t.to ≡ length text → t.text ≡ codes "RIGHT-WALL" → LiesIn text t

-- each token lies in the sentence, and none begins before those before it end
pub record LieInOrder (text : List ℕ) (ts : List Token) : Type 0 where
  pub lie : All (LiesIn text) ts
  pub order : AllPairs (λ a b. a.to ≤ b.from) ts
