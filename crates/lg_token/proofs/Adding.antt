-- What is added to the tokens.
use Rattle.std.proofs.Common.{◌≡◌, ◌+◌, ◌<◌, ◌≤◌, ℕ, Bor, List, [], ◌∷◌, ◌++◌, Bool, false, length, map, take, get_or, refl, sym, ap, subst, ◌∙◌, arith, append_assoc}
use Rattle.std.specs.List.{sum_by}
use Rattle.std.proofs.lemmas.List.{append-nil, map_push, take_more, length-map, get_or-map}
use Rattle.std.proofs.lemmas.List.Sums.{sum_by-cons, sum_by_push, sum_by_more_le}
use Rattle.lg_gram.specs.declared.listing.Token.{Token}
use Rattle.lg_dict.specs.Dictionary.{Dictionary, AreWordsOf}
use Rattle.lg_token.specs.Words.{Has}
use Rattle.lg_token.specs.Cuts.{Pieces, AreCut}
use Rattle.lg_token.specs.declared.place.Place.{Place}
use Rattle.lg_token.specs.declared.place.Kind.TheVariants.{Wall, Piece}
use Rattle.lg_token.specs.Places.{AreWordsAt, IsAt, AreAt, Lead}
use Rattle.lg_token.specs.Steps.{total, Adds}
use Rattle.lg_token.specs.Tokens.{cut_off, AreOfPieces, AreOfChunk, IsWall, stands, absent}

-- what stands at places that are put together

pub split_at : (dict : Dictionary) (ps qs : List Place) (ts : List Token) → AreAt dict (ps ++ qs) ts → (us : List Token) × (vs : List Token) × (ts ≡ us ++ vs) × AreAt dict ps us × AreAt dict qs vs
split_at dict [] qs ts at = ([], ts, refl, refl, at)
split_at dict (p ∷ ps) qs [] at = absurd at
split_at dict (p ∷ ps) qs (t ∷ ts) at =
    let rest = split_at dict ps qs ts at.1 in
    (t ∷ rest.0, rest.1, ap (λ l. t ∷ l) rest.2, (at.0, rest.3), rest.4)

pub Lead-append : (dict : Dictionary) (P Q R : List Token → Type 0) (ps qs : List Place) → ((ts us : List Token) → P ts → Q us → R (ts ++ us)) → Lead dict P ps → Lead dict Q qs → Lead dict R (ps ++ qs)
Lead-append dict P Q R ps qs join a b ts at =
    let parts = split_at dict ps qs ts at in
    subst R (sym parts.2) (join parts.0 parts.1 (a parts.0 parts.3) (b parts.1 parts.4))

pub AreAt-push : (dict : Dictionary) (ps : List Place) (p : Place) (ts : List Token) (t : Token) → AreAt dict ps ts → IsAt dict p t → AreAt dict (ps ++ p ∷ []) (ts ++ t ∷ [])
AreAt-push dict [] p ts t at is = subst (λ l. AreAt dict (p ∷ []) (l ++ t ∷ [])) (sym at) (is, refl)
AreAt-push dict (q ∷ qs) p [] t at is = absurd at
AreAt-push dict (q ∷ qs) p (u ∷ us) t at is = (at.0, AreAt-push dict qs p us t at.1 is)

-- a wall

pub wall_absent : (dict : Dictionary) (name : List ℕ) (at : ℕ) (old : List Place) → (Has dict name → ⊥) → Adds dict (IsWall dict name at) old old
wall_absent dict name at old without = record { more = []; grown = sym (append-nil old); lead = λ ts none. subst (IsWall dict name at) (sym none) (absent without) }

is_wall : (dict : Dictionary) (p : Place) → Has dict p.text.now → p.kind ≡ Wall → p.from ≡ p.to → Lead dict (IsWall dict p.text.now p.from) (p ∷ [])
is_wall dict p has is same [] at = absurd at
is_wall dict p has is same (t ∷ ts) at =
    let it = at.0 in
    let words : AreWordsOf dict p.text.now t.words = subst (λ k. AreWordsAt dict k p.text.now t.words) is it.words in
    let token : record { from = p.from; to = p.from; text = p.text.now; words = t.words } ≡ t =
    λ i. record { from = sym it.begins i; to = (same ∙ sym it.ends) i; text = sym it.text i; words = t.words } in
    subst (IsWall dict p.text.now p.from) (λ i. token i ∷ sym at.1 i) (stands has t.words words)

pub wall_stands : (dict : Dictionary) (old new : List Place) (p : Place) → Has dict p.text.now → p.kind ≡ Wall → p.from ≡ p.to → new ≡ old ++ p ∷ [] → Adds dict (IsWall dict p.text.now p.from) old new
wall_stands dict old new p has is same grown = record { more = p ∷ []; grown = grown; lead = is_wall dict p has is same }

-- a piece

is_piece : (dict : Dictionary) (initial : Bool) (p : Place) → p.kind ≡ Piece initial → p.to ≡ p.from + length p.text.now → Lead dict (AreOfPieces dict p.from ((initial, p.text.now) ∷ [])) (p ∷ [])
is_piece dict initial p is end [] at = absurd at
is_piece dict initial p is end (t ∷ ts) at =
    let it = at.0 in
    (record { text = it.text; begins = it.begins; ends = it.ends ∙ end; words = subst (λ k. AreWordsAt dict k p.text.now t.words) is it.words }, at.1)

pub piece_stands : (initial : Bool) (old new : List Place) (p : Place) → p.kind ≡ Piece initial → p.to ≡ p.from + length p.text.now → new ≡ old ++ p ∷ []
    → (dict : Dictionary) → Adds dict (AreOfPieces dict p.from ((initial, p.text.now) ∷ [])) old new
piece_stands initial old new p is end grown dict = record { more = p ∷ []; grown = grown; lead = is_piece dict initial p is end }

-- pieces one after another

abbrev piece_length : Bool × List ℕ → ℕ
piece_length p = length p.1

AreOfPieces-append : (dict : Dictionary) (ps qs : List (Bool × List ℕ)) (from : ℕ) (ts us : List Token) → AreOfPieces dict from ps ts → AreOfPieces dict (from + sum_by piece_length ps) qs us
    → AreOfPieces dict from (ps ++ qs) (ts ++ us)
AreOfPieces-append dict [] qs from ts us first then =
    subst (λ l. AreOfPieces dict from qs (l ++ us)) (sym first) (subst (λ n. AreOfPieces dict n qs us) (let e : from + 0 ≡ from = omega arith in e) then)
AreOfPieces-append dict (p ∷ ps) qs from [] us first then = absurd first
AreOfPieces-append dict (p ∷ ps) qs from (t ∷ ts) us first then =
    let place : from + sum_by piece_length (p ∷ ps) ≡ from + length p.1 + sum_by piece_length ps = omega (arith, sum_by-cons piece_length p ps) in
    (first.0, AreOfPieces-append dict ps qs (from + length p.1) ts us first.1 (subst (λ n. AreOfPieces dict n qs us) place then))

length-cut_off : (texts : List (List ℕ)) → sum_by piece_length (cut_off texts) ≡ total texts
length-cut_off [] = refl
length-cut_off (t ∷ ts) = sum_by-cons piece_length (false, t) (cut_off ts) ∙ ap (λ n. length t + n) (length-cut_off ts) ∙ sym (sum_by-cons length t ts)

Adds-append : (dict : Dictionary) (P Q R : List Token → Type 0) (old middle new : List Place) → ((ts us : List Token) → P ts → Q us → R (ts ++ us)) → Adds dict P old middle → Adds dict Q middle new → Adds dict R old new
Adds-append dict P Q R old middle new join a b = record {
  more = a.more ++ b.more;
  grown = b.grown ∙ ap (λ l. l ++ b.more) a.grown ∙ append_assoc old a.more b.more;
  lead = Lead-append dict P Q R a.more b.more join a.lead b.lead;
}

-- a piece as it is read
pub text_at : (pieces : List (Bor (List ℕ))) (i : ℕ) (d : Bor (List ℕ)) → i < length pieces
    → (i < length (map (λ (piece : Bor (List ℕ)). piece.now) pieces)) × ((get_or pieces i d).now ≡ get_or (map (λ (piece : Bor (List ℕ)). piece.now) pieces) i [])
text_at pieces i d within = (omega (arith, length-map pieces (λ (piece : Bor (List ℕ)). piece.now)), sym (get_or-map (λ (piece : Bor (List ℕ)). piece.now) pieces i d [] within))

-- where the first of the pieces end
module _ (start : ℕ) (texts : List (List ℕ)) where
  pub place_more : (i at : ℕ) (text : List ℕ) → i < length texts → text ≡ get_or texts i [] → at ≡ start + total (take i texts) → at + length text ≡ start + total (take (i + 1) texts)
  place_more i at text within is here =
      let more : take (i + 1) texts ≡ take i texts ++ text ∷ [] = take_more texts i [] within ∙ ap (λ t. take i texts ++ t ∷ []) (sym is) in
      let sum : total (take (i + 1) texts) ≡ total (take i texts) + length text = ap total more ∙ sum_by_push length (take i texts) text in
      omega arith

  pub place_fits : (i at : ℕ) (text : List ℕ) → i < length texts → text ≡ get_or texts i [] → at ≡ start + total (take i texts) → at + length text ≤ start + total texts
  place_fits i at text within is here =
      let same = ap length is in
      omega (arith, sum_by_more_le length texts i [] within)

module _ (dict : Dictionary) (start : ℕ) where
  -- the pieces of a list that were cut off, and then others
  cut_off_then : (texts : List (List ℕ)) (more : List (Bool × List ℕ)) (place : ℕ) (old middle new : List Place) → place ≡ start + total texts
      → Adds dict (AreOfPieces dict start (cut_off texts)) old middle → Adds dict (AreOfPieces dict place more) middle new → Adds dict (AreOfPieces dict start (cut_off texts ++ more)) old new
  cut_off_then texts more place old middle new is a b =
      let from : place ≡ start + sum_by piece_length (cut_off texts) = is ∙ ap (λ n. start + n) (sym (length-cut_off texts)) in
      Adds-append dict _ _ _ old middle new (AreOfPieces-append dict (cut_off texts) more start) a (subst (λ n. Adds dict (AreOfPieces dict n more) middle new) from b)

  module _ (texts : List (List ℕ)) where
    -- the places of the first of the pieces were added
    abbrev pub AddsFirst : ℕ → List Place → List Place → Type 0
    AddsFirst i old new = Adds dict (AreOfPieces dict start (cut_off (take i texts))) old new

    pub first_more : (i at : ℕ) (old middle new : List Place) (text : List ℕ) → i < length texts → text ≡ get_or texts i []
        → at ≡ start + total (take i texts) → AddsFirst i old middle → Adds dict (AreOfPieces dict at ((false, text) ∷ [])) middle new → AddsFirst (i + 1) old new
    first_more i at old middle new text within is here so_far one =
        let more : take (i + 1) texts ≡ take i texts ++ text ∷ [] = take_more texts i [] within ∙ ap (λ t. take i texts ++ t ∷ []) (sym is) in
        let all : cut_off (take i texts) ++ (false, text) ∷ [] ≡ cut_off (take (i + 1) texts) = sym (map_push (λ (t : List ℕ). (false, t)) (take i texts) text) ∙ ap cut_off (sym more) in
        subst (λ l. Adds dict (AreOfPieces dict start l) old new) all (cut_off_then (take i texts) ((false, text) ∷ []) at old middle new here so_far one)

  -- a chunk
  pub chunk_added : (initial : Bool) (chunk : List ℕ) (p : Pieces) (middle : ℕ) (old first second new : List Place) → AreCut dict initial chunk p → middle ≡ start + total p.before
      → Adds dict (AreOfPieces dict start (cut_off p.before)) old first
      → Adds dict (AreOfPieces dict middle ((initial, p.middle) ∷ [])) first second
      → Adds dict (AreOfPieces dict (middle + length p.middle) (cut_off p.after)) second new
      → Adds dict (AreOfChunk dict initial (chunk, start)) old new
  chunk_added initial chunk p middle old first second new is place a b c =
      let here : Bool × List ℕ = (initial, p.middle) in
      let one : length p.middle ≡ sum_by piece_length (here ∷ []) = omega arith in
      let rest = Adds-append dict _ _ (AreOfPieces dict middle (here ∷ cut_off p.after)) first second new (AreOfPieces-append dict (here ∷ []) (cut_off p.after) middle)
      b (subst (λ n. Adds dict (AreOfPieces dict (middle + n) (cut_off p.after)) second new) one c) in
      let all = cut_off_then p.before (here ∷ cut_off p.after) middle old first new place a rest in
      record { more = all.more; grown = all.grown; lead = λ ts at. (p, is, all.lead ts at) }
