-- A token that stands for a part of a compound does not have the compound among its own words.
use Rattle.std.proofs.Common.{◌≡◌, ℕ, zero, suc, ◌+◌, ◌<◌, Bool, true, false, cond, List, [], ◌∷◌, ◌++◌, length, take, Contains, All, Some, slice_get, get_or, inl, inr, refl, sym, ap, ◌∙◌, subst, arith, true≢false}
use Rattle.std.specs.Prelude.{not, if◌then◌else◌}
use Rattle.std.specs.List.{list_all, slice_split, onto_first, before_last}
use Rattle.std.proofs.lemmas.Bool.{and_parts, and_from}
use Rattle.std.proofs.lemmas.Bool.Decides.{nat_tests}
use Rattle.std.proofs.lemmas.List.Elements.{All-nil, All-cons, All-append, All-head, All-tail, All-contains}
use Rattle.std.proofs.lemmas.List.Splits.{slice_split_none}
use Rattle.std.proofs.lemmas.Option.{same_Some, slice_get_within, get_or_from_slice_get, slice_get-get_or}
use Rattle.lg_gram.specs.declared.listing.Token.{Token}
use Rattle.lg_dict.specs.Compounds.{is_underscore, parts_of, are_several, is_compound}
use Rattle.lg_dict.specs.Dictionary.{Dictionary, IsWordOf}
use Rattle.lg_dict.specs.Subscripts.{is_point, has_subscript, stem_of}
use Rattle.lg_token.specs.Tokens.{AreOfPieces, AreOfChunks, IsWall, stands, absent, AreTokens}
use Rattle.lg_token.specs.Words.{is_capitalized, lowered, IsNamed, IsTokenWord, named, special, special_word}
use Rattle.lg_token.specs.declared.special.Special.{Special}
use Rattle.lg_token.specs.declared.special.Special.TheVariants.{Numbers, Capitalized, Hyphenated, Unknown}
use Rattle.lg_idiom.specs.Idioms.{StandsForPart}

-- ---- texts without an underscore

abbrev pub is_other : ℕ → Bool
is_other b = not (is_underscore b)

abbrev pub IsPlain : List ℕ → Type 0
IsPlain text = list_all is_other text ≡ true

other_is : (b : Bool) → not b ≡ true → b ≡ false
other_is true h = sym h
other_is false h = refl

none_are : (text : List ℕ) → IsPlain text → All (λ b. is_underscore b ≡ false) text
none_are [] h = All-nil (λ b. is_underscore b ≡ false)
none_are (b ∷ bs) h =
    let both = and_parts (is_other b) (list_all is_other bs) h in
    All-cons (λ x. is_underscore x ≡ false) b bs (other_is (is_underscore b) both.0) (none_are bs both.1)

plain_take : (n : ℕ) (text : List ℕ) → IsPlain text → IsPlain (take n text)
plain_take zero text h = refl
plain_take (suc n) [] h = refl
plain_take (suc n) (b ∷ bs) h =
    let both = and_parts (is_other b) (list_all is_other bs) h in
    and_from (is_other b) (list_all is_other (take n bs)) both.0 (plain_take n bs both.1)

stem_by : (b : Bool) (word : List ℕ) → IsPlain word → IsPlain (if b then before_last is_point word else word)
stem_by true word h = plain_take _ word h
stem_by false word h = h

-- a compound has an underscore in its stem
not_compound : (word : List ℕ) → IsPlain (stem_of word) → is_compound word ≡ true → ⊥
not_compound word h compound =
    let one : parts_of word ≡ stem_of word ∷ [] = slice_split_none is_underscore (stem_of word) (none_are (stem_of word) h) in
    true≢false (sym (and_parts _ _ compound).0 ∙ ap are_several one)

-- a part has none
put_first : (x : ℕ) (parts : List (List ℕ)) → is_underscore x ≡ false → All IsPlain parts → All IsPlain (onto_first x parts)
put_first x [] other all = All-cons IsPlain (x ∷ []) [] (and_from (is_other x) true (ap not other) refl) (All-nil IsPlain)
put_first x (part ∷ parts) other all =
    All-cons IsPlain (x ∷ part) parts (and_from (is_other x) (list_all is_other part) (ap not other) (All-head IsPlain part parts all)) (All-tail IsPlain part parts all)

split_by : (x : ℕ) (parts : List (List ℕ)) (b : Bool) → is_underscore x ≡ b → All IsPlain parts → All IsPlain (cond b ([] ∷ parts) (onto_first x parts))
split_by x parts true is all = All-cons IsPlain [] parts refl all
split_by x parts false is all = put_first x parts is all

parts_plain : (text : List ℕ) → All IsPlain (slice_split is_underscore text)
parts_plain [] = All-cons IsPlain [] [] refl (All-nil IsPlain)
parts_plain (x ∷ xs) = split_by x (slice_split is_underscore xs) (is_underscore x) refl (parts_plain xs)

-- a text with its first capital letter made small has an underscore exactly where it has one
capital_other : (b : ℕ) → is_capitalized (b ∷ []) ≡ true → (is_other b ≡ true) × (is_other (b + 32) ≡ true)
capital_other b h = (grind (arith, nat_tests, h), grind (arith, nat_tests, h))

to_lowered : (text : List ℕ) → is_capitalized text ≡ true → IsPlain text → IsPlain (lowered text)
to_lowered [] capital h = h
to_lowered (b ∷ bs) capital h = and_from (is_other (b + 32)) (list_all is_other bs) (capital_other b capital).1 (and_parts (is_other b) (list_all is_other bs) h).1

from_lowered : (text : List ℕ) → is_capitalized text ≡ true → IsPlain (lowered text) → IsPlain text
from_lowered [] capital h = h
from_lowered (b ∷ bs) capital h = and_from (is_other b) (list_all is_other bs) (capital_other b capital).0 (and_parts (is_other (b + 32)) (list_all is_other bs) h).1

-- ---- the words of tokens

word_plain : (dict : Dictionary) (text word : List ℕ) → IsWordOf dict text word → IsPlain text → IsPlain (stem_of word)
word_plain dict text word is h =
    elim is.fits [
      | inl same ↦ stem_by (has_subscript word) word (subst IsPlain (sym same) h)
      | inr same ↦ subst IsPlain (sym same) h
    ]

special_plain : (s : Special) → IsPlain (special_word s)
special_plain Numbers = refl
special_plain Capitalized = refl
special_plain Hyphenated = refl
special_plain Unknown = refl

-- no word of the token is a compound, where its text has no underscore
abbrev pub HasOwn : Token → Type 0
HasOwn t = IsPlain t.text → (word : List ℕ) → Contains t.words word → is_compound word ≡ true → ⊥

named_plain : (dict : Dictionary) (initial : Bool) (text word : List ℕ) → IsNamed dict initial text word → IsPlain text → IsPlain (stem_of word)
named_plain dict initial text word is h =
    elim is [
      | inl own ↦ word_plain dict text word own h
      | inr low ↦ word_plain dict (lowered text) word low.2 (to_lowered text low.1 h)
    ]

token_plain : (dict : Dictionary) (initial : Bool) (text word : List ℕ) → IsTokenWord dict initial text word → IsPlain text → IsPlain (stem_of word)
token_plain dict initial text word (named is) h = named_plain dict initial text word is h
token_plain dict initial text word (special unknown is) h = word_plain dict (special_word is.0) word is.2 (special_plain is.0)

module _ (dict : Dictionary) where
  wall_own : (name : List ℕ) (at : ℕ) (ts : List Token) → IsWall dict name at ts → All HasOwn ts
  wall_own name at ts (stands has words are) =
      All-cons HasOwn _ [] (λ h word m. not_compound word (word_plain dict name word ((are.exactly word).0 m) h)) (All-nil HasOwn)
  wall_own name at ts (absent none) = All-nil HasOwn

  pieces_own : (from : ℕ) (ps : List (Bool × List ℕ)) (ts : List Token) → AreOfPieces dict from ps ts → All HasOwn ts
  pieces_own from [] ts is = subst (All HasOwn) (sym is) (All-nil HasOwn)
  pieces_own from (p ∷ ps) [] is = absurd is
  pieces_own from (p ∷ ps) (t ∷ ts) is =
      All-cons HasOwn t ts (λ h word m. not_compound word (token_plain dict p.0 p.1 word ((is.0.words.exactly word).0 m) (subst IsPlain is.0.text h)))
      (pieces_own (from + length p.1) ps ts is.1)

  chunks_own : (initial : Bool) (cs : List (List ℕ × ℕ)) (ts : List Token) → AreOfChunks dict initial cs ts → All HasOwn ts
  chunks_own initial [] ts is = subst (All HasOwn) (sym is) (All-nil HasOwn)
  chunks_own initial (c ∷ cs) ts is = subst (All HasOwn) (sym is.2) (All-append HasOwn is.0 is.1 (pieces_own c.1 _ is.0 is.3.2) (chunks_own false cs is.1 is.4))

  pub have_own : (text : List ℕ) (ts : List Token) → AreTokens dict text ts → All HasOwn ts
  have_own text ts is =
      subst (All HasOwn) (sym is.parts) (All-append HasOwn is.left (is.inner ++ is.right) (wall_own _ _ is.left is.left_wall)
      (All-append HasOwn is.inner is.right (chunks_own _ is.chunks is.inner is.of_chunks) (wall_own _ _ is.right is.right_wall)))

-- ---- parts

module _ (tokens : List Token) (p : ℕ) (part : List ℕ) (plain : IsPlain part) (is : StandsForPart tokens p part) where
  text_plain : IsPlain is.token.text
  text_plain = elim is.same [
    | inl same ↦ subst IsPlain (sym same) plain
    | inr low ↦ from_lowered is.token.text low.1 (subst IsPlain (sym low.2) plain)
  ]

pub no_own_compound : (tokens : List Token) → All HasOwn tokens → (p : ℕ) (t : Token) → slice_get tokens p ≡ Some t → (word : List ℕ) → is_compound word ≡ true → Contains t.words word
    → (i : ℕ) → i < length (parts_of word) → ((part : List ℕ) → slice_get (parts_of word) i ≡ Some part → StandsForPart tokens p part) → ⊥
no_own_compound tokens own p t there word compound listed i within all =
    let part = get_or (parts_of word) i [] in
    let is = all part (slice_get-get_or (parts_of word) i [] within) in
    let same : is.token ≡ t = same_Some is.token t (sym is.there ∙ there) in
    let plain : IsPlain t.text = subst (λ (u : Token). IsPlain u.text) same (text_plain tokens p part (parts_plain (stem_of word) i [] within) is) in
    All-contains HasOwn tokens t own (p, slice_get_within tokens p t there, get_or_from_slice_get tokens p t t there) plain word listed compound
