-- A sentence has some list of tokens.
use Rattle.std.proofs.Common.{◌≡◌, inl, inr, ◌+◌, ◌-◌, ◌<◌, ◌≤◌, ℕ, zero, suc, List, [], ◌∷◌, ◌++◌, Bool, true, false, ◌==◌, codes, length, take, drop, Ok, refl, sym, ap, ◌∙◌, true≢false, arith, length-append}
use mathlib.Core.Logic.{⊎_elim}
use Rattle.std.proofs.lemmas.Bool.{cases_Bool}
use Rattle.std.proofs.lemmas.List.{same_from_push, take-append-drop, drop_at, take_at}
use Rattle.lg_gram.specs.declared.listing.Token.{Token}
use Rattle.lg_lex.specs.Runs.{AreRuns, runs_of, outside}
use Rattle.lg_lex.specs.declared.run.Separators.TheVariants.{Blanks}
use Rattle.lg_dict.specs.Dictionary.{Dictionary, IsWordOf}
use Rattle.lg_dict.specs.Tables.{same_text}
use Rattle.std.specs.Cmp.Lexicographic.{bytes_decides}
use Rattle.lg_token.proofs.Members.{here, nowhere, push_not_nil}
use Rattle.lg_token.proofs.SomeWords.{Decided, test_decided, decided_as, words_of, words_of-AreWordsOf, has_decided, same_itself}
use Rattle.lg_token.proofs.SomeSpecials.{EndsIn, last_of, Found, first_decided}
use Rattle.lg_token.proofs.Cutting.{shorter_front}
use Rattle.lg_token.proofs.WordLists.{AreWords-same, special_listed, no_special, token_words-special, token_words-named, named_joined}
use Rattle.lg_token.specs.Words.{Has, is_capitalized, lowered, special_word, IsKnown, IsNamed, IsSpecialWord, IsTokenWord, AreWords}
use Rattle.lg_token.specs.Cuts.{is_closing, is_opening, possessive, EndsWithSign, BeginsWithSign, EndsWithPossessive, HasNoClosing, HasNoOpening, HasNoPossessive, Pieces, whole, with_before, with_after, known, closing, opening, owner, unknown, AreCut}
use Rattle.lg_token.specs.Tokens.{pieces_of, AreOfPieces, AreOfChunk, AreOfChunks, IsWall, stands, absent, AreTokens}

-- the words of a token

Listed : (List ℕ → Type 0) → Type 0
Listed P = (words : List (List ℕ)) × AreWords P words

module _ (dict : Dictionary) where
  special_words : (text : List ℕ) → Found dict text → Listed (IsSpecialWord dict text)
  unfolding Listed
  special_words text (inl (s, first)) =
      let name = special_word s in
      (words_of dict name, special_listed {E = Unit {0}} dict text s name (Ok (words_of dict name)) first refl (words_of-AreWordsOf dict name))
  special_words text (inr none) = ([], no_special dict text [] refl none)

  module _ (initial : Bool) (text : List ℕ) where
    not_lowered : ((initial ≡ true) → (is_capitalized text ≡ true) → ⊥) → Listed (IsNamed dict initial text)
    unfolding Listed
    not_lowered never =
        let are = words_of-AreWordsOf dict text in (
          words_of dict text,
          AreWords-same (IsWordOf dict text) (IsNamed dict initial text) (words_of dict text)
              (λ word. (λ h. inl h, λ h. ⊎_elim (λ is. is) (λ small. absurd (never small.0 small.1)) h)) (record { rise = are.rise; exactly = are.exactly }),
        )

    named_words : Listed (IsNamed dict initial text)
    unfolding Listed
    named_words =
        ⊎_elim
        (λ first. ⊎_elim
        (λ capital.
        let words = words_of dict text in
        let small = words_of dict (lowered text) in
        (words ++ small, named_joined dict {E = Unit {0}} initial text (lowered text) words small (Ok (words ++ small)) first capital refl (words_of-AreWordsOf dict text) (words_of-AreWordsOf dict (lowered text)) refl))
        (λ not. not_lowered (λ _ capital. true≢false (sym capital ∙ not)))
        (cases_Bool (is_capitalized text)))
        (λ not. not_lowered (λ first _. true≢false (sym first ∙ not)))
        (cases_Bool initial)

    token_words : Listed (IsTokenWord dict initial text)
    unfolding Listed
    token_words =
        let named = named_words in
        let special = special_words text (first_decided dict text) in
        ⊎_elim
        (λ none. (special.0, token_words-special dict initial text {E = Unit {0}} named.0 (Ok special.0) named.1 (sym none) special.1))
        (λ some. (named.0, token_words-named dict initial text named.0 named.1 (sym some)))
        (cases_Bool (length named.0 == 0))

    known_among : (words : List (List ℕ)) → AreWords (IsNamed dict initial text) words → Decided (IsKnown dict initial text)
    known_among [] are = inr (λ h. nowhere h.0 ((are.exactly h.0).1 h.1))
    known_among (w ∷ ws) are = inl (w, (are.exactly w).0 (here w ws))

    known_decided : Decided (IsKnown dict initial text)
    unfolding Listed
    known_decided = known_among named_words.0 named_words.1

-- what may be cut off a chunk

Closing : List ℕ → Type 0
Closing chunk = (rest : List ℕ) × (sign : ℕ) × EndsWithSign chunk rest sign

closing_of : (chunk front : List ℕ) (last : ℕ) → chunk ≡ front ++ last ∷ [] → Decided (Closing chunk)
unfolding Closing
closing_of chunk [] last is = inr (λ h. let e = h.2 in e.1 ((same_from_push h.0 [] h.1 last (sym e.0 ∙ is)).0))
closing_of chunk (b ∷ bs) last is =
    decided_as (λ yes. (b ∷ bs, last, (is, (λ none. let e : b ∷ bs ≡ [] = none in cc), yes)))
    (λ h. ap is_closing (sym ((same_from_push h.0 (b ∷ bs) h.1 last (sym h.2.0 ∙ is)).1)) ∙ h.2.2) (test_decided (is_closing last))

closing_decided : (chunk : List ℕ) → Decided (Closing chunk)
unfolding Closing
closing_decided chunk =
    ⊎_elim (λ (none : chunk ≡ []). inr (λ (h : Closing chunk). push_not_nil h.0 h.1 (sym h.2.0 ∙ none)))
    (λ (e : EndsIn chunk). closing_of chunk e.front e.last e.is)
    (last_of chunk)

Opening : List ℕ → Type 0
Opening chunk = (sign : ℕ) × (rest : List ℕ) × BeginsWithSign chunk sign rest

opening_decided : (chunk : List ℕ) → Decided (Opening chunk)
unfolding Opening
opening_decided [] = inr (λ h. let e = h.2.0 in cc)
opening_decided (b ∷ []) = inr (λ h. let e = h.2.0 in h.2.1 (let none : h.1 ≡ [] = cc in none))
opening_decided (b ∷ c ∷ cs) =
    decided_as (λ yes. (b, c ∷ cs, (refl, (λ none. let e : c ∷ cs ≡ [] = none in cc), yes)))
    (λ h. let e = h.2.0 in let same : b ≡ h.0 = cc in ap is_opening same ∙ h.2.2) (test_decided (is_opening b))

Possessive : List ℕ → Type 0
Possessive chunk = (rest : List ℕ) × EndsWithPossessive chunk rest

-- where the rest ends, if `'s` follows it
rest_end : List ℕ → ℕ
rest_end chunk = length chunk - 2

rest_parts : (chunk rest : List ℕ) → chunk ≡ rest ++ possessive → (take (rest_end chunk) chunk ≡ rest) × (drop (rest_end chunk) chunk ≡ possessive)
unfolding rest_end
rest_parts chunk rest is =
    let long : length chunk ≡ length rest + 2 = ap length is ∙ length-append rest possessive in
    let place : length rest ≡ rest_end chunk = omega arith in (
      ap (take (rest_end chunk)) is ∙ take_at rest possessive (rest_end chunk) place,
      ap (drop (rest_end chunk)) is ∙ drop_at rest possessive (rest_end chunk) place,
    )

possessive_of : (chunk rest : List ℕ) → take (rest_end chunk) chunk ≡ rest → drop (rest_end chunk) chunk ≡ possessive → Decided (Possessive chunk)
unfolding Possessive
possessive_of chunk [] front back = inr (λ h. h.1.1 (sym ((rest_parts chunk h.0 h.1.0).0) ∙ front))
possessive_of chunk (b ∷ bs) front back =
    inl (b ∷ bs, (sym (take-append-drop (rest_end chunk) chunk) ∙ ap (λ l. l ++ drop (rest_end chunk) chunk) front ∙ ap (λ l. (b ∷ bs) ++ l) back, (λ none. let e : b ∷ bs ≡ [] = none in cc)))

possessive_decided : (chunk : List ℕ) → Decided (Possessive chunk)
unfolding Possessive
possessive_decided chunk =
    ⊎_elim (λ yes. possessive_of chunk (take (rest_end chunk) chunk) refl ((bytes_decides (drop (rest_end chunk) chunk) possessive).0 yes))
    (λ not. inr (λ h. true≢false (sym (same_itself (drop (rest_end chunk) chunk) possessive ((rest_parts chunk h.0 h.1.0).1)) ∙ not)))
    (cases_Bool (same_text (drop (rest_end chunk) chunk) possessive))

-- the pieces of a chunk

module _ (dict : Dictionary) (initial : Bool) where
  Cutting : List ℕ → Type 0
  Cutting chunk = (p : Pieces) × AreCut dict initial chunk p

  module _ (chunk : List ℕ) (cut_rest : (rest : List ℕ) → length rest < length chunk → Cutting rest) (not_known : IsKnown dict initial chunk → ⊥) where
    cut_closing : Closing chunk → Cutting chunk
    unfolding Cutting Closing
    cut_closing (rest, sign, ends) = let r = cut_rest rest (shorter_front chunk rest (sign ∷ []) ends.0 (omega arith)) in (with_after r.0 (sign ∷ []), closing chunk rest sign r.0 not_known ends r.1)

    module _ (no_closing : HasNoClosing chunk) where
      cut_opening : Opening chunk → Cutting chunk
      unfolding Cutting Opening
      cut_opening (sign, rest, begins) =
          let r = cut_rest rest (let long : length chunk ≡ length (sign ∷ rest) = ap length begins.0 in omega arith) in
          (with_before (sign ∷ []) r.0, opening chunk rest sign r.0 not_known no_closing begins r.1)

      module _ (no_opening : HasNoOpening chunk) where
        not_cut : (Has dict possessive → HasNoPossessive chunk) → Cutting chunk
        unfolding Cutting
        not_cut none = (whole chunk, unknown chunk not_known no_closing no_opening none)

        cut_possessive : Has dict possessive → Decided (Possessive chunk) → Cutting chunk
        unfolding Cutting Possessive
        cut_possessive has (inl (rest, ends)) = let r = cut_rest rest (shorter_front chunk rest possessive ends.0 (omega arith)) in (with_after r.0 possessive, owner chunk rest r.0 not_known no_closing no_opening has ends r.1)
        cut_possessive has (inr none) = not_cut (λ _ rest ends. none (rest, ends))

        cut_last : Cutting chunk
        cut_last = ⊎_elim (λ has. cut_possessive has (possessive_decided chunk)) (λ without. not_cut (λ has. absurd (without has))) (has_decided dict possessive)

      cut_unclosed : Cutting chunk
      unfolding Opening
      cut_unclosed = ⊎_elim cut_opening (λ none. cut_last (λ sign rest begins. none (sign, rest, begins))) (opening_decided chunk)

    cut_unknown : Cutting chunk
    unfolding Closing
    cut_unknown = ⊎_elim cut_closing (λ none. cut_unclosed (λ rest sign ends. none (rest, sign, ends))) (closing_decided chunk)

  cut_by : (chunk : List ℕ) → ((rest : List ℕ) → length rest < length chunk → Cutting rest) → Cutting chunk
  unfolding Cutting
  cut_by chunk cut_rest = ⊎_elim (λ is. (whole chunk, known chunk is)) (cut_unknown chunk cut_rest) (known_decided dict initial chunk)

  cut_within : (n : ℕ) (chunk : List ℕ) → length chunk ≤ n → Cutting chunk
  cut_within zero chunk short = cut_by chunk (λ rest less. absurd (omega arith))
  cut_within (suc n) chunk short = cut_by chunk (λ rest less. cut_within n rest (omega arith))

-- tokens

module _ (dict : Dictionary) where
  pub some_pieces : (ps : List (Bool × List ℕ)) (from : ℕ) → (ts : List Token) × AreOfPieces dict from ps ts
  unfolding Listed
  some_pieces [] from = ([], refl)
  some_pieces (p ∷ ps) from =
      let words = token_words dict p.0 p.1 in
      let rest = some_pieces ps (from + length p.1) in
      (record { from = from; to = from + length p.1; text = p.1; words = words.0 } ∷ rest.0, (record { text = refl; begins = refl; ends = refl; words = words.1 }, rest.1))

  some_chunk : (initial : Bool) (chunk : List ℕ × ℕ) → (ts : List Token) × AreOfChunk dict initial chunk ts
  unfolding Cutting
  some_chunk initial chunk =
      let cut = cut_within dict initial (length chunk.0) chunk.0 (omega arith) in
      let ts = some_pieces (pieces_of initial cut.0) chunk.1 in
      (ts.0, (cut.0, cut.1, ts.1))

  some_chunks : (initial : Bool) (chunks : List (List ℕ × ℕ)) → (ts : List Token) × AreOfChunks dict initial chunks ts
  some_chunks initial [] = ([], refl)
  some_chunks initial (c ∷ cs) =
      let first = some_chunk initial c in
      let rest = some_chunks false cs in
      (first.0 ++ rest.0, (first.0, rest.0, refl, first.1, rest.1))

  some_wall : (name : List ℕ) (at : ℕ) → (ts : List Token) × IsWall dict name at ts
  some_wall name at =
      ⊎_elim (λ has. (record { from = at; to = at; text = name; words = words_of dict name } ∷ [], stands has (words_of dict name) (words_of-AreWordsOf dict name))) (λ without. ([], absent without))
      (has_decided dict name)

pub some_list : ((text : List ℕ) → AreRuns Blanks (runs_of Blanks outside 0 text) 0 text) → (dict : Dictionary) (text : List ℕ) → (ts : List Token) × AreTokens dict text ts
some_list cut dict text =
    let chunks = runs_of Blanks outside 0 text in
    let left = some_wall dict (codes "LEFT-WALL") 0 in
    let inner = some_chunks dict true chunks in
    let right = some_wall dict (codes "RIGHT-WALL") (length text) in (
      left.0 ++ (inner.0 ++ right.0),
      record {
        chunks = chunks;
        left = left.0;
        inner = inner.0;
        right = right.0;
        parts = refl;
        runs = cut text;
        left_wall = left.1;
        of_chunks = inner.1;
        right_wall = right.1;
      },
    )
