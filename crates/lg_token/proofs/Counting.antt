-- How many tokens there are.
use Rattle.std.proofs.Common.{◌≡◌, ◌+◌, ◌-◌, ◌≤◌, ℕ, List, [], ◌∷◌, ◌++◌, Bool, true, false, length, drop, codes, refl, sym, ap, subst, ◌∙◌, arith, length-append}
use Rattle.std.specs.Prelude.{slice_range}
use Rattle.std.proofs.lemmas.List.{length-map, length-take, length-drop}
use Rattle.lg_gram.specs.declared.listing.Token.{Token}
use Rattle.lg_lex.specs.Runs.{AreRuns, runs_from}
use Rattle.lg_lex.specs.declared.run.Separators.TheVariants.{Blanks}
use Rattle.lg_dict.specs.Dictionary.{Dictionary}
use Rattle.lg_token.specs.declared.cuts.Side.{Side}
use Rattle.lg_token.specs.declared.cuts.Side.TheVariants.{Before, After}
use Rattle.lg_token.specs.declared.cuts.Off.{Off}
use Rattle.lg_token.specs.Words.{Has}
use Rattle.lg_token.specs.Cuts.{Pieces, AreCut}
use Rattle.lg_token.specs.Steps.{put_back, IsStep, piece_count, HasPieces, Counts}
use Rattle.lg_token.specs.Tokens.{cut_off, pieces_of, AreOfPieces, AreOfChunk, AreOfChunks, IsWall, stands, absent, HasTokens}
use Rattle.lg_token.proofs.SomeWords.{words_of, words_of-AreWordsOf}
use Rattle.lg_token.proofs.SomeList.{some_pieces}

-- the pieces of a chunk

count_put_back : (side : Side) (piece : List ℕ) (p : Pieces) → piece_count (put_back side piece p) ≡ piece_count p + 1
count_put_back Before piece p = omega arith
count_put_back After piece p = omega (arith, length-append p.after (piece ∷ []))

module _ (dict : Dictionary) (initial : Bool) (chunk : List ℕ) where
  -- so many pieces were cut off: however many are left, the chunk has so many more
  pub record CountsOff (rest : List ℕ) (count : ℕ) : Type 0 where
    pub fits : count + length rest ≤ length chunk
    pub cuts : (p : Pieces) → AreCut dict initial rest p → HasPieces dict initial chunk (count + piece_count p)

  pub counts_more : (rest : List ℕ) (count : ℕ) (off : Off) → IsStep dict initial rest off → CountsOff rest count → CountsOff off.rest.now (count + 1)
  counts_more rest count off step so_far = record {
    fits = let shorter = step.shorter in let fits = so_far.fits in omega arith;
    cuts = λ p h.
        let all = so_far.cuts (put_back off.side off.piece.now p) (step.cuts p h) in
        let counted = all.counted in
        record { pieces = all.pieces; cut = all.cut; counted = omega (arith, counted, count_put_back off.side off.piece.now p) };
  }

-- the tokens of pieces

length-AreOfPieces : (dict : Dictionary) (ps : List (Bool × List ℕ)) (from : ℕ) (ts : List Token) → AreOfPieces dict from ps ts → length ts ≡ length ps
length-AreOfPieces dict [] from ts are = ap length are
length-AreOfPieces dict (p ∷ ps) from [] are = absurd are
length-AreOfPieces dict (p ∷ ps) from (t ∷ ts) are = let rest = length-AreOfPieces dict ps (from + length p.1) ts are.1 in omega arith

length-pieces_of : (initial : Bool) (p : Pieces) → length (pieces_of initial p) ≡ piece_count p
length-pieces_of initial p =
    let before : length (cut_off p.before) ≡ length p.before = length-map p.before (λ (t : List ℕ). (false, t)) in
    let after : length (cut_off p.after) ≡ length p.after = length-map p.after (λ (t : List ℕ). (false, t)) in
    omega (arith, length-append (cut_off p.before) ((initial, p.middle) ∷ cut_off p.after))

chunk_counted : (dict : Dictionary) (initial : Bool) (chunk : List ℕ × ℕ) (count : ℕ) → HasPieces dict initial chunk.0 count → Counts (AreOfChunk dict initial chunk) count
chunk_counted dict initial chunk count has =
    let some = some_pieces dict (pieces_of initial has.pieces) chunk.1 in
    record {
      tokens = some.0;
      are = (has.pieces, has.cut, some.1);
      counted = has.counted ∙ sym (length-pieces_of initial has.pieces) ∙ sym (length-AreOfPieces dict (pieces_of initial has.pieces) chunk.1 some.0 some.1);
    }

-- one chunk after another

module _ (dict : Dictionary) (text : List ℕ) where
  abbrev chunks_from : ℕ → List (List ℕ × ℕ)
  chunks_from at = runs_from Blanks text at

  -- the chunks before a place have so many tokens: however many the others have, all have so many more
  pub record CountsChunks (initial : Bool) (from count : ℕ) : Type 0 where
    pub leads : (more : List Token) → AreOfChunks dict initial (chunks_from from) more → Counts (AreOfChunks dict true (chunks_from 0)) (count + length more)

  pub chunks_counted : (initial : Bool) (from end count more : ℕ) (chunk : List ℕ × ℕ) → chunks_from from ≡ chunk ∷ chunks_from end → CountsChunks initial from count → HasPieces dict initial chunk.0 more
      → CountsChunks false end (count + more)
  chunks_counted initial from end count more chunk next so_far has = record {
    leads = λ rest h.
        let one = chunk_counted dict initial chunk more has in
        let all = so_far.leads (one.tokens ++ rest) (subst (λ cs. AreOfChunks dict initial cs (one.tokens ++ rest)) (sym next) (one.tokens, rest, refl, one.are, h)) in
        record { tokens = all.tokens; are = all.are; counted = omega (arith, one.counted, all.counted, length-append one.tokens rest) };
  }

  pub chunks_ended : (initial : Bool) (from count : ℕ) → chunks_from from ≡ [] → CountsChunks initial from count → Counts (AreOfChunks dict true (chunks_from 0)) count
  chunks_ended initial from count none so_far =
      let all = so_far.leads [] (subst (λ cs. AreOfChunks dict initial cs []) (sym none) refl) in
      record { tokens = all.tokens; are = all.are; counted = omega (arith, all.counted) }

-- the walls around them

pub wall_counted : (dict : Dictionary) (name : List ℕ) → Has dict name → (at : ℕ) → Counts (IsWall dict name at) 1
wall_counted dict name has at = record {
  tokens = record { from = at; to = at; text = name; words = words_of dict name } ∷ [];
  are = stands has (words_of dict name) (words_of-AreWordsOf dict name);
  counted = refl;
}

pub no_wall_counted : (dict : Dictionary) (name : List ℕ) → (Has dict name → ⊥) → (at : ℕ) → Counts (IsWall dict name at) 0
no_wall_counted dict name without at = record { tokens = []; are = absent without; counted = refl }

pub sentence_counted : (dict : Dictionary) (text : List ℕ) (left inner right : ℕ) → AreRuns Blanks (runs_from Blanks text 0) 0 text
    → Counts (IsWall dict (codes "LEFT-WALL") 0) left
    → Counts (AreOfChunks dict true (runs_from Blanks text 0)) inner
    → Counts (IsWall dict (codes "RIGHT-WALL") (length text)) right
    → HasTokens dict text (left + inner + right)
sentence_counted dict text left inner right runs a b c = record {
  tokens = a.tokens ++ (b.tokens ++ c.tokens);
  of_text = record {
    chunks = runs_from Blanks text 0;
    left = a.tokens;
    inner = b.tokens;
    right = c.tokens;
    parts = refl;
    runs = runs;
    left_wall = a.are;
    of_chunks = b.are;
    right_wall = c.are;
  };
  counted = omega (arith, a.counted, b.counted, c.counted, length-append a.tokens (b.tokens ++ c.tokens), length-append b.tokens c.tokens);
}

pub run_length : (text bytes : List ℕ) (start end : ℕ) → end ≤ length text → bytes ≡ slice_range text start end → length bytes ≡ end - start
run_length text bytes start end within is =
    let long = length-take (end - start) (drop start text) in
    omega (arith, ap length is, long, length-drop start text)
