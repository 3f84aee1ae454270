-- The tokens of one chunk after another.
use Rattle.std.proofs.Common.{◌≡◌, ℕ, List, [], ◌∷◌, ◌++◌, length, codes, Bool, true, false, refl, sym, ap, subst, ◌∙◌, append_assoc}
use Rattle.std.proofs.lemmas.List.{append-nil}
use Rattle.lg_gram.specs.declared.listing.Token.{Token}
use Rattle.lg_lex.specs.Runs.{AreRuns, runs_from}
use Rattle.lg_lex.specs.declared.run.Separators.TheVariants.{Blanks}
use Rattle.lg_dict.specs.Dictionary.{Dictionary}
use Rattle.lg_token.specs.declared.place.Place.{Place}
use Rattle.lg_token.specs.Places.{AreAt, Lead}
use Rattle.lg_token.specs.Steps.{Adds}
use Rattle.lg_token.specs.Tokens.{AreOfChunk, AreOfChunks, IsWall, AreTokens}
use Rattle.lg_token.proofs.Adding.{split_at}

module _ (dict : Dictionary) (text : List ℕ) (old : List Place) where
  abbrev chunks_from : ℕ → List (List ℕ × ℕ)
  chunks_from at = runs_from Blanks text at

  -- the places of the chunks before a place were added: with whatever are of the chunks from there on, their tokens are of all chunks
  pub record AddsChunks (initial : Bool) (from : ℕ) (new : List Place) : Type 0 where
    pub here : List Place
    pub grown : new ≡ old ++ here
    pub leads : (more : List Token) → AreOfChunks dict initial (chunks_from from) more → Lead dict (λ ts. AreOfChunks dict true (chunks_from 0) (ts ++ more)) here

  pub chunks_more : (initial : Bool) (from end : ℕ) (chunk : List ℕ × ℕ) (middle new : List Place) → chunks_from from ≡ chunk ∷ chunks_from end
      → AddsChunks initial from middle → Adds dict (AreOfChunk dict initial chunk) middle new → AddsChunks false end new
  chunks_more initial from end chunk middle new next so_far one = record {
    here = so_far.here ++ one.more;
    grown = one.grown ∙ ap (λ l. l ++ one.more) so_far.grown ∙ append_assoc old so_far.here one.more;
    leads = λ more h ts at.
        let parts = split_at dict so_far.here one.more ts at in
        let us = parts.0 in
        let vs = parts.1 in
        let rest = subst (λ cs. AreOfChunks dict initial cs (vs ++ more)) (sym next) (vs, more, refl, one.lead vs parts.4, h) in
        subst (AreOfChunks dict true (chunks_from 0)) (sym (append_assoc us vs more) ∙ ap (λ l. l ++ more) (sym parts.2)) (so_far.leads (vs ++ more) rest us parts.3);
  }

  pub chunks_all : (initial : Bool) (from : ℕ) (new : List Place) → chunks_from from ≡ [] → AddsChunks initial from new → Adds dict (AreOfChunks dict true (chunks_from 0)) old new
  chunks_all initial from new none so_far = record {
    more = so_far.here;
    grown = so_far.grown;
    lead = λ ts at.
        subst (AreOfChunks dict true (chunks_from 0)) (append-nil ts)
        (so_far.leads [] (subst (λ cs. AreOfChunks dict initial cs []) (sym none) refl) ts at);
  }

-- the walls around them
pub sentence_tokens : (dict : Dictionary) (text bytes : List ℕ) (none first second ps : List Place) → bytes ≡ text → none ≡ []
    → AreRuns Blanks (runs_from Blanks bytes 0) 0 bytes
    → Adds dict (IsWall dict (codes "LEFT-WALL") 0) none first
    → Adds dict (AreOfChunks dict true (runs_from Blanks bytes 0)) first second
    → Adds dict (IsWall dict (codes "RIGHT-WALL") (length bytes)) second ps
    → Lead dict (AreTokens dict text) ps
sentence_tokens dict text bytes none first second ps is empty runs a b c ts at =
    let all : ps ≡ a.more ++ (b.more ++ c.more) =
    c.grown ∙ ap (λ l. l ++ c.more) (b.grown ∙ ap (λ l. l ++ b.more) (a.grown ∙ ap (λ l. l ++ a.more) empty)) ∙ append_assoc a.more b.more c.more in
    let left = split_at dict a.more (b.more ++ c.more) ts (subst (λ l. AreAt dict l ts) all at) in
    let right = split_at dict b.more c.more left.1 left.4 in
    subst (λ t. AreTokens dict t ts) is (record {
      chunks = runs_from Blanks bytes 0;
      left = left.0;
      inner = right.0;
      right = right.1;
      parts = left.2 ∙ ap (λ l. left.0 ++ l) right.2;
      runs = runs;
      left_wall = a.lead left.0 left.3;
      of_chunks = b.lead right.0 right.3;
      right_wall = c.lead right.1 right.4;
    })
