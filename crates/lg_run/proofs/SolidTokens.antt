-- No token of a sentence has a blank, and a sentence has no more tokens than bytes and two walls.
use Rattle.std.proofs.Common.{◌≡◌, ◌≢◌, ℕ, suc, ◌+◌, ◌≤◌, Bool, true, false, eqb, List, [], ◌∷◌, ◌++◌, length, codes, refl, sym, ap, subst, ◌∙◌, arith, length-append, true≢false, ne_eqb, eq-eqb}
use Rattle.std.specs.List.{list_any, AllByRecursion}
use Rattle.std.specs.Prelude.{◌==◌}
use Rattle.std.proofs.lemmas.Bool.{or_parts, or_from}
use Rattle.std.proofs.lemmas.List.Folds.{list_any-append}
use Rattle.lg_gram.specs.declared.listing.Token.{Token}
use Rattle.lg_dict.specs.Dictionary.{Dictionary}
use Rattle.lg_lex.specs.Classes.{is_one_of}
use Rattle.lg_lex.specs.Runs.{AreInner, AreRuns}
use Rattle.lg_lex.specs.declared.run.Separators.TheVariants.{Blanks}
use Rattle.lg_expr.proofs.AllOf.{all_append}
use Rattle.lg_token.specs.Cuts.{possessive, Pieces, IsCut, known, closing, opening, owner, unknown}
use Rattle.lg_token.specs.Tokens.{cut_off, pieces_of, AreOfPieces, AreOfChunk, AreOfChunks, IsWall, stands, absent, AreTokens}
use Rattle.lg_audit.specs.Pieces.{HasNoBlank}

-- ---- runs

no_blank : (b : ℕ) → is_one_of (32 ∷ 9 ∷ []) b ≡ false → eqb 32 b ≡ false
no_blank b inner = ne_eqb 32 b (λ same. true≢false (sym (eq-eqb b 32 (sym same)) ∙ (or_parts (b == 32) _ inner).0))

run_solid : (bs : List ℕ) → AreInner Blanks bs → HasNoBlank bs
run_solid [] inner = refl
run_solid (b ∷ bs) inner = or_from (eqb 32 b) (list_any (eqb 32) bs) (no_blank b inner.0) (run_solid bs inner.1)

parts_solid : (xs ys : List ℕ) → HasNoBlank (xs ++ ys) → HasNoBlank xs × HasNoBlank ys
parts_solid xs ys h = or_parts (list_any (eqb 32) xs) (list_any (eqb 32) ys) (sym (list_any-append (eqb 32) xs ys) ∙ h)

-- ---- the pieces of a chunk

record ArePiecesSolid (p : Pieces) : Type 0 where
  before : AllByRecursion HasNoBlank p.before
  middle : HasNoBlank p.middle
  after : AllByRecursion HasNoBlank p.after

cut_solid : (Known : List ℕ → Type 0) (HasPossessive : Type 0) (chunk : List ℕ) (p : Pieces) → IsCut Known HasPossessive chunk p → HasNoBlank chunk → ArePiecesSolid p
cut_solid K H _ _ (known chunk _) h = record { before = tt; middle = h; after = tt }
cut_solid K H _ _ (closing chunk rest sign p _ ends cut) h =
    let parts = parts_solid rest (sign ∷ []) (subst HasNoBlank ends.0 h) in
    let solid = cut_solid K H rest p cut parts.0 in
    record { before = solid.before; middle = solid.middle; after = all_append HasNoBlank p.after ((sign ∷ []) ∷ []) solid.after (parts.1, tt) }
cut_solid K H _ _ (opening chunk rest sign p _ _ begins cut) h =
    let parts = parts_solid (sign ∷ []) rest (subst HasNoBlank begins.0 h) in
    let solid = cut_solid K H rest p cut parts.1 in
    record { before = (parts.0, solid.before); middle = solid.middle; after = solid.after }
cut_solid K H _ _ (owner chunk rest p _ _ _ _ ends cut) h =
    let parts = parts_solid rest possessive (subst HasNoBlank ends.0 h) in
    let solid = cut_solid K H rest p cut parts.0 in
    record { before = solid.before; middle = solid.middle; after = all_append HasNoBlank p.after (possessive ∷ []) solid.after (parts.1, tt) }
cut_solid K H _ _ (unknown chunk _ _ _ _) h = record { before = tt; middle = h; after = tt }

-- no chunk has more pieces than bytes
some_bytes : (xs : List ℕ) → xs ≢ [] → 1 ≤ length xs
some_bytes [] h = absurd (h refl)
some_bytes (x ∷ xs) h = omega arith

pieces_few : (Known : List ℕ → Type 0) (HasPossessive : Type 0) (chunk : List ℕ) (p : Pieces) → IsCut Known HasPossessive chunk p → chunk ≢ [] → length p.before + 1 + length p.after ≤ length chunk
pieces_few K H _ _ (known chunk _) some = let least = some_bytes chunk some in omega arith
pieces_few K H _ _ (closing chunk rest sign p _ ends cut) some =
    let so_far = pieces_few K H rest p cut ends.1 in
    let long : length chunk ≡ length rest + 1 = ap length ends.0 ∙ length-append rest (sign ∷ []) in
    let after = length-append p.after ((sign ∷ []) ∷ []) in
    omega arith
pieces_few K H _ _ (opening chunk rest sign p _ _ begins cut) some =
    let so_far = pieces_few K H rest p cut begins.1 in
    let long : length chunk ≡ suc (length rest) = ap length begins.0 in
    omega arith
pieces_few K H _ _ (owner chunk rest p _ _ _ _ ends cut) some =
    let so_far = pieces_few K H rest p cut ends.1 in
    let long : length chunk ≡ length rest + 2 = ap length ends.0 ∙ length-append rest possessive in
    let after = length-append p.after (possessive ∷ []) in
    omega arith
pieces_few K H _ _ (unknown chunk _ _ _ _) some = let least = some_bytes chunk some in omega arith

-- ---- tokens

abbrev pub AreSolidTokens : List Token → Type 0
AreSolidTokens ts = AllByRecursion (λ (t : Token). HasNoBlank t.text) ts

abbrev ArePiecesOf : List (Bool × List ℕ) → Type 0
ArePiecesOf ps = AllByRecursion (λ (p : Bool × List ℕ). HasNoBlank p.1) ps

off_solid : (texts : List (List ℕ)) → AllByRecursion HasNoBlank texts → ArePiecesOf (cut_off texts)
off_solid [] all = tt
off_solid (text ∷ texts) all = (all.0, off_solid texts all.1)

off_long : (texts : List (List ℕ)) → length (cut_off texts) ≡ length texts
off_long [] = refl
off_long (text ∷ texts) = ap suc (off_long texts)

piece_tokens : (dict : Dictionary) (from : ℕ) (ps : List (Bool × List ℕ)) (ts : List Token) → AreOfPieces dict from ps ts → ArePiecesOf ps → AreSolidTokens ts × (length ts ≡ length ps)
piece_tokens dict from [] ts are all = (subst AreSolidTokens (sym are) tt, ap length are)
piece_tokens dict from (p ∷ ps) [] are all = absurd are
piece_tokens dict from (p ∷ ps) (t ∷ ts) are all =
    let rest = piece_tokens dict (from + length p.1) ps ts are.1 all.1 in
    ((subst HasNoBlank (sym are.0.text) all.0, rest.0), ap suc rest.1)

chunk_tokens : (dict : Dictionary) (initial : Bool) (chunk : List ℕ × ℕ) (ts : List Token) → AreOfChunk dict initial chunk ts → HasNoBlank chunk.0 → chunk.0 ≢ [] → AreSolidTokens ts × (length ts ≤ length chunk.0)
chunk_tokens dict initial chunk ts are solid some =
    let p = are.0 in
    let parts = cut_solid _ _ chunk.0 p are.1 solid in
    let few = pieces_few _ _ chunk.0 p are.1 some in
    let texts : ArePiecesOf (pieces_of initial p) = all_append _ (cut_off p.before) ((initial, p.middle) ∷ cut_off p.after) (off_solid p.before parts.before) (parts.middle, off_solid p.after parts.after) in
    let tokens = piece_tokens dict chunk.1 (pieces_of initial p) ts are.2 texts in
    let count : length (pieces_of initial p) ≡ length p.before + suc (length p.after) =
    length-append (cut_off p.before) ((initial, p.middle) ∷ cut_off p.after) ∙ (λ i. off_long p.before i + suc (off_long p.after i)) in
    (tokens.0, omega (arith, few, tokens.1, count))

inner_tokens : (dict : Dictionary) (initial : Bool) (chunks : List (List ℕ × ℕ)) (ts : List Token) (before : ℕ) (bytes : List ℕ) → AreRuns Blanks chunks before bytes → AreOfChunks dict initial chunks ts
    → AreSolidTokens ts × (length ts ≤ length bytes)
inner_tokens dict initial [] ts before bytes runs are = (subst AreSolidTokens (sym are) tt, (let none : length ts ≡ 0 = ap length are in omega arith))
inner_tokens dict initial (c ∷ cs) ts before bytes runs are =
    let gap = runs.0 in
    let rest = runs.1 in
    let some = runs.3 in
    let here = chunk_tokens dict initial c are.0 are.3 (run_solid c.0 runs.4) some in
    let later = inner_tokens dict false cs are.1 (c.1 + length c.0) rest runs.8 are.4 in
    let size : length bytes ≡ length gap + (length c.0 + length rest) = ap length runs.6 ∙ length-append gap (c.0 ++ rest) ∙ ap (λ (n : ℕ). length gap + n) (length-append c.0 rest) in
    let count : length ts ≡ length are.0 + length are.1 = ap length are.2 ∙ length-append are.0 are.1 in
    (subst AreSolidTokens (sym are.2) (all_append _ are.0 are.1 here.0 later.0), omega (arith, here.1, later.1, size, count))

wall_tokens : (dict : Dictionary) (name : List ℕ) (at : ℕ) (ts : List Token) → IsWall dict name at ts → HasNoBlank name → AreSolidTokens ts × (length ts ≤ 1)
wall_tokens dict name at _ (stands has words are) solid = ((solid, tt), omega arith)
wall_tokens dict name at _ (absent none) solid = (tt, omega arith)

pub tokens_solid : (dict : Dictionary) (text : List ℕ) (ts : List Token) → AreTokens dict text ts → AreSolidTokens ts × (length ts ≤ length text + 2)
tokens_solid dict text ts are =
    let left = wall_tokens dict (codes "LEFT-WALL") 0 are.left are.left_wall refl in
    let right = wall_tokens dict (codes "RIGHT-WALL") (length text) are.right are.right_wall refl in
    let inner = inner_tokens dict true are.chunks are.inner 0 text are.runs are.of_chunks in
    let count : length ts ≡ length are.left + (length are.inner + length are.right) =
    ap length are.parts ∙ length-append are.left (are.inner ++ are.right) ∙ ap (λ (n : ℕ). length are.left + n) (length-append are.inner are.right) in
    (subst AreSolidTokens (sym are.parts) (all_append _ are.left (are.inner ++ are.right) left.0 (all_append _ are.inner are.right inner.0 right.0)), omega (arith, left.1, right.1, inner.1, count))
