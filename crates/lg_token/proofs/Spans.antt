-- The tokens of a sentence lie in it, one after another.
use Rattle.std.proofs.Common.{◌≡◌, ◌≢◌, ◌+◌, ◌-◌, ◌<◌, ◌≤◌, ℕ, List, [], ◌∷◌, ◌++◌, Bool, true, false, length, take, drop, codes, All, AllPairs, refl, sym, ap, subst, ◌∙◌, arith, append_assoc, append-nil, length-append}
use Rattle.std.specs.Prelude.{slice_range}
use Rattle.std.specs.List.{concat}
use Rattle.std.proofs.lemmas.List.{take_at, drop_at}
use Rattle.std.proofs.lemmas.List.Elements.{All-nil, All-cons, All-push, All-append, All-map, All-head, All-tail, All-weaker}
use Rattle.std.proofs.lemmas.List.Folds.{concat-append}
use Rattle.std.proofs.lemmas.List.Kept.{AllPairs-cons}
use Rattle.lg_gram.specs.declared.listing.Token.{Token}
use Rattle.lg_lex.specs.Runs.{AreRuns}
use Rattle.lg_lex.specs.declared.run.Separators.TheVariants.{Blanks}
use Rattle.lg_dict.specs.Dictionary.{Dictionary}
use Rattle.lg_token.specs.Cuts.{possessive, Pieces, IsCut, known, closing, opening, owner, unknown}
use Rattle.lg_token.specs.Tokens.{cut_off, pieces_of, AreOfPieces, AreOfChunk, AreOfChunks, IsWall, stands, absent, AreTokens}
use Rattle.lg_token.specs.Spans.{LiesIn, is_piece, is_left_wall, is_right_wall, LieInOrder}

-- ---- the pieces of a chunk: joined they are the chunk, and none is empty

IsSome : List ℕ → Type 0
IsSome w = w ≢ []

joined : List (Bool × List ℕ) → List ℕ
joined [] = []
joined (p ∷ ps) = p.1 ++ joined ps

joined-append : (ps qs : List (Bool × List ℕ)) → joined (ps ++ qs) ≡ joined ps ++ joined qs
unfolding joined
joined-append [] qs = refl
joined-append (p ∷ ps) qs = ap (λ l. p.1 ++ l) (joined-append ps qs) ∙ sym (append_assoc p.1 (joined ps) (joined qs))

joined-cut_off : (texts : List (List ℕ)) → joined (cut_off texts) ≡ concat texts
unfolding joined
joined-cut_off [] = refl
joined-cut_off (t ∷ ts) = ap (λ l. t ++ l) (joined-cut_off ts)

abbrev all_of : Pieces → List ℕ
all_of p = concat p.before ++ (p.middle ++ concat p.after)

all_after : (b m w : List ℕ) (a : List (List ℕ)) → b ++ (m ++ concat (a ++ w ∷ [])) ≡ (b ++ (m ++ concat a)) ++ w
all_after b m w a =
    ap (λ l. b ++ (m ++ l)) (concat-append a (w ∷ []) ∙ ap (λ l. concat a ++ l) (append-nil w))
    ∙ ap (λ l. b ++ l) (sym (append_assoc m (concat a) w))
    ∙ sym (append_assoc b (m ++ concat a) w)

module _ (Known : List ℕ → Type 0) (HasPossessive : Type 0) where
  cut_joins : (chunk : List ℕ) (p : Pieces) → IsCut Known HasPossessive chunk p → all_of p ≡ chunk
  cut_joins chunk p (known _ _) = append-nil chunk
  cut_joins chunk p (closing _ rest sign q _ ends cut) = all_after (concat q.before) q.middle (sign ∷ []) q.after ∙ ap (λ l. l ++ sign ∷ []) (cut_joins rest q cut) ∙ sym ends.0
  cut_joins chunk p (opening _ rest sign q _ _ begins cut) = ap (λ l. sign ∷ l) (cut_joins rest q cut) ∙ sym begins.0
  cut_joins chunk p (owner _ rest q _ _ _ _ ends cut) = all_after (concat q.before) q.middle possessive q.after ∙ ap (λ l. l ++ possessive) (cut_joins rest q cut) ∙ sym ends.0
  cut_joins chunk p (unknown _ _ _ _ _) = append-nil chunk

  record AreSome (p : Pieces) : Type 0 where
    before : All IsSome p.before
    middle : IsSome p.middle
    after : All IsSome p.after

  whole_some : (chunk : List ℕ) → IsSome chunk → AreSome (record { before = []; middle = chunk; after = [] })
  whole_some chunk some = record { before = All-nil IsSome; middle = some; after = All-nil IsSome }

  one_some : (b : ℕ) (w : List ℕ) → IsSome (b ∷ w)
  unfolding IsSome
  one_some b w e = cc

  cut_some : (chunk : List ℕ) (p : Pieces) → IsCut Known HasPossessive chunk p → IsSome chunk → AreSome p
  unfolding IsSome
  cut_some chunk p (known _ _) some = whole_some chunk some
  cut_some chunk p (closing _ rest sign q _ ends cut) some =
      let is = cut_some rest q cut ends.1 in
      record { before = is.before; middle = is.middle; after = All-push IsSome q.after (sign ∷ []) is.after (one_some sign []) }
  cut_some chunk p (opening _ rest sign q _ _ begins cut) some =
      let is = cut_some rest q cut begins.1 in
      record { before = All-cons IsSome (sign ∷ []) q.before (one_some sign []) is.before; middle = is.middle; after = is.after }
  cut_some chunk p (owner _ rest q _ _ _ _ ends cut) some =
      let is = cut_some rest q cut ends.1 in
      record { before = is.before; middle = is.middle; after = All-push IsSome q.after possessive is.after (one_some _ _) }
  cut_some chunk p (unknown _ _ _ _ _) some = whole_some chunk some

  -- as they stand in the chunk
  pieces_join : (initial : Bool) (chunk : List ℕ) (p : Pieces) → IsCut Known HasPossessive chunk p → joined (pieces_of initial p) ≡ chunk
  unfolding joined
  pieces_join initial chunk p cut =
      joined-append (cut_off p.before) ((initial, p.middle) ∷ cut_off p.after)
      ∙ (λ i. joined-cut_off p.before i ++ (p.middle ++ joined-cut_off p.after i))
      ∙ cut_joins chunk p cut

  pieces_some : (initial : Bool) (chunk : List ℕ) (p : Pieces) → IsCut Known HasPossessive chunk p → IsSome chunk → All (λ q. IsSome q.1) (pieces_of initial p)
  pieces_some initial chunk p cut some =
      let is = cut_some chunk p cut some in
      let Q : Bool × List ℕ → Type 0 = λ q. IsSome q.1 in
      All-append Q (cut_off p.before) ((initial, p.middle) ∷ cut_off p.after)
      (All-map Q (λ (t : List ℕ). (false, t)) p.before is.before)
      (All-cons Q (initial, p.middle) (cut_off p.after) is.middle (All-map Q (λ (t : List ℕ). (false, t)) p.after is.after))

-- ---- tokens that lie in order from one place to another

some_length : (w : List ℕ) → IsSome w → 0 < length w
unfolding IsSome
some_length [] some = absurd (some refl)
some_length (b ∷ w) some = omega arith

module _ (text : List ℕ) where
  LieFrom : ℕ → ℕ → List Token → Type 0
  LieFrom from end [] = from ≤ end
  LieFrom from end (t ∷ ts) = (from ≤ t.from) × LiesIn text t × LieFrom t.to end ts

  lie_earlier : (from middle end : ℕ) (ts : List Token) → from ≤ middle → LieFrom middle end ts → LieFrom from end ts
  unfolding LieFrom
  lie_earlier from middle end [] low lie = omega (arith, low, lie)
  lie_earlier from middle end (t ∷ ts) low lie = (omega (arith, low, lie.0), lie.1, lie.2)

  lie_append : (from middle end : ℕ) (ts us : List Token) → LieFrom from middle ts → LieFrom middle end us → LieFrom from end (ts ++ us)
  unfolding LieFrom
  lie_append from middle end [] us first then = lie_earlier from middle end us first then
  lie_append from middle end (t ∷ ts) us first then = (first.0, first.1, lie_append t.to middle end ts us first.2 then)

  stands_there : (front w rest : List ℕ) (at : ℕ) → text ≡ front ++ (w ++ rest) → at ≡ length front → slice_range text at (at + length w) ≡ w
  stands_there front w rest at is place =
      ap (λ l. take (at + length w - at) (drop at l)) is
      ∙ ap (take (at + length w - at)) (drop_at front (w ++ rest) at (sym place))
      ∙ take_at w rest (at + length w - at) (omega arith)

  module _ (dict : Dictionary) where
    pieces_lie : (ps : List (Bool × List ℕ)) (front rest : List ℕ) (at end : ℕ) (ts : List Token) → text ≡ front ++ (joined ps ++ rest) → at ≡ length front → end ≡ at + length (joined ps)
        → All (λ q. IsSome q.1) ps → AreOfPieces dict at ps ts → LieFrom at end ts
    unfolding joined LieFrom
    pieces_lie [] front rest at end ts is place ends some are = subst (LieFrom at end) (sym are) (omega (arith, ends))
    pieces_lie (p ∷ ps) front rest at end [] is place ends some are = absurd are
    pieces_lie (p ∷ ps) front rest at end (t ∷ ts) is place ends some are =
        let token = are.0 in
        let split : text ≡ front ++ (p.1 ++ (joined ps ++ rest)) = is ∙ ap (λ l. front ++ l) (append_assoc p.1 (joined ps) rest) in
        let next : text ≡ (front ++ p.1) ++ (joined ps ++ rest) = split ∙ sym (append_assoc front p.1 (joined ps ++ rest)) in
        let long : length text ≡ length front + (length p.1 + length (joined ps ++ rest)) = ap length split ∙ length-append front (p.1 ++ (joined ps ++ rest)) ∙ ap (λ n. length front + n) (length-append p.1 (joined ps ++ rest)) in
        let whole : length (p.1 ++ joined ps) ≡ length p.1 + length (joined ps) = length-append p.1 (joined ps) in
        let here = some_length p.1 (All-head (λ (q : Bool × List ℕ). IsSome q.1) p ps some) in
        let same : slice_range text t.from t.to ≡ p.1 = (λ i. slice_range text (token.begins i) (token.ends i)) ∙ stands_there front p.1 (joined ps ++ rest) at split place in
        let rest_lie = pieces_lie ps (front ++ p.1) rest (at + length p.1) end ts next (omega (arith, place, length-append front p.1)) (omega (arith, ends, whole)) (All-tail (λ (q : Bool × List ℕ). IsSome q.1) p ps some) are.1 in (
          omega (arith, token.begins),
          is_piece (omega (arith, token.begins, token.ends, here)) (omega (arith, token.ends, place, long)) (token.text ∙ sym same),
          subst (λ n. LieFrom n end ts) (sym token.ends) rest_lie,
        )

    chunk_lies : (initial : Bool) (chunk : List ℕ × ℕ) (front rest : List ℕ) (ts : List Token) → text ≡ front ++ (chunk.0 ++ rest) → chunk.1 ≡ length front → IsSome chunk.0
        → AreOfChunk dict initial chunk ts → LieFrom chunk.1 (chunk.1 + length chunk.0) ts
    chunk_lies initial chunk front rest ts is place some (p, cut, are) =
        let same = pieces_join _ _ initial chunk.0 p cut in
        pieces_lie (pieces_of initial p) front rest chunk.1 (chunk.1 + length chunk.0) ts (is ∙ ap (λ l. front ++ (l ++ rest)) (sym same)) place (ap (λ l. chunk.1 + length l) (sym same)) (pieces_some _ _ initial chunk.0 p cut some) are

    chunks_lie : (initial : Bool) (cs : List (List ℕ × ℕ)) (front bytes : List ℕ) (before : ℕ) (ts : List Token) → text ≡ front ++ bytes → before ≡ length front
        → AreRuns Blanks cs before bytes → AreOfChunks dict initial cs ts → LieFrom before (length text) ts
    unfolding LieFrom IsSome
    chunks_lie initial [] front bytes before ts is place runs are =
        subst (LieFrom before (length text)) (sym are) (omega (arith, place, ap length is, length-append front bytes))
    chunks_lie initial (c ∷ cs) front bytes before ts is place (gap, rest, separators, some, inner, ends, split, start, after) (here, more, same, of_chunk, of_rest) =
        let cut : text ≡ (front ++ gap) ++ (c.0 ++ rest) = is ∙ ap (λ l. front ++ l) split ∙ sym (append_assoc front gap (c.0 ++ rest)) in
        let at : c.1 ≡ length (front ++ gap) = omega (arith, start, place, length-append front gap) in
        let next : text ≡ ((front ++ gap) ++ c.0) ++ rest = cut ∙ sym (append_assoc (front ++ gap) c.0 rest) in
        let first = chunk_lies initial c (front ++ gap) rest here cut at some of_chunk in
        let then = chunks_lie false cs ((front ++ gap) ++ c.0) rest (c.1 + length c.0) more next (omega (arith, at, length-append (front ++ gap) c.0)) after of_rest in
        subst (LieFrom before (length text)) (sym same) (lie_earlier before c.1 (length text) (here ++ more) (omega (arith, start)) (lie_append c.1 (c.1 + length c.0) (length text) here more first then))

    wall_lies : (name : List ℕ) (at : ℕ) (ts : List Token) → ((words : List (List ℕ)) → LiesIn text (record { from = at; to = at; text = name; words = words })) → IsWall dict name at ts → LieFrom at at ts
    unfolding LieFrom
    wall_lies name at ts lies (stands has words are) = (omega arith, lies words, omega arith)
    wall_lies name at ts lies (absent none) = omega arith

    tokens_lie : (ts : List Token) → AreTokens dict text ts → LieFrom 0 (length text) ts
    tokens_lie ts are =
        let left = wall_lies (codes "LEFT-WALL") 0 are.left (λ words. is_left_wall refl refl refl) are.left_wall in
        let inner = chunks_lie true are.chunks [] text 0 are.inner refl refl are.runs are.of_chunks in
        let right = wall_lies (codes "RIGHT-WALL") (length text) are.right (λ words. is_right_wall refl refl refl) are.right_wall in
        subst (LieFrom 0 (length text)) (sym are.parts) (lie_append 0 0 (length text) are.left (are.inner ++ are.right) left (lie_append 0 (length text) (length text) are.inner are.right inner right))

  -- ---- so each lies there, and they stand in order
  forward : (t : Token) → LiesIn text t → t.from ≤ t.to
  forward t (is_piece some within is) = omega (arith, some)
  forward t (is_left_wall from to is) = omega (arith, from, to)
  forward t (is_right_wall from to is) = omega (arith, from, to)

  all_lie : (from end : ℕ) (ts : List Token) → LieFrom from end ts → All (LiesIn text) ts
  unfolding LieFrom
  all_lie from end [] lie = All-nil (LiesIn text)
  all_lie from end (t ∷ ts) lie = All-cons (LiesIn text) t ts lie.1 (all_lie t.to end ts lie.2)

  all_later : (from end : ℕ) (ts : List Token) → LieFrom from end ts → All (λ (u : Token). from ≤ u.from) ts
  unfolding LieFrom
  all_later from end [] lie = All-nil (λ (u : Token). from ≤ u.from)
  all_later from end (t ∷ ts) lie =
      let on = forward t lie.1 in
      All-cons (λ (u : Token). from ≤ u.from) t ts lie.0 (All-weaker (λ (u : Token). t.to ≤ u.from) (λ (u : Token). from ≤ u.from) (λ u later. omega (arith, later, on, lie.0)) ts (all_later t.to end ts lie.2))

  in_order : (from end : ℕ) (ts : List Token) → LieFrom from end ts → AllPairs (λ (a b : Token). a.to ≤ b.from) ts
  unfolding LieFrom
  in_order from end [] lie = λ i j d less within. absurd (omega arith)
  in_order from end (t ∷ ts) lie = AllPairs-cons (λ (a b : Token). a.to ≤ b.from) t ts (all_later t.to end ts lie.2) (in_order t.to end ts lie.2)

pub lie_in_order : (dict : Dictionary) (text : List ℕ) (ts : List Token) → AreTokens dict text ts → LieInOrder text ts
lie_in_order dict text ts are =
    let lie = tokens_lie text dict ts are in
    record { lie = all_lie text 0 (length text) ts lie; order = in_order text 0 (length text) ts lie }
