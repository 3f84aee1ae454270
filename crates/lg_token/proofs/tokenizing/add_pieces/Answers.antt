use Rattle.std.proofs.Common.{◌≤◌, Bor, List, ℕ, [], length, map, take_all, subst, arith}
use Rattle.std.proofs.lemmas.List.{length-map}
use Rattle.lg_token.specs.Steps.{Adds}
use Rattle.lg_token.specs.Tokens.{cut_off, AreOfPieces}
use Rattle.lg_token.proofs.Adding.{text_at, place_fits, place_more, first_more}
use Rattle.lg_token.proofs.tokenizing.add_pieces.Goals as goal

pub add_piece-requires : goal.add_piece-requires
add_piece-requires c =
    let texts = map (λ piece. piece.now) c.args.pieces.now in
    let here = text_at c.args.pieces.now c.loop-piece.piece-index (record { ref_ptr = (0, 0); now = [] }) c.loop-piece-test.true in
    omega (arith, place_fits c.args.start texts c.loop-piece.piece-index c.loop-piece.at _ here.0 here.1 c.loop-piece.invariant.place)

pub loop-piece-preserved : goal.loop-piece-preserved
loop-piece-preserved c =
    let texts = map (λ piece. piece.now) c.args.pieces.now in
    let here = text_at c.args.pieces.now c.loop-piece.piece-index _ c.loop-piece-test.true in
    let i = c.loop-piece.piece-index in
    let at = c.loop-piece.at in
    record {
      place = place_more c.args.start texts i at _ here.0 here.1 c.loop-piece.invariant.place;
      added = λ dict. first_more dict c.args.start texts i at c.args.places.now.items c.loop-piece.places.items c.add_piece.new.places.items _ here.0 here.1 c.loop-piece.invariant.place
          (c.loop-piece.invariant.added dict) (c.in_ok-add_piece.ensures dict);
    }

pub returns-clause-added : goal.returns-clause-added
returns-clause-added c = λ dict.
    let texts = map (λ (piece : Bor (List ℕ)). piece.now) c.args.pieces.now in
    let i : ℕ = c.loop-piece.piece-index in
    let past : length texts ≤ i = omega (arith, length-map c.args.pieces.now (λ (piece : Bor (List ℕ)). piece.now), c.loop-piece-test.false) in
    subst (λ l. Adds dict (AreOfPieces dict c.args.start (cut_off l)) c.args.places.now.items c.loop-piece.places.items) (take_all i texts past) (c.loop-piece.invariant.added dict)
