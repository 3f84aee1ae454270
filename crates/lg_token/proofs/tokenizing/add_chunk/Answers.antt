use Rattle.lg_token.specs.Steps.{pieces_in}
use Rattle.lg_token.proofs.Adding.{chunk_added}
use Rattle.lg_token.proofs.tokenizing.add_chunk.Goals as goal

pub returns : goal.returns
returns c =
    let dict = c.args.view.now in
    chunk_added dict c.args.start c.args.initial c.args.chunk.now (pieces_in c.in_ok-cut.cut) c.in_ok-middle.middle c.args.places.now.items c.add_pieces.new.places.items c.add_piece.new.places.items
    c.add_pieces-2.new.places.items c.in_ok-cut.ensures.pieces (rw c.deref.ensures.value at c.in_ok-middle.ensures.end) (rw c.deref.ensures.value at c.in_ok-middle.ensures.added dict) (c.in_ok-add_piece.ensures dict)
    (rw c.deref-2.ensures.value at c.in_ok-add_pieces.ensures.added dict)
