use Rattle.lg_token.specs.declared.cuts.Cut.{Cut}
use Rattle.lg_token.specs.Cuts.{AreCut}
use Rattle.lg_token.specs.Steps.{pieces_in}
use Rattle.lg_token.proofs.Cutting.{leads_whole}
use Rattle.lg_token.proofs.Lengths.{length-pieces}
use Rattle.lg_token.proofs.cuts.cut_chunk.Goals as goal

pub returns : goal.returns
returns c =
    let cut : Cut = record { before = c.loop-after.before; middle = c.loop-after.middle; after = c.reverse.new.self } in
    let pieces : AreCut c.args.view.now c.args.initial c.args.chunk.now (pieces_in cut) =
    leads_whole c.args.view.now c.args.initial c.args.chunk.now cut c.loop-after.after.items c.reverse.ensures.items (rw c.in_default.is at c.in_ok-off.ensures) c.loop-after.invariant in
    record { pieces = pieces; lengths = length-pieces _ _ c.args.chunk.now (pieces_in cut) pieces }
