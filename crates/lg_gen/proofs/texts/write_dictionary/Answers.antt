use Rattle.std.proofs.Common.{◌<◌, rules}
use Rattle.lg_gen.proofs.Steps.{piece_more, entry_left}
use Rattle.lg_gen.proofs.texts.write_dictionary.Goals as goal

pub loop-number-preserved : goal.loop-number-preserved
loop-number-preserved c =
    let more : c.loop-number.number < c.args.words = search rules in
    piece_more _ _ _ _ _ _ c.in_ok-write_entry.ensures (entry_left _ _ more) c.loop-number.invariant
