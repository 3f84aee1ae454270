use Rattle.lg_gram.proofs.Names.{packed_parts}
use Rattle.lg_gram.proofs.label.packed.Goals as goal

pub returns : goal.returns
returns c = rw (c.copy_from_slice.ensures.after, c.copy_from_slice-2.ensures.after) (packed_parts c.args.caps.now c.args.subs.now c.requires)
