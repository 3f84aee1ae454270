use Rattle.std.proofs.Common.{◌+◌, ◌-◌, ◌∙◌, length}
use borrow.Rule.Slice.PartMut.{put_mid}
use Rattle.lg_gram.proofs.Names.{put_zeros}
use Rattle.lg_gram.proofs.label.put.Goals as goal

pub returns-clause-written : goal.returns-clause-written
returns-clause-written c = λ text length_is holds.
    let bytes = c.args.bytes.now in
    let at = c.args.at in
    (λ i. put_mid at (at + length bytes - at) (holds i) (c.copy_from_slice.ensures.after i)) ∙ put_zeros text bytes at length_is
