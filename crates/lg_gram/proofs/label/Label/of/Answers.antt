use Rattle.std.proofs.Common.{◌≡◌, true}
use Rattle.lg_gram.specs.Names.{is_written}
use Rattle.lg_gram.proofs.Names.{stored_so, trimmed_written}
use Rattle.lg_gram.proofs.label.Label.of.Goals as goal

pub invariant_of-result : goal.invariant_of-result
invariant_of-result c =
    let written : is_written c.args.caps.now c.args.subs.now ≡ true = search c.if-not-can_be_name.ensures in
    rw c.packed.ensures (stored_so c.args.caps.now c.without_stars-kept.result.now
    (rw c.without_stars-kept.ensures.value (trimmed_written c.args.caps.now c.args.subs.now written)) c.without_stars-kept.ensures.short)
