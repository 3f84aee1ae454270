use Rattle.std.proofs.Common.{◌<◌, length, arith, refl}
use Rattle.std.proofs.lemmas.Grind.{common_steps}
use Rattle.std.proofs.lemmas.Option.{slice_get_read}
use Rattle.lg_sharpen.proofs.Away.{set_more}
use Rattle.lg_sharpen.proofs.needs.set_need.Goals as goal

pub loop-place-preserved : goal.loop-place-preserved
loop-place-preserved c =
    let long = c.loop-place.invariant.long in
    let count = c.len-count.ensures in
    let test = c.loop-place-test.true in
    let below : c.loop-place.place < length c.loop-place.sites.items = grind (arith, common_steps) in
    set_more c.args.need c.loop-place.place c.args.sites.now.items c.loop-place.sites.items c.index-old.result.now _
    (slice_get_read c.loop-place.sites.items (length c.loop-place.sites.items) c.loop-place.place c.index-old.result.now refl below c.index-old.ensures) refl c.loop-place.invariant

pub returns : goal.returns
returns c = c.loop-place.invariant.sets
