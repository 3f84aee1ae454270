use Rattle.std.proofs.Common.{◌<◌, length, sym, subst, arith}
use Rattle.lg_forest.specs.Slots.{IsPowerOfTwo}
use Rattle.lg_forest.proofs.Slotting.{are_linked, same_long}
use Rattle.lg_forest.proofs.slots.make_room.Goals as goal

pub returns-clause-slots : goal.returns-clause-slots
returns-clause-slots g c =
    let count = c.in_ok-heads.ensures.count in
    let long = same_long c.linked.new.slots.items c.args.slots.now.items c.linked.ensures.same in
    let fits = c.requires.room in
    let more = c.wider.ensures.more in
    let room : length c.linked.new.slots.items < length _ = omega arith in
    are_linked g.K.Spread.spread c.args.slots.now.items c.linked.new.slots.items c.args.heads.now.items _ c.linked.ensures.same c.requires c.in_ok-heads.ensures.linked room (subst IsPowerOfTwo (sym count) c.wider.ensures.power) c.in_ok-heads.ensures.few
