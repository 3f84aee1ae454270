use Rattle.std.proofs.Common.{◌≢◌, ◌-◌, ◌<◌, length, sym, ◌∙◌, true≢false, arith}
use Rattle.lg_forest.specs.Slots.{keys_in}
use Rattle.lg_forest.proofs.Slotting.{long_keys, not_there, read_at, seek_down, seek_next}
use Rattle.lg_forest.proofs.slots.seek_from.Goals as goal

pub returns-then-is : goal.returns-then-is
returns-then-is g c =
    let slots = c.args.slots.now in
    let within = c.loop-next.invariant.within in
    let long = long_keys g.K.Spread.spread slots in
    let some = c.loop-next-test.true in
    let l : c.loop-next.next - 1 < length slots = omega arith in
    let slot = c.index-slots-next.result in
    (slot, read_at slots (c.loop-next.next - 1) slot l c.index-slots-next.is, c.is.ensures.0 c.if-is.true)

pub loop-next-smaller : goal.loop-next-smaller
loop-next-smaller g c =
    let slots = c.args.slots.now in
    let within = c.loop-next.invariant.within in
    let long = long_keys g.K.Spread.spread slots in
    let some = c.loop-next-test.true in
    let l : c.loop-next.next - 1 < length slots = omega arith in
    let slot = c.index-slots-next.result in
    seek_down g.K.Spread.spread slots c.args.heads.now c.loop-next.next slot c.requires.slots some (read_at slots (c.loop-next.next - 1) slot l c.index-slots-next.is)

pub loop-next-preserved : goal.loop-next-preserved
loop-next-preserved g c =
    let slots = c.args.slots.now in
    let within = c.loop-next.invariant.within in
    let long = long_keys g.K.Spread.spread slots in
    let some = c.loop-next-test.true in
    let l : c.loop-next.next - 1 < length slots = omega arith in
    let slot = c.index-slots-next.result in
    let other : slot.key ≢ c.args.key.now = λ e. true≢false (sym (c.is.ensures.1 e) ∙ c.if-is.false) in
    seek_next g.K.Spread.spread slots c.args.heads.now c.args.key.now c.loop-next.next slot c.requires.slots some (read_at slots (c.loop-next.next - 1) slot l c.index-slots-next.is) other c.loop-next.invariant

pub returns : goal.returns
returns g c =
    let none = c.loop-next-test.false in
    not_there g.K.Spread.spread (length c.args.heads.now) (keys_in c.args.slots.now) c.args.key.now c.loop-next.next (omega arith) c.loop-next.invariant
