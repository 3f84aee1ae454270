use Rattle.std.proofs.Common.{◌≡◌, sym, subst}
use Rattle.lg_forest.proofs.Slotting.{read_at}
use Rattle.lg_forest.proofs.slots.seek_near.Goals as goal

-- the slot of the place that is tried first has the key
pub returns-then-is : goal.returns-then-is
returns-then-is g c =
    let slots = c.args.slots.now in
    let near = c.args.near in
    let slot = c.index-slots-near.result in
    (slot, read_at slots near slot c.if-near-slots.true c.index-slots-near.is, subst (λ z. z.key ≡ c.args.key.now) (sym c.index-slots-near.is) (c.is.ensures.0 c.if-is.true))
