use Rattle.std.proofs.Common.{Contains, ap, sym, ◌∙◌, subst}
use Rattle.std.specs.Map.{keys_of}
use Rattle.lg_forest.specs.Slots.{HasBits, IsAt, keys_in, pairs_in}
use Rattle.lg_forest.proofs.Slotting.{keys_seen, no_bits, only_at, taken_at}
use Rattle.lg_forest.proofs.slots.Slots+K+u64.bits.Goals as goal

pub returns-in-Some-clause-bits : goal.returns-in-Some-clause-bits
returns-in-Some-clause-bits g c =
    let slots = c.self.inside.slots.items in
    let key = c.args.key.now in
    let at = c.in-Some.at in
    let slot = c.index.result.now in
    let is = subst (λ z. IsAt z key at) c.deref.ensures.value c.in-Some.ensures in
    let had : Contains (pairs_in slots) (key, slot.value) = taken_at slots at slot slot.value c.index.ensures key is in
    subst (λ z. HasBits z key slot.value) c.self.view_is (record { only = λ b h. only_at slots at key slot.value b c.self.invariant.once is had h; there = λ some. had })

pub returns-in-None-clause-bits : goal.returns-in-None-clause-bits
returns-in-None-clause-bits g c = no_bits c.args.self.now c.args.key.now
    (subst (λ z. Contains z c.args.key.now → ⊥) (ap keys_in c.deref.ensures.value ∙ sym (keys_seen c.self.inside.slots.items) ∙ ap keys_of c.self.view_is) c.in-None.ensures)
