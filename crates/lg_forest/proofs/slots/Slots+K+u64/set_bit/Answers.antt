use Rattle.std.proofs.Common.{◌≡◌, ◌++◌, ◌∷◌, ◌⊎◌, [], Contains, ap, sym, ◌∙◌, subst}
use Rattle.std.specs.Map.{keys_of}
use Rattle.lg_forest.specs.Slots.{IsAt, SetsBit, keys_in, pairs_in}
use Rattle.lg_forest.proofs.Asked.{on_ok_as}
use Rattle.lg_forest.proofs.Slotting.{are_same, bit_added, keys_seen, only_at, taken_at}
use Rattle.lg_forest.proofs.slots.Slots+K+u64.set_bit.Goals as goal

pub invariant_of-self : goal.invariant_of-self
invariant_of-self g c = are_same g.K.Spread.spread c.self.inside.slots.items c.replace_at.new.slots.items c.self.inside.heads.items c.replace_at.ensures.keys c.replace_at.ensures.nexts c.self.invariant

pub add-requires : goal.add-requires
add-requires g c = subst (λ z. Contains z c.args.key → ⊥) (ap keys_in c.deref.ensures.value ∙ sym (keys_seen c.self.inside.slots.items) ∙ ap keys_of c.self.view_is) c.in-None.ensures

pub returns-in-Some-clause-set : goal.returns-in-Some-clause-set
returns-in-Some-clause-set g c =
    let slots = c.self.inside.slots.items in
    let key = c.args.key in
    let at = c.in-Some.at in
    let slot = c.index.result.now in
    let is = subst (λ z. IsAt z key at) c.deref.ensures.value c.in-Some.ensures in
    let had : Contains (pairs_in slots) (key, slot.value) = taken_at slots at slot slot.value c.index.ensures key is in
    subst (λ z. SetsBit z key c.args.place (pairs_in c.replace_at.new.slots.items)) c.self.view_is (record {
      bits = slot.value;
      had = record { only = λ b h. only_at slots at key slot.value b c.self.invariant.once is had h; there = λ some. had };
      there = subst (λ z. Contains (pairs_in c.replace_at.new.slots.items) (key, z)) c.with_bit-bits.ensures (c.replace_at.ensures.there key is);
      put = λ k b h. subst (λ z. Contains (pairs_in slots) (k, b) ⊎ ((k ≡ key) × (b ≡ z))) c.with_bit-bits.ensures (c.replace_at.ensures.put key k b is h);
      kept = λ k b other h. c.replace_at.ensures.kept key k b is other h;
    })

pub returns-in-None-clause-set : goal.returns-in-None-clause-set
returns-in-None-clause-set g c =
    on_ok_as c.add.result (c.add.new.self ≡ c.args.self.now ++ (c.args.key, c.with_bit.result) ∷ []) (SetsBit c.args.self.now c.args.key c.args.place c.add.new.self)
    (bit_added c.args.self.now c.args.key c.args.place c.with_bit.result c.add.new.self c.with_bit.ensures
    (subst (λ z. Contains z c.args.key → ⊥) (ap keys_in c.deref.ensures.value ∙ sym (keys_seen c.self.inside.slots.items) ∙ ap keys_of c.self.view_is) c.in-None.ensures))
    c.add.ensures.added
