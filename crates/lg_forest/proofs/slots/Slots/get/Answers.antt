use Rattle.std.proofs.Common.{◌≡◌, length, Contains, ap, sym, ◌∙◌, subst, arith, rules}
use Rattle.std.specs.Vec.{vec_len}
use Rattle.std.specs.Map.{keys_of}
use Rattle.lg_forest.specs.Slots.{IsAt, keys_in}
use Rattle.lg_forest.proofs.Slotting.{at_within, keys_seen, only_at, taken_at}
use Rattle.lg_forest.proofs.slots.Slots.get.Goals as goal

pub returns-in_default-clause-found : goal.returns-in_default-clause-found
returns-in_default-clause-found g c = subst (λ z. Contains z c.args.key.now → ⊥) (ap keys_in c.deref.ensures.value ∙ sym (keys_seen c.self.inside.slots.items) ∙ ap keys_of c.self.view_is) c.in_default.ensures

pub index-requires : goal.index-requires
index-requires g c =
    let within = at_within c.self.inside.slots.items c.args.key.now c.in-Some.at (subst (λ z. IsAt z c.args.key.now c.in-Some.at) c.deref.ensures.value c.in-Some.ensures) in
    let long : vec_len c.self.inside.slots ≡ length c.self.inside.slots.items = search rules in
    omega arith

pub returns-clause-found : goal.returns-clause-found
returns-clause-found g c = subst (λ z. Contains z (c.args.key.now, c.index.result.now.value)) c.self.view_is
    (taken_at c.self.inside.slots.items c.in-Some.at c.index.result.now c.index.result.now.value c.index.ensures c.args.key.now (subst (λ z. IsAt z c.args.key.now c.in-Some.at) c.deref.ensures.value c.in-Some.ensures))

pub returns-clause-only : goal.returns-clause-only
returns-clause-only g c = λ v has.
    let slots = c.self.inside.slots.items in
    let at = subst (λ z. IsAt z c.args.key.now c.in-Some.at) c.deref.ensures.value c.in-Some.ensures in
    only_at slots c.in-Some.at c.args.key.now c.index.result.now.value v c.self.invariant.once at
    (taken_at slots c.in-Some.at c.index.result.now c.index.result.now.value c.index.ensures c.args.key.now at)
    (subst (λ z. Contains z (c.args.key.now, v)) (sym c.self.view_is) has)
