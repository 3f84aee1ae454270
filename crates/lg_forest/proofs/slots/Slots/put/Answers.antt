use Rattle.std.proofs.Common.{◌≡◌, ◌⊎◌, Contains, ap, sym, ◌∙◌, subst}
use Rattle.std.proofs.lemmas.List.Elements.{Contains-append_left, Contains-push}
use Rattle.std.specs.Map.{keys_of}
use Rattle.lg_forest.specs.Slots.{IsAt, keys_in}
use Rattle.lg_forest.proofs.Slotting.{are_same, keys_seen, put_last}
use Rattle.lg_forest.proofs.slots.Slots.put.Goals as goal

pub invariant_of-self : goal.invariant_of-self
invariant_of-self g c = are_same g.K.Spread.spread c.self.inside.slots.items c.replace_at.new.slots.items c.self.inside.heads.items c.replace_at.ensures.keys c.replace_at.ensures.nexts c.self.invariant

pub add-requires : goal.add-requires
add-requires g c = subst (λ z. Contains z c.args.key → ⊥) (ap keys_in c.deref.ensures.value ∙ sym (keys_seen c.self.inside.slots.items) ∙ ap keys_of c.self.view_is) c.in-None.ensures

pub returns-in-Some-clause-taken : goal.returns-in-Some-clause-taken
returns-in-Some-clause-taken g c = subst (λ z. Contains z (c.args.key, c.replace_at.result)) c.self.view_is (c.replace_at.ensures.taken c.args.key (subst (λ z. IsAt z c.args.key c.in-Some.at) c.deref.ensures.value c.in-Some.ensures))

pub returns-in-Some-clause-put : goal.returns-in-Some-clause-put
returns-in-Some-clause-put g c = λ k v has. subst (λ z. Contains z (k, v) ⊎ ((k ≡ c.args.key) × (v ≡ c.args.value))) c.self.view_is (c.replace_at.ensures.put c.args.key k v (subst (λ z. IsAt z c.args.key c.in-Some.at) c.deref.ensures.value c.in-Some.ensures) has)

pub returns-in-Some-clause-there : goal.returns-in-Some-clause-there
returns-in-Some-clause-there g c = c.replace_at.ensures.there c.args.key (subst (λ z. IsAt z c.args.key c.in-Some.at) c.deref.ensures.value c.in-Some.ensures)

pub returns-in-Some-clause-kept : goal.returns-in-Some-clause-kept
returns-in-Some-clause-kept g c = λ k v other has. c.replace_at.ensures.kept c.args.key k v (subst (λ z. IsAt z c.args.key c.in-Some.at) c.deref.ensures.value c.in-Some.ensures) other (subst (λ z. Contains z (k, v)) (sym c.self.view_is) has)

pub returns-in_ok-add-in-None-clause-taken : goal.returns-in_ok-add-in-None-clause-taken
returns-in_ok-add-in-None-clause-taken g c = subst (λ z. Contains z c.args.key → ⊥) (ap keys_in c.deref.ensures.value ∙ sym (keys_seen c.self.inside.slots.items) ∙ ap keys_of c.self.view_is) c.in-None.ensures

pub returns-in_ok-add-in-None-clause-put : goal.returns-in_ok-add-in-None-clause-put
returns-in_ok-add-in-None-clause-put g c = λ k v has. put_last c.args.self.now c.args.key c.args.value k v (subst (λ z. Contains z (k, v)) c.in_ok-add-in-None.ensures.added has)

pub returns-in_ok-add-in-None-clause-there : goal.returns-in_ok-add-in-None-clause-there
returns-in_ok-add-in-None-clause-there g c = subst (λ z. Contains z (c.args.key, c.args.value)) (sym c.in_ok-add-in-None.ensures.added) (Contains-push c.args.self.now (c.args.key, c.args.value))

pub returns-in_ok-add-in-None-clause-kept : goal.returns-in_ok-add-in-None-clause-kept
returns-in_ok-add-in-None-clause-kept g c = λ k v other has. subst (λ z. Contains z (k, v)) (sym c.in_ok-add-in-None.ensures.added) (Contains-append_left c.args.self.now _ (k, v) has)
