use Rattle.std.proofs.Common.{◌≡◌, ◌↔◌, ◌⊎◌, suc, length, OnOk, sym, subst, Contains}
use Rattle.lg_region.specs.declared.key.Key.{Key}
use Rattle.lg_forest.specs.NearKeys.{dead_keys}
use Rattle.lg_forest.proofs.Asked.{on_ok_as}
use Rattle.lg_forest.proofs.NearKeys.{far_after, far_longer, far_more}
use Rattle.lg_forest.proofs.dead.DeadKeys.add.Goals as goal

pub invariant_of-self : goal.invariant_of-self
invariant_of-self c =
    let inside = c.self.inside in
    far_after c.add.result inside.ends inside.near inside.others c.add.new.self c.args.key.now c.self.invariant c.in-None.ensures c.add.ensures.added c.add.ensures.unchanged

pub returns-in-Some-clause-added : goal.returns-in-Some-clause-added
returns-in-Some-clause-added c =
    subst (λ z. OnOk c.add_near.result ((k : Key) → Contains c.add_near.new.self k ↔ (Contains c.args.self.now k ⊎ (k ≡ z)))) (sym c.in-Some.ensures.0) c.add_near.ensures.added

pub returns-in-Some-clause-longer : goal.returns-in-Some-clause-longer
returns-in-Some-clause-longer c =
    subst (λ z. OnOk c.add_near.result ((Contains c.args.self.now z → ⊥) → length c.add_near.new.self ≡ suc (length c.args.self.now))) (sym c.in-Some.ensures.0) c.add_near.ensures.longer

pub returns-in-None-clause-added : goal.returns-in-None-clause-added
returns-in-None-clause-added c =
    let inside = c.self.inside in
    on_ok_as c.add.result _ _
    (λ added. subst (λ z. (k : Key) → Contains (dead_keys inside.ends inside.near c.add.new.self) k ↔ (Contains z k ⊎ (k ≡ c.args.key.now))) c.self.view_is (far_more inside.ends inside.near inside.others c.add.new.self c.args.key.now added))
    c.add.ensures.added

pub returns-in-None-clause-longer : goal.returns-in-None-clause-longer
returns-in-None-clause-longer c =
    let inside = c.self.inside in
    on_ok_as c.add.result _ _
    (λ longer. subst (λ z. (Contains z c.args.key.now → ⊥) → length (dead_keys inside.ends inside.near c.add.new.self) ≡ suc (length z)) c.self.view_is (far_longer inside.ends inside.near inside.others c.add.new.self c.args.key.now longer))
    c.add.ensures.longer
