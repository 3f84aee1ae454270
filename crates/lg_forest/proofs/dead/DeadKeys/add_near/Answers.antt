use Rattle.std.proofs.Common.{◌≡◌, ◌↔◌, ◌⊎◌, suc, length, OnOk, sym, ap, ◌∙◌, subst, Contains}
use Rattle.lg_region.specs.declared.key.Key.{Key}
use Rattle.lg_forest.specs.NearKeys.{dead_keys, key_of, placed}
use Rattle.lg_forest.specs.declared.dead.NearKey.{NearKey}
use Rattle.lg_forest.proofs.Asked.{on_ok_as}
use Rattle.lg_forest.proofs.NearKeys.{dead_kept, near_after, near_longer, near_more, on_err_as}
use Rattle.lg_forest.proofs.dead.DeadKeys.add_near.Goals as goal

pub invariant_of-self-2 : goal.invariant_of-self-2
invariant_of-self-2 c =
    let inside = c.self.inside in
    near_after c.add.result inside.ends c.give.new.self inside.near c.add.new.self inside.others c.args.near.now c.in_ok-end.end c.in_ok-end.ensures.kept c.self.invariant c.requires c.in_ok-end.ensures.place
    (subst (λ z. OnOk c.add.result ((k : NearKey) → Contains c.add.new.self k ↔ (Contains inside.near k ⊎ (k ≡ z)))) c.placed.ensures c.add.ensures.added) c.add.ensures.unchanged

pub returns-clause-added : goal.returns-clause-added
returns-clause-added c =
    let inside = c.self.inside in
    on_ok_as c.add.result _ _
    (λ added. subst (λ z. (k : Key) → Contains (dead_keys c.give.new.self c.add.new.self inside.others) k ↔ (Contains z k ⊎ (k ≡ key_of c.args.near.now))) c.self.view_is
    (near_more inside.ends c.give.new.self inside.near c.add.new.self inside.others c.args.near.now c.in_ok-end.end c.in_ok-end.ensures.kept c.self.invariant c.requires c.in_ok-end.ensures.place
    (subst (λ z. (k : NearKey) → Contains c.add.new.self k ↔ (Contains inside.near k ⊎ (k ≡ z))) c.placed.ensures added)))
    c.add.ensures.added

pub returns-clause-longer : goal.returns-clause-longer
returns-clause-longer c =
    let inside = c.self.inside in
    on_ok_as c.add.result _ _
    (λ longer. subst (λ z. (Contains z (key_of c.args.near.now) → ⊥) → length (dead_keys c.give.new.self c.add.new.self inside.others) ≡ suc (length z)) c.self.view_is
    (near_longer inside.ends c.give.new.self inside.near c.add.new.self inside.others c.args.near.now c.in_ok-end.end c.in_ok-end.ensures.kept c.self.invariant c.requires c.in_ok-end.ensures.place
    (subst (λ z. (Contains inside.near z → ⊥) → length c.add.new.self ≡ suc (length inside.near)) c.placed.ensures longer)))
    c.add.ensures.longer

pub returns-clause-unchanged : goal.returns-clause-unchanged
returns-clause-unchanged c =
    let inside = c.self.inside in
    on_err_as c.add.result _ _
    (λ same. ap (λ z. dead_keys c.give.new.self z inside.others) same ∙ dead_kept inside.ends c.give.new.self inside.near inside.others c.in_ok-end.ensures.kept c.self.invariant ∙ c.self.view_is)
    c.add.ensures.unchanged
