use Rattle.std.proofs.Common.{◌↔◌, IsTrue, Contains, true≢false, sym, subst}
use Rattle.lg_forest.specs.NearKeys.{key_of, placed}
use Rattle.lg_forest.proofs.NearKeys.{placed_dead, unplaced_dead}
use Rattle.lg_forest.proofs.dead.DeadKeys.has_near.Goals as goal

pub returns-in-Some-clause-value : goal.returns-in-Some-clause-value
returns-in-Some-clause-value c =
    let inside = c.self.inside in
    let near = c.args.near.now in
    let found = subst (λ z. IsTrue c.has.result ↔ Contains inside.near z) c.placed.ensures c.has.ensures.value in
    let dead = placed_dead inside.ends inside.near inside.others near c.in-Some.end c.self.invariant c.are_once.ensures c.requires c.in-Some.ensures in
    subst (λ z. IsTrue c.has.result ↔ Contains z (key_of near)) c.self.view_is (λ t. dead.1 (found.0 t), λ h. found.1 (dead.0 h))

pub returns-in-None-clause-value : goal.returns-in-None-clause-value
returns-in-None-clause-value c =
    let inside = c.self.inside in
    (λ t. absurd (true≢false (sym t)), λ h. absurd (unplaced_dead inside.ends inside.near inside.others c.args.near.now c.self.invariant c.requires c.in-None.ensures (subst (λ z. Contains z (key_of c.args.near.now)) (sym c.self.view_is) h)))
