use Rattle.std.proofs.Common.{◌↔◌, IsTrue, Contains, subst}
use Rattle.lg_forest.proofs.NearKeys.{far_key}
use Rattle.lg_forest.proofs.dead.DeadKeys.has.Goals as goal

pub returns-in-None-clause-value : goal.returns-in-None-clause-value
returns-in-None-clause-value c =
    let inside = c.self.inside in
    let key = c.args.key.now in
    let far = far_key inside.ends inside.near inside.others key c.self.invariant c.in-None.ensures in
    subst (λ z. IsTrue c.has.result ↔ Contains z key) c.self.view_is (λ t. far.1 (c.has.ensures.value.0 t), λ h. c.has.ensures.value.1 (far.0 h))
