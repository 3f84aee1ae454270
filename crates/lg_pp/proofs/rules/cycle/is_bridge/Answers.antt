use Rattle.std.proofs.Common.{◌≢◌, ℕ, ◌<◌, IsTrue, not, eqb, length, arith}
use Rattle.std.proofs.lemmas.Bool.Decides.{nat_tests}
use Rattle.lg_pp.proofs.Bridging.{bridge_tell}
use Rattle.lg_pp.proofs.Good.{ends_within}
use Rattle.lg_pp.proofs.rules.cycle.is_bridge.Goals as goal

pub bounds-islands-link : goal.bounds-islands-link
bounds-islands-link c = let within = ends_within c.args.g.now c.requires.good c.args.link.now c.requires.has in let few = c.others.ensures.few in omega arith

pub bounds-islands-link-2 : goal.bounds-islands-link-2
bounds-islands-link-2 c = let within = ends_within c.args.g.now c.requires.good c.args.link.now c.requires.has in let few = c.others.ensures.few in omega arith

differ_to : (a b : ℕ) → IsTrue (not (eqb a b)) → a ≢ b
differ_to a b t e = grind (arith, nat_tests)

differ_from : (a b : ℕ) → a ≢ b → IsTrue (not (eqb a b))
differ_from a b apart = grind (arith, nat_tests)

pub returns : goal.returns
returns c =
    let g = c.args.g.now in
    let link = c.args.link.now in
    let islands = c.label_islands.new.labels in
    let within = ends_within g c.requires.good link c.requires.has in
    let few = c.others.ensures.few in
    let left : link.left < length islands = omega arith in
    let right : link.right < length islands = omega arith in
    let tell = bridge_tell g link c.in_ok-others.others.items islands c.in_ok-others.ensures.exactly (rw c.deref.ensures.value at c.label_islands.ensures) left right in
    (λ t. tell.0 (differ_to _ _ t), λ bridge. differ_from _ _ (tell.1 bridge))
