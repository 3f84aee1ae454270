use Rattle.std.proofs.Common.{length, ap, subst, arith}
use Rattle.lg_region.specs.Fronts.{AreOnce}
use Rattle.lg_forest.proofs.NearKeys.{dead_few, dead_once}
use Rattle.lg_forest.proofs.dead.DeadKeys.is_short.Goals as goal

pub returns-clause-few : goal.returns-clause-few
returns-clause-few c =
    let all = ap length c.self.view_is in
    let both = dead_few c.self.inside.ends c.self.inside.near c.self.inside.others in
    let near = c.is_short.ensures.few in
    let others = c.is_short-2.ensures.few in
    omega arith

pub returns-clause-once : goal.returns-clause-once
returns-clause-once c =
    subst AreOnce c.self.view_is (dead_once c.self.inside.ends c.self.inside.near c.self.inside.others c.self.invariant c.are_once.ensures c.is_short.ensures.once c.is_short-2.ensures.once)
