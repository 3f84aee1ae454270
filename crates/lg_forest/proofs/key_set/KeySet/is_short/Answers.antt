use Rattle.std.proofs.Common.{length, ap, subst, arith}
use Rattle.lg_region.specs.Fronts.{AreOnce}
use Rattle.lg_forest.proofs.KeySets.{keys_few, keys_once}
use Rattle.lg_forest.proofs.key_set.KeySet.is_short.Goals as goal

pub returns-clause-few : goal.returns-clause-few
returns-clause-few g c =
    let few = keys_few g.R.Rows.row g.R.Rows.place g.R.Rows.at c.are_rows.ensures c.self.inside.rows in
    let long = ap length c.self.view_is in
    let count = c.len-rows.ensures.value in
    let small = c.len-rows.ensures.small in
    omega arith

pub returns-clause-once : goal.returns-clause-once
returns-clause-once g c = subst (λ z. AreOnce z) c.self.view_is (keys_once g.R.Rows.row g.R.Rows.place g.R.Rows.at c.are_rows.ensures c.self.inside.rows c.len-rows.ensures.once)
