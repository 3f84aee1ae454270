use Rattle.std.proofs.Common.{length, map, ap, subst, arith, length-append}
use Rattle.std.proofs.lemmas.List.{length-map}
use Rattle.std.specs.Map.{keys_of}
use Rattle.lg_region.specs.Fronts.{AreOnce}
use Rattle.lg_forest.specs.Entries.{dead_entry}
use Rattle.lg_forest.proofs.Entering.{keys_once}
use Rattle.lg_forest.proofs.table.Table.is_short.Goals as goal

pub returns-clause-few : goal.returns-clause-few
returns-clause-few c =
    let all = ap length c.self.view_is in
    let both = length-append c.self.inside.live (map dead_entry c.self.inside.dead) in
    let dead = length-map c.self.inside.dead dead_entry in
    let few = c.is_short.ensures.few in
    let count = c.len-live.ensures.value in
    let small = c.len-live.ensures.small in
    omega arith

pub returns-clause-once : goal.returns-clause-once
returns-clause-once c = subst (λ z. AreOnce (keys_of z)) c.self.view_is (keys_once c.self.inside.live c.self.inside.dead c.len-live.ensures.once c.is_short.ensures.once c.self.invariant)
