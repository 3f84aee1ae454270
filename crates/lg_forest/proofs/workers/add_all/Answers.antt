use Rattle.lg_region.specs.declared.key.Key.{Key}
use Rattle.lg_region.specs.declared.alternative.Alt.{Alt}
use Rattle.std.proofs.Common.{List}
use Rattle.lg_forest.specs.Known.{AreKept}
use Rattle.lg_forest.proofs.Kept.{known_more}
use Rattle.lg_forest.proofs.Back.{all_but_last, pop_shorter}
use Rattle.lg_forest.proofs.workers.add_all.Goals as goal

pub loop-entry-preserved : goal.loop-entry-preserved
loop-entry-preserved c =
    let n = c.args.lists.now in
    let parts = all_but_last c.loop-entry.entries.items c.pop.new.self.items c.pop.result c.in-Some.entry c.pop.ensures.items c.in-Some.is (λ (e : Key × List Alt). AreKept n.positions e.0 e.1) c.loop-entry.invariant.1 in
    (known_more n c.loop-entry.known c.add.new.self c.in-Some.entry.0 c.in-Some.entry.1 c.are_numbered.ensures c.loop-entry.invariant.0 parts.0 c.in_ok-add.ensures.added, parts.1)

pub loop-entry-smaller : goal.loop-entry-smaller
loop-entry-smaller c = pop_shorter c.loop-entry.entries.items c.pop.new.self.items c.pop.result c.in-Some.entry c.pop.ensures.items c.in-Some.is
