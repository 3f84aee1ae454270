use Rattle.std.proofs.Common.{List, [], ◌∷◌, ◌++◌, subst, sym, ◌∙◌}
use Rattle.std.specs.BinaryHeap.{heap_items}
use Rattle.lg_rank.specs.Merges.{Advanced}
use Rattle.lg_rank.specs.Queues.{Requeued}
use Rattle.lg_rank.specs.declared.node.Row.{Row}
use Rattle.lg_rank.specs.declared.queue.Waiting.{Waiting}
use Rattle.lg_rank.proofs.Queued.{pushed_is, one_waits}
use Rattle.lg_rank.proofs.node.put.Goals as goal

pub take_first-part-requires-clause-some : goal.take_first-part-requires-clause-some
take_first-part-requires-clause-some c = λ e. one_waits (heap_items c.args.node.now.queue) c.args.place c.requires.first (sym c.make_room.ensures.same.queue ∙ e)

pub returns-clause-ok : goal.returns-clause-ok
returns-clause-ok c =
    let same = c.make_room.ensures.same in
    let room = c.in_ok-make_room.ensures.room in
    let part = c.take_first-part.result in
    record {
      part = part;
      made = pushed_is c.push.result c.make_room.new.node.made.items c.push.new.self.items (c.make_room.new.node.made.items ++ part ∷ []) (c.push.ensures.succeeds room.made) c.push.ensures.items ∙ (λ i. same.made i ++ part ∷ []);
      rows = subst (λ (l : List Row). Advanced l c.args.place c.args.after c.args.first c.go_on.new.rows.items) same.rows c.go_on.ensures;
      queue = subst (λ (q : List Waiting). Requeued q c.args.again c.args.opened part (heap_items c.take_first-part.new.queue)) same.queue c.take_first-part.ensures;
      ways = same.ways;
      begun = same.begun;
    }
