use Rattle.std.proofs.Common.{suc, ◌≤◌, Bool, List, length, sym, subst, arith, rules}
use Rattle.std.specs.BinaryHeap.{heap_items}
use Rattle.lg_rank.specs.declared.node.Node.{Node}
use Rattle.lg_rank.specs.declared.table.Table.{Table}
use Rattle.lg_rank.specs.Values.{value_of}
use Rattle.lg_rank.specs.Tables.{IsTable, IsBegun, IsIdle, Chosen, Stepped, IsNth, Advances, made_at}
use Rattle.lg_rank.proofs.Forests.{begun_more, grown_more, grown_none, forest_more}
use Rattle.lg_rank.proofs.Peeking.{least_slices}
use Rattle.lg_rank.proofs.Reading.{idle_more}
use Rattle.lg_rank.proofs.Steps.{chosen_left, chosen_right, chosen_grown, goes_on_grown, begin_step, begin_all, begin_slices, queue_slices, nth_none, nth_ready, first_made}
use Rattle.lg_rank.proofs.table.Table.+merge.Goals as goal
use Rattle.lg_rank.proofs.table.Table.+merge.Goals.{nth-then-not-is_begun+else-i-eq0+in_ok-begin, nth-else-not-is_begun}

pub advance-choose-requires-clause-table : goal.advance-choose-requires-clause-table
advance-choose-requires-clause-table t c = subst (λ (n : List Node). IsTable (value_of c.args.nothing.now) n) (sym c.as_slice.ensures.value) c.requires.table

pub advance-following-requires : goal.advance-following-requires
advance-following-requires t c = (search rules, (c.requires.within, (c.in-Some.ensures.way.left, (chosen_left (value_of c.args.nothing.now) c.args.self.now.nodes.items c.as_slice.result.now c.args.k c.in-Some.choice c.as_slice.ensures.value c.requires.table c.in-Some.ensures, (c.requires.forest, c.requires.table)))))

pub advance-returns-in_err-after-clause-begun : goal.advance-returns-in_err-after-clause-begun
advance-returns-in_err-after-clause-begun t c = begun_more c.args.k c.args.k c.args.self.now.nodes.items c.following.new.self.nodes.items (omega arith) c.following.ensures.grown c.requires.begun

pub advance-returns-in_err-first-clause-begun : goal.advance-returns-in_err-first-clause-begun
advance-returns-in_err-first-clause-begun t c =
    begun_more c.args.k c.args.k c.args.self.now.nodes.items c.beginning.new.self.nodes.items (omega arith)
    (grown_more c.args.k c.args.k c.args.self.now.nodes.items c.following.new.self.nodes.items c.beginning.new.self.nodes.items (omega arith) c.following.ensures.grown c.beginning.ensures.grown) c.requires.begun

pub advance-take_part-requires-clause-chosen : goal.advance-take_part-requires-clause-chosen
advance-take_part-requires-clause-chosen t c =
    chosen_grown (value_of c.args.nothing.now) c.args.self.now.nodes.items c.beginning.new.self.nodes.items c.args.k c.in-Some.choice c.requires.table
    (grown_more c.args.k c.args.k c.args.self.now.nodes.items c.following.new.self.nodes.items c.beginning.new.self.nodes.items (omega arith) c.following.ensures.grown c.beginning.ensures.grown)
    (subst (λ (n : List Node). Chosen (value_of c.args.nothing.now) n c.args.k c.in-Some.choice) c.as_slice.ensures.value c.in-Some.ensures)

pub advance-take_part-requires-clause-goes_on : goal.advance-take_part-requires-clause-goes_on
advance-take_part-requires-clause-goes_on t c =
    goes_on_grown (value_of c.args.nothing.now) c.args.k c.following.new.self.nodes.items c.beginning.new.self.nodes.items c.in-Some.choice.way c.in-Some.choice.row c.in_ok-after.after c.beginning.ensures.grown c.in_ok-after.ensures.value

pub first_rows-loop-p-preserved : goal.first_rows-loop-p-preserved
first_rows-loop-p-preserved t c = record {
  table = c.first_row.ensures.table;
  grown = grown_more c.args.k c.args.k c.args.self.now.nodes.items c.loop-p.self.nodes.items c.first_row.new.self.nodes.items (omega arith) c.loop-p.invariant.grown c.first_row.ensures.grown;
  end = c.loop-p.invariant.end;
  rows_of = begin_step (value_of c.args.nothing.now) c.args.k c.loop-p.self.nodes.items c.first_row.new.self.nodes.items c.as_slice-in-loop-p.result.now c.args.k c.loop-p.p c.way_of-way.result c.loop-p.rows.items _ c.in_ok-first.first c.as_slice-in-loop-p.ensures.value c.way_of-way.ensures c.first_row.ensures.grown c.loop-p.invariant.rows_of c.in_ok-first.ensures.value c.in_ok-add.ensures;
}

pub first_rows-returns-clause-rows : goal.first_rows-returns-clause-rows
first_rows-returns-clause-rows t c =
    begin_all (value_of c.args.nothing.now) c.args.k c.args.self.now.nodes.items c.loop-p.self.nodes.items c.args.k c.loop-p.p c.way_count-count.result c.loop-p.rows.items c.loop-p.invariant.grown (omega arith) (omega arith) c.loop-p.invariant.end c.loop-p.invariant.rows_of

pub begin-start_node-requires-clause-idle : goal.begin-start_node-requires-clause-idle
begin-start_node-requires-clause-idle t c = idle_more c.args.k c.args.k c.args.self.now.nodes.items c.first_rows.new.self.nodes.items (omega arith) c.first_rows.ensures.grown c.requires.idle

pub begin-queue_of-requires-clause-table : goal.begin-queue_of-requires-clause-table
begin-queue_of-requires-clause-table t c = subst (λ (n : List Node). IsTable (value_of c.args.nothing.now) n) (sym c.as_slice.ensures.value) c.first_rows.ensures.table

pub begin-queue_of-requires-clause-all : goal.begin-queue_of-requires-clause-all
begin-queue_of-requires-clause-all t c = begin_slices (value_of c.args.nothing.now) c.first_rows.new.self.nodes.items c.as_slice.result.now c.args.k c.in_ok-rows.rows.items c.as_slice-2.result.now c.as_slice.ensures.value c.as_slice-2.ensures.value c.in_ok-rows.ensures.rows

pub begin-start_node-requires-clause-queue : goal.begin-start_node-requires-clause-queue
begin-start_node-requires-clause-queue t c = queue_slices (value_of c.args.nothing.now) c.first_rows.new.self.nodes.items c.as_slice.result.now c.args.k c.in_ok-rows.rows.items c.as_slice-2.result.now (heap_items c.in_ok-queue.queue) c.as_slice.ensures.value c.as_slice-2.ensures.value c.in_ok-queue.ensures

pub peek-least_of_rows-requires-clause-table : goal.peek-least_of_rows-requires-clause-table
peek-least_of_rows-requires-clause-table t c = subst (λ (n : List Node). IsTable (value_of c.args.nothing.now) n) (sym c.as_slice-2.ensures.value) c.first_rows.ensures.table

pub peek-least_of_rows-requires-clause-all : goal.peek-least_of_rows-requires-clause-all
peek-least_of_rows-requires-clause-all t c = begin_slices (value_of c.args.nothing.now) c.first_rows.new.self.nodes.items c.as_slice-2.result.now c.args.k c.in_ok-rows.rows.items c.as_slice-3.result.now c.as_slice-2.ensures.value c.as_slice-3.ensures.value c.in_ok-rows.ensures.rows

pub peek-show_least-requires-clause-idle : goal.peek-show_least-requires-clause-idle
peek-show_least-requires-clause-idle t c = idle_more c.args.k c.args.k c.args.self.now.nodes.items c.first_rows.new.self.nodes.items (omega arith) c.first_rows.ensures.grown c.requires.idle

pub peek-show_least-requires-clause-least : goal.peek-show_least-requires-clause-least
peek-show_least-requires-clause-least t c = record {
  rows = c.in_ok-rows.rows.items;
  all = c.in_ok-rows.ensures.rows;
  least = c.in_ok-least.least;
  is_least = least_slices (value_of c.args.nothing.now) c.first_rows.new.self.nodes.items c.as_slice-2.result.now c.args.k c.in_ok-rows.rows.items c.as_slice-3.result.now c.in_ok-least.least c.as_slice-2.ensures.value c.as_slice-3.ensures.value c.in_ok-least.ensures;
  queue_is = c.in_ok-queue.ensures;
}

pub nth-peek-requires : goal.nth-peek-requires
nth-peek-requires t c = (search rules, (c.requires.within, (c.requires.forest, (c.requires.table, subst (λ (n : List Node). IsIdle n c.args.k) c.as_slice.ensures.value (c.is_begun.ensures.no c.if-not-is_begun.true)))))

pub nth-begin-requires : goal.nth-begin-requires
nth-begin-requires t c = (search rules, (c.requires.within, (c.requires.forest, (c.requires.table, subst (λ (n : List Node). IsIdle n c.args.k) c.as_slice.ensures.value (c.is_begun.ensures.no c.if-not-is_begun.true)))))

pub nth-making-init : goal.nth-making-init
nth-making-init t c = elim c.if-not-is_begun.branch [
  | nth-then-not-is_begun+else-i-eq0+in_ok-begin w ↦ subst (λ (s : Table). Stepped (value_of c.args.nothing.now) c.args.self.now.nodes.items s.nodes.items c.args.k) (sym w.self-is) (record { table = w.begin.ensures.table; grown = w.begin.ensures.grown; begun = w.in_ok-begin.ensures.begun })
  | nth-else-not-is_begun w ↦ subst (λ (s : Table). Stepped (value_of c.args.nothing.now) c.args.self.now.nodes.items s.nodes.items c.args.k) (sym w.self-is) (record { table = c.requires.table; grown = grown_none (suc c.args.k) c.args.self.now.nodes.items; begun = subst (λ (n : List Node). IsBegun n c.args.k) c.as_slice.ensures.value (c.is_begun.ensures.yes w.if-not-is_begun.false) })
]

pub nth-returns-then-not-branch-clause-value : goal.nth-returns-then-not-branch-clause-value
nth-returns-then-not-branch-clause-value t c =
    let few : length (made_at c.as_slice-in-making.result.now c.args.k) ≤ c.args.i = (let e = c.made_count.ensures in omega arith) in
    nth_none (value_of c.args.nothing.now) c.making.self.nodes.items c.advance.new.self.nodes.items c.args.k c.args.i
    (subst (λ (n : List Node). length (made_at n c.args.k) ≤ c.args.i) c.as_slice-in-making.ensures.value few)
    (subst (λ (b : Bool). Advances (value_of c.args.nothing.now) c.making.self.nodes.items c.advance.new.self.nodes.items c.args.k b) c.if-not-branch.true c.in_ok-advance.ensures.more)

pub nth-returns-clause-value : goal.nth-returns-clause-value
nth-returns-clause-value t c =
    let s = c.making.invariant in
    let forest = forest_more (value_of c.args.nothing.now) (suc c.args.k) c.args.self.now.nodes.items c.making.self.nodes.items s.grown c.requires.forest in
    nth_ready (value_of c.args.nothing.now) c.making.self.nodes.items c.as_slice-in-making.result.now c.as_slice-2.result.now c.args.k c.args.i _ _ c.as_slice-in-making.ensures.value c.as_slice-2.ensures.value forest s.table s.begun c.made_count.ensures (omega arith) c.ready_count.ensures

pub advance-beginning-requires : goal.advance-beginning-requires
advance-beginning-requires t c =
    let h = chosen_grown (value_of c.args.nothing.now) c.args.self.now.nodes.items c.following.new.self.nodes.items c.args.k c.in-Some.choice c.requires.table c.following.ensures.grown
    (subst (λ (n : List Node). Chosen (value_of c.args.nothing.now) n c.args.k c.in-Some.choice) c.as_slice.ensures.value c.in-Some.ensures) in (
      search rules,
      (
        (let long = c.following.ensures.grown.long in let within = c.requires.within in omega arith),
        (
          c.in-Some.ensures.way.left,
          (
            c.in-Some.ensures.way.right,
            (
              chosen_right (value_of c.args.nothing.now) c.following.new.self.nodes.items c.args.k c.in-Some.choice c.following.ensures.table h,
              (forest_more (value_of c.args.nothing.now) c.args.k c.args.self.now.nodes.items c.following.new.self.nodes.items c.following.ensures.grown c.requires.forest, c.following.ensures.table),
            ),
          ),
        ),
      ),
    )

pub advance-returns-in_err-take_part-clause-grown : goal.advance-returns-in_err-take_part-clause-grown
advance-returns-in_err-take_part-clause-grown t c =
    grown_more c.args.k (suc c.args.k) c.args.self.now.nodes.items c.beginning.new.self.nodes.items c.take_part.new.nodes.items (omega arith)
    (grown_more c.args.k c.args.k c.args.self.now.nodes.items c.following.new.self.nodes.items c.beginning.new.self.nodes.items (omega arith) c.following.ensures.grown c.beginning.ensures.grown) c.take_part.ensures.stepped.grown

pub advance-returns-clause-grown : goal.advance-returns-clause-grown
advance-returns-clause-grown t c =
    grown_more c.args.k (suc c.args.k) c.args.self.now.nodes.items c.beginning.new.self.nodes.items c.take_part.new.nodes.items (omega arith)
    (grown_more c.args.k c.args.k c.args.self.now.nodes.items c.following.new.self.nodes.items c.beginning.new.self.nodes.items (omega arith) c.following.ensures.grown c.beginning.ensures.grown) c.take_part.ensures.stepped.grown

pub first_row-returns-clause-value : goal.first_row-returns-clause-value
first_row-returns-clause-value t c =
    let z = value_of c.args.nothing.now in
    first_made z _ c.part.new.self.nodes.items c.part-2.new.self.nodes.items c.args.p c.args.way c.args.at c.part-2.ensures.grown
    (subst (λ (b : Bool). IsNth z c.part.new.self.nodes.items c.args.way.left 0 b) c.if-not-branch.false c.in_ok-part.ensures.value)
    (subst (λ (b : Bool). IsNth z c.part-2.new.self.nodes.items c.args.way.right c.args.at b) c.if-not-branch-2.false c.in_ok-part-2.ensures.value)
