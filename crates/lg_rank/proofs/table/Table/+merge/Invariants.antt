use Rattle.std.proofs.Common.{◌≡◌, ◌+◌, ◌-◌, ◌*◌, length, []}
use Rattle.lg_rank.specs.Nodes.{ways_of}
use Rattle.lg_rank.specs.Values.{value_of}
use Rattle.lg_rank.specs.Tables.{end_of, IsTable, Grown, RowsOf, forest_of, parts, made_at, Stepped}
use Rattle.lg_rank.proofs.table.Table.+merge.Given as goal

abbrev pub decreases-part : goal.decreases-part
decreases-part l = 5 * end_of l.part + 1

abbrev pub decreases-first_row : goal.decreases-first_row
decreases-first_row l = 5 * l.k + 2

abbrev pub decreases-following : goal.decreases-following
decreases-following l = 5 * l.k + 2

abbrev pub decreases-beginning : goal.decreases-beginning
decreases-beginning l = 5 * l.k + 3

abbrev pub decreases-first_rows : goal.decreases-first_rows
decreases-first_rows l = 5 * l.k + 3

abbrev pub decreases-peek : goal.decreases-peek
decreases-peek l = 5 * l.k + 4

abbrev pub decreases-begin : goal.decreases-begin
decreases-begin l = 5 * l.k + 4

abbrev pub decreases-advance : goal.decreases-advance
decreases-advance l = 5 * l.k + 4

abbrev pub decreases-nth : goal.decreases-nth
decreases-nth l = 5 * l.k + 5

abbrev pub invariant-nth-making : goal.invariant-nth-making
invariant-nth-making l = Stepped (value_of l.nothing) l.fn.self.nodes.items l.self.nodes.items l.k

abbrev pub decreases-nth-making : goal.decreases-nth-making
decreases-nth-making l = (l.i + 1) - length (made_at l.self.nodes.items l.k)

abbrev pub invariant-first_rows-loop-p : goal.invariant-first_rows-loop-p
invariant-first_rows-loop-p l = record {
  table : IsTable (value_of l.nothing) l.self.nodes.items;
  grown : Grown l.k l.fn.self.nodes.items l.self.nodes.items;
  end : l.count ≡ length (ways_of (forest_of l.fn.self.nodes.items) l.k);
  rows_of : RowsOf (value_of l.nothing) (forest_of l.self.nodes.items) (parts (value_of l.nothing) l.self.nodes.items) l.k l.p [] l.rows.items;
}
