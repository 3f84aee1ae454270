use Rattle.std.proofs.Common.{◌≡◌, All, length}
use Rattle.lg_gram.specs.Trees.{tree_of}
use Rattle.lg_dict.specs.Changed.{IsTree}
use Rattle.lg_dict.proofs.changes.copies_of.Given as goal

abbrev pub invariant-loop : goal.invariant-loop
invariant-loop l = record {
  count : length l.copies.items ≡ l.counter;
  same : All (IsTree (tree_of l.fn.formula)) l.copies.items;
}
