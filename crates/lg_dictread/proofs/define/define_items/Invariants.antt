use Rattle.std.proofs.Common.{◌≡◌, ◌≤◌}
use Rattle.std.specs.Iterator.Adapters.{zip_first, zip_second}
use Rattle.std.specs.List.{AllByRecursion, zip}
use Rattle.std.specs.Slice.Iter.{iter_rest}
use Rattle.lg_dictread.specs.Defining.{HasUtf8Name, defined_in, listed_in}
use Rattle.lg_dictread.proofs.ItemsTold.{SoFar}
use Rattle.lg_dictread.proofs.define.define_items.Given as goal

-- the items that are left lead to the answer of all
abbrev pub invariant-loop-item : goal.invariant-loop-item
invariant-loop-item g l = record {
  can_next : (goal.iterator-loop-item g).can_next l.item-iterator;
  is_finite : (goal.iterator-loop-item g).is_finite l.item-iterator;
  unchanged : g.F.Files.contents l.files ≡ g.F.Files.contents l.fn.files;
  later : g.F.Files.faults l.fn.files ≤ g.F.Files.faults l.files;
  names : AllByRecursion HasUtf8Name (iter_rest (zip_first l.item-iterator));
  so_far : SoFar (g.F.Files.contents l.fn.files) (g.F.Files.asked l.fn.files) (g.F.Files.asked l.files) (defined_in l.fn.tables) (defined_in l.tables) (listed_in l.names)
      (zip l.items l.lines) (zip (iter_rest (zip_first l.item-iterator)) (iter_rest (zip_second l.item-iterator)));
}
