use Rattle.std.proofs.Common.{◌≡◌, length, map, string_bytes}
use Rattle.std.specs.Iterator.Adapters.{zip_first, zip_second}
use Rattle.std.specs.Slice.Iter.{iter_rest}
use Rattle.lg_script.specs.EditNumbers.{edit_counts}
use Rattle.lg_script.specs.Commands.{script_views}
use Rattle.lg_run.proofs.EditSums.{IsLeft}
use Rattle.lg_run.proofs.script.first_past.Given as goal

-- the scripts so far have all edits but those that are left
abbrev pub invariant-loop-name : goal.invariant-loop-name
invariant-loop-name l = record {
  can_next : goal.iterator-loop-name.can_next l.name-iterator;
  is_finite : goal.iterator-loop-name.is_finite l.name-iterator;
  same : length (iter_rest (zip_first l.name-iterator)) ≡ length (iter_rest (zip_second l.name-iterator));
  left : IsLeft (map string_bytes l.names) (edit_counts (script_views l.scripts)) l.left (map string_bytes (iter_rest (zip_first l.name-iterator))) (edit_counts (script_views (iter_rest (zip_second l.name-iterator))));
}
