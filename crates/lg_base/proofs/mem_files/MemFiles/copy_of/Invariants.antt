use Rattle.std.proofs.Common.{◌≡◌, map, string_bytes}
use Rattle.std.specs.Ordering.{nat_cmp}
use Rattle.std.specs.Cmp.Lexicographic.{slice_cmp}
use Rattle.std.specs.FinMap.{get, find}
use Rattle.std.specs.VecDeque.Iter.{deque_iter_rest}
use Rattle.lg_base.proofs.mem_files.MemFiles.copy_of.Given as goal

-- what the map has for the name is what the entries that are left have
abbrev pub invariant-loop-entry : goal.invariant-loop-entry
invariant-loop-entry l = get l.self.contents l.name ≡ find (slice_cmp nat_cmp) l.name (map (λ e. (string_bytes e.0, e.1.items)) (deque_iter_rest l.entry-iterator))
