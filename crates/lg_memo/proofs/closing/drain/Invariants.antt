use Rattle.std.proofs.Common.{◌≡◌, ℕ, ◌<◌, ◌≤◌, false, map, take, length, vec_capacity}
use Rattle.std.specs.Prelude.{Some, IsTrue, slice_index_or}
use Rattle.std.specs.Slots.{slots_items, slots_len, slots_filled}
use Rattle.lg_memo.proofs.closing.drain.Given as goal

abbrev pub invariant-loop-number : goal.invariant-loop-number
invariant-loop-number g l =
    (map (λ s. Some s) l.shards.items ≡ take l.number (slots_items l.fn.closed.slots))
    × (slots_items l.closed.slots ≡ slots_items l.fn.closed.slots)
    × (slots_len l.closed.slots ≡ l.count)
    × ((k : ℕ) → k < l.number → slice_index_or (slots_filled l.closed.slots) k false ≡ false)
    × ((k : ℕ) → l.number ≤ k → k < l.count → IsTrue (slice_index_or (slots_filled l.closed.slots) k false))
    × (length l.shards.items ≡ l.number)
    × (l.count ≤ vec_capacity l.shards)
