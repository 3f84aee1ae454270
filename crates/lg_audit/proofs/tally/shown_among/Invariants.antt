use Rattle.std.proofs.Common.{◌≡◌, ◌+◌, ◌≤◌, length, map, drop}
use Rattle.std.specs.List.{flat_map}
use Rattle.lg_audit.specs.Replies.{linkages_of}
use Rattle.lg_audit.specs.Views.{item_of}
use Rattle.lg_audit.proofs.tally.shown_among.Given as goal

-- the count so far, and what is left
abbrev pub invariant-loop-item : goal.invariant-loop-item
invariant-loop-item l = record {
  sum : l.count + length (flat_map linkages_of (map item_of (drop l.item-index l.items))) ≡ length (flat_map linkages_of (map item_of l.items));
  few : l.count ≤ l.item-index;
}
