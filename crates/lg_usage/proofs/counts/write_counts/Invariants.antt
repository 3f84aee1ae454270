use Rattle.std.proofs.Common.{◌≡◌, ◌++◌}
use Rattle.std.specs.List.{flat_map}
use Rattle.lg_usage.specs.Totals.{usage_line}
use Rattle.lg_usage.proofs.Printing.{counted_of}
use Rattle.lg_usage.proofs.counts.write_counts.Given as goal

-- the lines of what is left give the rest
abbrev pub invariant-loop-text : goal.invariant-loop-text
invariant-loop-text l =
    l.out.items ++ flat_map (usage_line l.kind) (counted_of l.text-iterator) ≡ l.initial.out.items ++ flat_map (usage_line l.kind) (counted_of l.counts.entries)
