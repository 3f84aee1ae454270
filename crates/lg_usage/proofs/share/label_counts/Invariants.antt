use Rattle.std.proofs.Common.{◌+◌, map, take}
use Rattle.lg_usage.specs.Totals.{label_text}
use Rattle.lg_usage.specs.Stored.{Counts, AreBelow}
use Rattle.lg_usage.proofs.share.label_counts.Given as goal

-- the labels so far are counted, so no number is above theirs
abbrev pub invariant-loop-link : goal.invariant-loop-link
invariant-loop-link l = Counts l.counts (map (label_text l.g) (take l.link-index l.link-items)) × AreBelow (l.link-index + 1) l.counts
