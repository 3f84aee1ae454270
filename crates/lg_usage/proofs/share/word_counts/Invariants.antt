use Rattle.std.proofs.Common.{◌+◌, take}
use Rattle.std.specs.List.{flat_map}
use Rattle.lg_usage.specs.Totals.{word_of}
use Rattle.lg_usage.specs.Stored.{Counts, AreBelow}
use Rattle.lg_usage.proofs.share.word_counts.Given as goal

-- the words so far are counted, so no number is above theirs
abbrev pub invariant-loop-choice : goal.invariant-loop-choice
invariant-loop-choice l = Counts l.counts (flat_map word_of (take l.choice-index l.choice-items)) × AreBelow (l.choice-index + 1) l.counts
