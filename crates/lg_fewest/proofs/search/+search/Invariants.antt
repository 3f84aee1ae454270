use Rattle.std.proofs.Common.{◌≡◌, ◌+◌, ◌-◌, ◌*◌, ◌<◌, None}
use Rattle.lg_region.specs.Groups.{StandsBefore}
use Rattle.lg_region.specs.declared.alternative.Alt.{Alt}
use Rattle.lg_fewest.specs.Spans.{IsCutSum, IsEnding}
use Rattle.lg_fewest.specs.Least.{AreLeast, Lowers}
use Rattle.lg_fewest.proofs.Cutting.{Among, In}
use Rattle.lg_fewest.proofs.search.+search.Given as goal

abbrev pub decreases-least : goal.decreases-least
decreases-least l = 9 * (l.span.right - l.span.left) + 8

abbrev pub decreases-explore : goal.decreases-explore
decreases-explore l = 9 * (l.span.right - l.span.left) + 7

abbrev pub decreases-least_cut : goal.decreases-least_cut
decreases-least_cut l = 9 * (l.span.right - l.span.left) + 6

abbrev pub decreases-cut_at : goal.decreases-cut_at
decreases-cut_at l = 9 * (l.span.right - l.span.left) + 5

abbrev pub decreases-cut_in : goal.decreases-cut_in
decreases-cut_in l = 9 * (l.span.right - l.span.left) + 4

abbrev pub decreases-begin_with : goal.decreases-begin_with
decreases-begin_with l = 9 * (l.span.right - l.span.left) + 3

abbrev pub decreases-go_on : goal.decreases-go_on
decreases-go_on l = 9 * (l.span.right - l.span.left) + 2

abbrev pub decreases-end_with : goal.decreases-end_with
decreases-end_with l = 9 * (l.span.right - l.span.left) + 1

abbrev pub decreases-end_at : goal.decreases-end_at
decreases-end_at l = 9 * (l.span.right - l.span.left)

-- the least sum at the words so far
abbrev pub invariant-least_cut-loop-word : goal.invariant-least_cut-loop-word
invariant-least_cut-loop-word l = record {
  after : l.gap.left < l.word;
  lowers : Lowers (IsCutSum l.lists l.span (StandsBefore l.word)) None l.least;
  table : AreLeast l.lists l.table;
}

-- in the groups so far
abbrev pub invariant-cut_at-loop-index : goal.invariant-cut_at-loop-index
invariant-cut_at-loop-index l = record {
  lowers : Lowers (IsCutSum l.lists l.span (Among In l.groups.items l.index)) l.fn.most l.least;
  table : AreLeast l.lists l.table;
}

-- with the beginnings so far
abbrev pub invariant-cut_in-loop-index : goal.invariant-cut_in-loop-index
invariant-cut_in-loop-index l = record {
  lowers : Lowers (IsCutSum l.lists l.span (Among (IsEnding l.gap l.group) l.begins.items l.index)) l.fn.most l.least;
  table : AreLeast l.lists l.table;
}

-- of the alternatives so far
abbrev pub invariant-go_on-loop-index : goal.invariant-go_on-loop-index
invariant-go_on-loop-index l = record {
  lowers : Lowers (IsCutSum l.lists l.span (Among (λ (u v : Alt). u ≡ v) l.alts.items l.index)) l.fn.most l.lowest;
  table : AreLeast l.lists l.table;
}
