use Rattle.std.proofs.Common.{◌≡◌, ◌+◌, ◌*◌, ◌<◌, [], take, map}
use Rattle.lg_region.specs.Groups.{key_behind}
use Rattle.lg_region.specs.Small.{full}
use Rattle.lg_region.specs.Ways.{AddsExactly}
use Rattle.lg_region.specs.declared.group.Right.{Right}
use Rattle.lg_forest.specs.Demands.{HasLinkageUnder}
use Rattle.lg_forest.specs.Forests.{IsLive}
use Rattle.lg_forest.specs.Halves.{AddsLive, AsksAmong}
use Rattle.lg_region.specs.Groups.{StandsBefore}
use Rattle.lg_forest.specs.Opened.{AsksLeft, IsOpening, StartsSo}
use Rattle.lg_forest.proofs.Levels.{LeavesFewer}
use Rattle.lg_forest.proofs.Starting.{IsOfGroup, LeftOfFirst, OfFirst, SoFar}
use Rattle.lg_forest.specs.Goes.{Goes, gap_width, key_of}
use Rattle.lg_forest.specs.Search.{IsLast, key_width, part_bound, alt_bound}
use Rattle.lg_forest.proofs.Among.{Among, In}
use Rattle.lg_forest.proofs.Ending.{AsksFirst}
use Rattle.lg_forest.proofs.Asked.{AsksBy}
use Rattle.lg_forest.proofs.Flags.{Flags}
use Rattle.lg_forest.proofs.search.Search.+search.Given as goal

abbrev pub decreases-visit : goal.decreases-visit
decreases-visit g l = 9 * key_width l.lists.now.positions l.key + 8

abbrev pub decreases-explore : goal.decreases-explore
decreases-explore g l = 9 * key_width l.lists.now.positions l.key + 7

abbrev pub decreases-explore_all : goal.decreases-explore_all
decreases-explore_all g l = 9 * key_width l.lists.now.positions l.key + 6

abbrev pub decreases-explore_gap : goal.decreases-explore_gap
decreases-explore_gap g l = 9 * gap_width l.gap.now + 6

abbrev pub decreases-explore_opening : goal.decreases-explore_opening
decreases-explore_opening g l = 9 * gap_width l.gap.now + 5

abbrev pub decreases-explore_start : goal.decreases-explore_start
decreases-explore_start g l = 9 * gap_width l.gap.now + 4

abbrev pub decreases-open : goal.decreases-open
decreases-open g l = 9 * gap_width l.gap.now + 4

abbrev pub decreases-open_word : goal.decreases-open_word
decreases-open_word g l = 9 * gap_width l.gap.now + 3

abbrev pub decreases-open_group : goal.decreases-open_group
decreases-open_group g l = 9 * gap_width l.gap.now + 2

abbrev pub decreases-explore_ending : goal.decreases-explore_ending
decreases-explore_ending g l = 9 * gap_width l.gap.now + 2

abbrev pub decreases-explore_rights : goal.decreases-explore_rights
decreases-explore_rights g l = 9 * gap_width l.gap.now + 1

abbrev pub decreases-is_live : goal.decreases-is_live
decreases-is_live g l = 9 * alt_bound l.lists.now.positions l.alt + 2

abbrev pub decreases-visit_left : goal.decreases-visit_left
decreases-visit_left g l = 9 * part_bound l.lists.now.positions l.key + 1

abbrev pub decreases-visit_part : goal.decreases-visit_part
decreases-visit_part g l = 9 * part_bound l.lists.now.positions l.key

-- what the alternatives so far ask for is in the table, and each has its flag
abbrev pub invariant-explore_all-loop-index : goal.invariant-explore_all-loop-index
invariant-explore_all-loop-index g l = record {
  goes : Goes l.lists (AsksBy l.lists (map full l.alts-inside.items.items) l.index) 1 l.fn.self l.fn.steps l.self l.steps;
  flags : Flags (IsLive l.lists.positions l.lists.lists) (take l.index (map full l.alts-inside.items.items)) l.flags.items;
  last : IsLast l.lists l.self.table l.last;
}

-- the numbers of unlinked words on the left so far
abbrev pub invariant-explore_gap-loop-nulls : goal.invariant-explore_gap-loop-nulls
invariant-explore_gap-loop-nulls g l = record {
  goes : Goes l.lists (AsksAmong l.lists (key_of l.gap) (LeavesFewer l.nulls)) 0 l.fn.self l.fn.steps l.self l.steps;
  live : AddsLive l.lists (key_of l.gap) (LeavesFewer l.nulls) [] l.live.items;
}

-- the disjuncts of the group so far
abbrev pub invariant-explore_rights-loop-index : goal.invariant-explore_rights-loop-index
invariant-explore_rights-loop-index g l = record {
  goes : Goes l.lists (AsksFirst l.gap l.start.group l.nulls l.all.items l.index) 0 l.fn.self l.fn.steps l.self l.steps;
  live : AddsExactly [] l.live.items (λ r. HasLinkageUnder l.lists.positions l.lists.lists (key_behind l.gap l.start.group l.nulls r) × Among (λ (x : Right) (y : Right). x ≡ y) l.all.items l.index r);
}

-- the starts so far; the opening stands by the table
abbrev pub invariant-explore_opening-loop-index : goal.invariant-explore_opening-loop-index
invariant-explore_opening-loop-index g l = record {
  goes : Goes l.lists (SoFar l.lists (key_of l.gap) l.nulls l.gap l.opening.starts.items l.index) 0 l.fn.self l.fn.steps l.self l.steps;
  live : AddsLive l.lists (key_of l.gap) (Among (StartsSo l.gap) l.opening.starts.items l.index) l.fn.live.items l.live.items;
  opened : IsOpening l.lists l.self.table l.origin l.opening;
}

-- the words so far
abbrev pub invariant-open-loop-word : goal.invariant-open-loop-word
invariant-open-loop-word g l = record {
  done : l.opening.done ≡ l.word;
  after : l.gap.left < l.word;
  opened : IsOpening l.lists l.self.table l.origin l.opening;
  goes : Goes l.lists (AsksLeft l.lists (key_of l.gap) l.origin.nulls (StandsBefore l.word)) 0 l.fn.self l.fn.steps l.self l.steps;
}

-- the groups of the word so far
abbrev pub invariant-open_word-loop-index : goal.invariant-open_word-loop-index
invariant-open_word-loop-index g l = record {
  starts : AddsExactly l.fn.opening.starts.items l.opening.starts.items (Among (IsOfGroup l.lists l.gap l.nulls) l.groups.items l.index);
  goes : Goes l.lists (AsksLeft l.lists (key_of l.gap) l.nulls (Among In l.groups.items l.index)) 0 l.fn.self l.fn.steps l.self l.steps;
}

-- the beginnings of the group so far
abbrev pub invariant-open_group-loop-index : goal.invariant-open_group-loop-index
invariant-open_group-loop-index g l = record {
  starts : AddsExactly l.fn.starts.items l.starts.items (OfFirst l.lists l.gap l.group l.begins.items l.index);
  goes : Goes l.lists (LeftOfFirst l.gap l.group l.begins.items l.index) 0 l.fn.self l.fn.steps l.self l.steps;
}
