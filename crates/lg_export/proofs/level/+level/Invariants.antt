use Rattle.std.proofs.Common.{◌≡◌, ◌≤◌, min, max, drop}
use Rattle.lg_gram.specs.Trees.{expr_items, trees_in}
use Rattle.lg_export.specs.Spelling.{members_level}
use Rattle.lg_export.specs.Spots.{spot_of}
use Rattle.lg_export.proofs.level.+level.Given as goal

-- the highest so far, and the members that are left
abbrev pub invariant-level_of_members-loop-member : goal.invariant-level_of_members-loop-member
invariant-level_of_members-loop-member l =
    (l.highest ≤ 1000) × (min (max l.highest (members_level (spot_of l.spot) (trees_in (drop l.member-index l.member-items)))) 1000 ≡ min (members_level (spot_of l.spot) (trees_in (expr_items l.members))) 1000)
