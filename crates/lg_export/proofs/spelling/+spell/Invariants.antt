use Rattle.std.proofs.Common.{◌≡◌, ◌++◌, drop}
use Rattle.lg_gram.specs.Trees.{expr_items, trees_in}
use Rattle.lg_export.specs.Spelling.{members_spelled}
use Rattle.lg_export.specs.Spots.{spot_of}
use Rattle.lg_export.proofs.Spelled.{rest_spelled}
use Rattle.lg_export.proofs.spelling.+spell.Given as goal

-- the members that are left give the rest
abbrev pub invariant-write_members-loop-member : goal.invariant-write_members-loop-member
invariant-write_members-loop-member l =
    l.out.items ++ rest_spelled (spot_of l.spot) l.between (trees_in (drop l.member-index l.rest)) ≡ l.fn.out.items ++ members_spelled (spot_of l.spot) l.between (trees_in (expr_items l.members))
