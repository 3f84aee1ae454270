use Rattle.std.proofs.Common.{◌≡◌, ◌++◌, ◌-◌, map}
use Rattle.std.specs.List.{range_with_len}
use Rattle.lg_member.specs.Members.{row_at}
use Rattle.lg_member.proofs.rows.rows_of.Given as goal

abbrev pub invariant-loop-position : goal.invariant-loop-position
invariant-loop-position l =
    l.rows.items ++ map (row_at l.members) (range_with_len l.position (l.words - l.position)) ≡ map (row_at l.members) (range_with_len 0 l.words)
