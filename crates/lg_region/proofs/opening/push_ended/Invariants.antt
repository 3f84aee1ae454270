-- what is left gives the rest
use Rattle.std.proofs.Common.{◌≡◌, ◌++◌, map, drop}
use Rattle.lg_region.specs.Openings.{ended}
use Rattle.lg_region.specs.Ways.{KeepsFront}
use Rattle.lg_region.proofs.opening.push_ended.Given as goal

abbrev pub invariant-loop-right : goal.invariant-loop-right
invariant-loop-right l =
    let made = ended l.gap l.group l.begin in
    (l.out.items ++ map made (drop l.right-index l.rights) ≡ l.fn.out.items ++ map made l.rights) × KeepsFront l.fn.out.items l.out.items
