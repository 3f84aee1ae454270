-- what is left gives the rest
use Rattle.std.proofs.Common.{◌≡◌, ◌++◌, map, drop}
use Rattle.lg_region.specs.Ways.{way_of}
use Rattle.lg_region.proofs.ways.push_with.Given as goal

abbrev pub invariant-loop-rest : goal.invariant-loop-rest
invariant-loop-rest g l =
    let make = g.T.OnWay.on l.number in
    l.out.items ++ map make (map (way_of l.joint l.near) (drop l.rest-index l.rests)) ≡ l.fn.out.items ++ map make (map (way_of l.joint l.near) l.rests)
