-- what is left gives the rest
use Rattle.std.proofs.Common.{◌≡◌, ◌++◌, map, drop}
use Rattle.std.specs.List.{flat_map}
use Rattle.lg_region.specs.Ways.{joined_ways, rests_of, way_of}
use Rattle.lg_region.proofs.ways.push_joined.Given as goal

abbrev pub invariant-loop-rest : goal.invariant-loop-rest
invariant-loop-rest g l =
    let make = g.T.OnWay.on l.number in
    l.out.items ++ map make (flat_map (λ rest. map (way_of l.joint rest) (rests_of l.far)) (drop l.rest-index l.rest-items)) ≡ l.fn.out.items ++ map make (joined_ways l.near l.far)
