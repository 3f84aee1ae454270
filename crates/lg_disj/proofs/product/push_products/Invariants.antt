use Rattle.std.proofs.Common.{◌≡◌, ◌++◌, map, take, get_or}
use Rattle.lg_disj.specs.Places.{no_places, both, listed, IsArena}
use Rattle.lg_disj.proofs.product.push_products.Given as goal

abbrev pub invariant-loop-second : goal.invariant-loop-second
invariant-loop-second l =
    (listed l.all ≡ listed l.fn.all ++ map (both (get_or (listed l.firsts) l.first no_places)) (take l.second (listed l.seconds))) × IsArena l.all
