use Rattle.std.proofs.Common.{map, take}
use Rattle.lg_region.proofs.Growing.{RowsSoFar}
use Rattle.lg_region.proofs.numbering.numbered.Given as goal

abbrev pub invariant-loop-position : goal.invariant-loop-position
invariant-loop-position l =
    RowsSoFar (map (λ f. f.now) l.fn.fronts.items) l.fn.tails.keys (map (λ f. f.now) l.fronts.items) l.tails.keys (take l.position-index l.positions) (map (λ v. v.items) l.rows.items)
