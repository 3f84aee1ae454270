use Rattle.std.proofs.Common.{map, take}
use Rattle.lg_region.proofs.Growing.{RowSoFar}
use Rattle.lg_region.proofs.numbering.row_of.Given as goal

abbrev pub invariant-loop-disjunct : goal.invariant-loop-disjunct
invariant-loop-disjunct l =
    RowSoFar (map (λ f. f.now) l.fn.fronts.items) l.fn.tails.keys (map (λ f. f.now) l.fronts.items) l.tails.keys (take l.disjunct-index l.disjuncts) l.row.items
