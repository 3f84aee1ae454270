use Rattle.std.proofs.Common.{map}
use Rattle.lg_region.proofs.Growing.{Partly}
use Rattle.lg_region.proofs.numbering.number_of.Given as goal

abbrev pub invariant-loop-index : goal.invariant-loop-index
invariant-loop-index l = Partly (map (λ f. f.now) l.fn.fronts.items) l.fn.tails.keys (map (λ f. f.now) l.fronts.items) l.tails.keys l.list l.index l.id
