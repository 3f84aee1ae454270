use Rattle.std.proofs.Common.{◌≡◌, ◌++◌, take}
use Rattle.lg_disj.specs.Places.{all_both, listed, IsArena}
use Rattle.lg_disj.proofs.product.push_all.Given as goal

abbrev pub invariant-loop-first : goal.invariant-loop-first
invariant-loop-first l = (listed l.all ≡ listed l.fn.all ++ all_both (take l.first (listed l.firsts)) (listed l.seconds)) × IsArena l.all
