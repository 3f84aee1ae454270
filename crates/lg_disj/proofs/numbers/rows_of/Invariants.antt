use Rattle.std.proofs.Common.{◌≡◌, map, take}
use Rattle.lg_disj.proofs.numbers.rows_of.Given as goal

abbrev pub invariant-loop-one : goal.invariant-loop-one
invariant-loop-one l = l.rows.items ≡ map (λ k. k.row) (take l.one-index l.numbered)
