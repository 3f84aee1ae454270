use Rattle.std.proofs.Common.{◌≡◌, ◌++◌, map, take, drop}
use Rattle.lg_disj.specs.Ranks.{renumbered}
use Rattle.lg_disj.proofs.numbers.renumber.Given as goal

abbrev pub invariant-loop-one : goal.invariant-loop-one
invariant-loop-one l = l.numbered ≡ map (renumbered l.ranks) (take l.one-index l.initial.numbered) ++ drop l.one-index l.initial.numbered
