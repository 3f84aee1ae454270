use Rattle.std.proofs.Common.{◌≡◌, length, take}
use Rattle.lg_pp.specs.Picked.{ArePicked}
use Rattle.lg_pp.proofs.label.picked.Given as goal

-- the flags of the labels so far
abbrev pub invariant-loop-n : goal.invariant-loop-n
invariant-loop-n g l = record {
  enough : length l.flags.items ≡ l.n;
  picked : ArePicked (g.T.Picks.picked l.test) (take l.n l.labels) l.flags.items;
}
