use Rattle.std.proofs.Common.{◌≡◌, length}
use Rattle.lg_pp.specs.Steps.{AreLeasts, AreStillAlike}
use Rattle.lg_pp.proofs.Parting.{AreFirstOthers}
use Rattle.lg_pp.proofs.group.parted.Given as goal

-- the least numbers so far, and for each least number the first of its class with the other flag
abbrev pub invariant-loop-n : goal.invariant-loop-n
invariant-loop-n l = record {
  enough : length l.others.items ≡ length l.leasts;
  parts : AreLeasts (AreStillAlike l.leasts l.flags) l.n l.parts.items;
  first : AreFirstOthers l.leasts l.flags l.n l.others.items;
}
