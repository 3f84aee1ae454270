use Rattle.lg_pp.specs.Judging.{AreFound}
use Rattle.lg_pp.proofs.Breaking.{HoldBefore}
use Rattle.lg_pp.proofs.rules.judge.Given as goal

-- the rules so far hold
abbrev pub invariant-loop-n : goal.invariant-loop-n
invariant-loop-n l = record {
  hold : HoldBefore l.know l.g l.n;
  found : AreFound l.know l.g l.found;
}
