use Rattle.std.proofs.Common.{Some}
use Rattle.lg_fewest.specs.Least.{AreLeast, Lowers}
use Rattle.lg_fewest.proofs.Whole.{FirstSums}
use Rattle.lg_fewest.proofs.sentence.over_firsts.Given as goal

-- the least sum of the first linked words so far, and of all words
abbrev pub invariant-loop-index : goal.invariant-loop-index
invariant-loop-index l = record {
  lowers : Lowers (FirstSums l.lists l.firsts l.index) (Some l.fn.words) (Some l.least);
  table : AreLeast l.lists l.table;
}
