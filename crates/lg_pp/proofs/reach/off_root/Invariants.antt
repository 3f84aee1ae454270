use Rattle.std.proofs.Common.{take, All}
use Rattle.lg_gram.specs.Rules.{HasLink}
use Rattle.lg_knowread.specs.declared.knowledge.Knowledge.{Knowledge}
use Rattle.lg_pp.specs.Reach.{Ignores}
use Rattle.lg_pp.proofs.Kept.{AreKept}
use Rattle.lg_pp.proofs.Reaching.{IsClear}
use Rattle.lg_pp.proofs.reach.off_root.Given as goal

-- of the links so far those are kept that are not ignored and do not touch the root
abbrev pub invariant-loop-n : goal.invariant-loop-n
invariant-loop-n l = record {
  has : All (HasLink l.g) l.links.items;
  kept : (know : Knowledge) → Ignores know l.g l.ignored → AreKept (IsClear know l.g l.root) (take l.n l.link-items) l.links.items;
}
