use Rattle.std.proofs.Common.{take}
use Rattle.lg_forest.specs.Drafts.{HaveDrafts}
use Rattle.lg_forest.proofs.linkages.linkages_of.Given as goal

abbrev pub invariant-loop-draft : goal.invariant-loop-draft
invariant-loop-draft l = HaveDrafts l.problem (take l.draft-index l.drafts) l.all.items
