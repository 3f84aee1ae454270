use Rattle.std.proofs.Common.{◌≡◌, ◌++◌, map, take}
use Rattle.lg_forest.specs.Drafts.{joined}
use Rattle.lg_forest.proofs.draft.join_each.Given as goal

abbrev pub invariant-loop-right : goal.invariant-loop-right
invariant-loop-right l = l.all.items ≡ l.fn.all.items ++ map (joined l.used l.joints l.left) (take l.right-index l.rights)
