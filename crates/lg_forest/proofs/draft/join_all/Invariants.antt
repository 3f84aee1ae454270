use Rattle.std.proofs.Common.{◌≡◌, map, take}
use Rattle.std.specs.List.{flat_map}
use Rattle.lg_forest.specs.Drafts.{joined, Draft}
use Rattle.lg_forest.proofs.draft.join_all.Given as goal

abbrev pub invariant-loop-left : goal.invariant-loop-left
invariant-loop-left l = l.all.items ≡ flat_map (λ (p : Draft). map (joined l.used l.joints p) l.rights) (take l.left-index l.lefts)
