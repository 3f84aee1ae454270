use Rattle.std.proofs.Common.{◌≡◌, take}
use Rattle.lg_audit.specs.Pages.{problem_of}
use Rattle.lg_audit.proofs.linkages.linkage.positions_of.Given as goal

abbrev pub invariant-loop-choice : goal.invariant-loop-choice
invariant-loop-choice l = l.positions.items ≡ problem_of (take l.choice-index l.chosen)
