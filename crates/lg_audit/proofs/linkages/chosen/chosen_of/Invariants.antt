use Rattle.std.proofs.Common.{drop}
use Rattle.lg_audit.proofs.ShownChoices.{Gives}
use Rattle.lg_audit.proofs.linkages.chosen.chosen_of.Given as goal

-- what is left gives all
abbrev pub invariant-loop-position : goal.invariant-loop-position
invariant-loop-position l = Gives l.view l.tokens l.words l.position (drop l.position l.tokens) (drop l.position l.words) l.chosen.items
