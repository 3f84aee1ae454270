use Rattle.std.proofs.Common.{take}
use Rattle.lg_audit.specs.Pages.{AreOnesOf}
use Rattle.lg_audit.proofs.Framed.{shown_on}
use Rattle.lg_audit.proofs.linkages.found.found_linkages.Given as goal

-- the linkages of those so far
abbrev pub invariant-loop-item : goal.invariant-loop-item
invariant-loop-item l = AreOnesOf l.know l.view l.tokens (shown_on (take l.item-index l.items)) l.found.items
