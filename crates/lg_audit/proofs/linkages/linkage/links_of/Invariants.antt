use Rattle.std.proofs.Common.{◌≡◌, take}
use Rattle.lg_audit.specs.Pages.{links_in}
use Rattle.lg_audit.proofs.linkages.linkage.links_of.Given as goal

abbrev pub invariant-loop-one : goal.invariant-loop-one
invariant-loop-one l = l.links.items ≡ links_in (take l.one-index l.shown)
