use Rattle.std.proofs.Common.{◌≡◌, ◌++◌, length, map}
use Rattle.std.specs.List.{AllByRecursion, flat_map}
use Rattle.lg_text.specs.Shown.{closed}
use Rattle.lg_audit.specs.Lines.{link_line, IsLinkInForm}
use Rattle.lg_audit.proofs.runs.links.Given as goal

-- the links so far, and what is left
abbrev pub invariant-loop-line : goal.invariant-loop-line
invariant-loop-line l = record {
  form : AllByRecursion IsLinkInForm l.links.items;
  read : l.text ≡ flat_map closed (map link_line l.links.items) ++ l.left;
}

abbrev pub decreases-loop-line : goal.decreases-loop-line
decreases-loop-line l = length l.left
