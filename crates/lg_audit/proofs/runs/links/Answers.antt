-- The line that ends the run is the one line that stands there, and is no link.
use Rattle.lg_audit.specs.Lines.{link_line}
use Rattle.lg_audit.proofs.Rows.{same_line, link_single}
use Rattle.lg_audit.proofs.runs.links.Goals as goal

pub returns-in_default-link : goal.returns-in_default-link
returns-in_default-link c =
    let at = c.loop-line.invariant in
    let cut = c.in-Some.ensures in
    (at.form, at.read, λ l rest form is. c.in_default-link.ensures l form (same_line c.loop-line.left.now c.in-Some.line.now (link_line l) c.in-Some.rest.now rest cut.0 (link_single l form) cut.1 is).0)
