-- The line that ends the run is the one line that stands there, and is no position.
use Rattle.lg_audit.specs.Lines.{word_line}
use Rattle.lg_audit.proofs.Rows.{same_line, word_single}
use Rattle.lg_audit.proofs.runs.words.Goals as goal

pub returns-in_default-word : goal.returns-in_default-word
returns-in_default-word c =
    let at = c.loop-line.invariant in
    let cut = c.in-Some.ensures in
    (at.form, at.read, λ w rest form is. c.in_default-word.ensures w form (same_line c.loop-line.left.now c.in-Some.line.now (word_line w) c.in-Some.rest.now rest cut.0 (word_single w form) cut.1 is).0)
