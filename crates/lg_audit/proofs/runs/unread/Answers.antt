-- The line that ends the run is the one line that stands there, and does not begin so.
use Rattle.std.proofs.Common.{eqb, sym, ap, ◌∙◌, true≢false, List, ℕ}
use Rattle.std.specs.List.{starts_with}
use Rattle.lg_audit.proofs.Rows.{same_line}
use Rattle.lg_audit.proofs.runs.unread.Goals as goal

pub returns-then-not-starts_with : goal.returns-then-not-starts_with
returns-then-not-starts_with c =
    let at = c.loop-line.invariant in
    let cut = c.in-Some.ensures in (
      at.form,
      at.read,
      λ l rest form is.
          let same = (same_line c.loop-line.left.now c.in-Some.line.now l c.in-Some.rest.now rest cut.0 form.0 cut.1 is).0 in
          true≢false (sym (ap (λ (t : List ℕ). starts_with eqb t c.args.beginning.now) same ∙ form.1) ∙ sym c.starts_with.ensures.value ∙ c.if-not-starts_with.true),
    )
