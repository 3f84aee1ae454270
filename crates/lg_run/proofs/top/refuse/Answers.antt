use Rattle.std.proofs.Common.{◌≡◌, ℕ, List, IfOk, inl, refl, sym, subst}
use Rattle.lg_base.specs.Faults.{Rose}
use Rattle.lg_run.specs.Lines.{edits_line, versions_line, quote_line}
use Rattle.lg_run.specs.Stops.{EndsAs}
use Rattle.lg_run.specs.declared.stop.Stop.{Stop}
use Rattle.lg_run.specs.declared.stop.Stop.TheVariants.{TooManyEdits, TooFewVersions, Quoted}
use Rattle.lg_run.specs.declared.status.Status.TheVariants.{BadInput}
use Rattle.lg_run.proofs.Ends.{ends_as}
use Rattle.lg_run.proofs.top.refuse.Goals as goal

-- a line about a file
pub returns-in-Unreadable-clause-line : goal.returns-in-Unreadable-clause-line
returns-in-Unreadable-clause-line g c =
    let calm = Rose (g.E.Sink.faults c.args.err.now) (g.E.Sink.faults c.fail_about.new.err) → ⊥ in
    subst (λ (s : Stop). EndsAs s c.fail_about.result calm (g.E.Sink.written c.args.err.now) (g.E.Sink.written c.fail_about.new.err)) (sym c.in-Unreadable.is) (inl c.fail_about.ensures.line)

pub returns-in-TooLong-clause-line : goal.returns-in-TooLong-clause-line
returns-in-TooLong-clause-line g c =
    let calm = Rose (g.E.Sink.faults c.args.err.now) (g.E.Sink.faults c.fail_about-in-TooLong.new.err) → ⊥ in
    subst (λ (s : Stop). EndsAs s c.fail_about-in-TooLong.result calm (g.E.Sink.written c.args.err.now) (g.E.Sink.written c.fail_about-in-TooLong.new.err)) (sym c.in-TooLong.is) (inl c.fail_about-in-TooLong.ensures.line)

-- there was memory for the line or not
pub returns-in-TooManyEdits-clause-line : goal.returns-in-TooManyEdits-clause-line
returns-in-TooManyEdits-clause-line g c =
    let calm = Rose (g.E.Sink.faults c.args.err.now) (g.E.Sink.faults c.fail_with-in-TooManyEdits.new.err) → ⊥ in
    let name = c.in-TooManyEdits.name in
    let line = subst (λ (n : List ℕ). IfOk c.edits_line-line.result (λ l. l.items ≡ edits_line n)) c.as_bytes-in-TooManyEdits.ensures.value c.edits_line-line.ensures in
    subst (λ (s : Stop). EndsAs s c.fail_with-in-TooManyEdits.result calm (g.E.Sink.written c.args.err.now) (g.E.Sink.written c.fail_with-in-TooManyEdits.new.err)) (sym c.in-TooManyEdits.is)
    (ends_as (TooManyEdits name) c.fail_with-in-TooManyEdits.result BadInput c.edits_line-line.result calm (g.E.Sink.written c.args.err.now) (g.E.Sink.written c.fail_with-in-TooManyEdits.new.err) refl line c.fail_with-in-TooManyEdits.ensures.line)

pub returns-in-TooFewVersions-clause-line : goal.returns-in-TooFewVersions-clause-line
returns-in-TooFewVersions-clause-line g c =
    let calm = Rose (g.E.Sink.faults c.args.err.now) (g.E.Sink.faults c.fail_with-in-TooFewVersions.new.err) → ⊥ in
    let name = c.in-TooFewVersions.name in
    let count = c.in-TooFewVersions.count in
    let line = subst (λ (n : List ℕ). IfOk c.versions_line-line.result (λ l. l.items ≡ versions_line n count)) c.as_bytes-in-TooFewVersions.ensures.value c.versions_line-line.ensures in
    subst (λ (s : Stop). EndsAs s c.fail_with-in-TooFewVersions.result calm (g.E.Sink.written c.args.err.now) (g.E.Sink.written c.fail_with-in-TooFewVersions.new.err)) (sym c.in-TooFewVersions.is)
    (ends_as (TooFewVersions name count) c.fail_with-in-TooFewVersions.result BadInput c.versions_line-line.result calm (g.E.Sink.written c.args.err.now) (g.E.Sink.written c.fail_with-in-TooFewVersions.new.err) refl line c.fail_with-in-TooFewVersions.ensures.line)

pub returns-in-Quoted-clause-line : goal.returns-in-Quoted-clause-line
returns-in-Quoted-clause-line g c =
    let calm = Rose (g.E.Sink.faults c.args.err.now) (g.E.Sink.faults c.fail_with-in-Quoted.new.err) → ⊥ in
    let name = c.in-Quoted.name in
    let word = c.in-Quoted.word in
    let named = subst (λ (n : List ℕ). IfOk c.quote_line-line.result (λ l. l.items ≡ quote_line n c.bytes.result.now)) c.as_bytes-in-Quoted.ensures.value c.quote_line-line.ensures in
    let line = subst (λ (w : List ℕ). IfOk c.quote_line-line.result (λ l. l.items ≡ quote_line name.now w)) c.bytes.ensures named in
    subst (λ (s : Stop). EndsAs s c.fail_with-in-Quoted.result calm (g.E.Sink.written c.args.err.now) (g.E.Sink.written c.fail_with-in-Quoted.new.err)) (sym c.in-Quoted.is)
    (ends_as (Quoted name word) c.fail_with-in-Quoted.result BadInput c.quote_line-line.result calm (g.E.Sink.written c.args.err.now) (g.E.Sink.written c.fail_with-in-Quoted.new.err) refl line c.fail_with-in-Quoted.ensures.line)
