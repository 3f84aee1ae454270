use Rattle.std.proofs.Common.{◌≡◌, ℕ, [], ◌∷◌, Some, slice_get, subst, arith}
use Rattle.lg_run.specs.Inputs.{ExportReads, refused, versions, too_few}
use Rattle.lg_run.specs.Lines.{versions_line}
use Rattle.lg_run.proofs.Told.{comes_at_once}
use Rattle.lg_run.proofs.About.{first_name, later_name}
use Rattle.lg_run.proofs.export.text_at.Goals as goal

-- fewer edits were made
pub returns-then-number-count-clause-told : goal.returns-then-number-count-clause-told
returns-then-number-count-clause-told c = λ asked dict commands r.
    let script = c.args.script.now in
    comes_at_once (ExportReads c.args.dictionary.now script c.args.number dict commands) (refused (versions_line script c.args.count)) (too_few c.args.count (r.last c.if-number-count.true) c.if-number-count.true) asked

pub returns-then-number-count-clause-about : goal.returns-then-number-count-clause-about
returns-then-number-count-clause-about c = λ asked. later_name c.args.dictionary.now (c.args.script.now ∷ []) c.args.script.now (first_name c.args.script.now [])

-- or as many
pub returns-clause-told : goal.returns-clause-told
returns-clause-told c = λ asked dict commands r.
    let same : c.args.count ≡ c.args.number = omega (arith, r.few, c.if-number-count.false) in
    c.text_of.ensures.told asked c.args.script.now c.args.number dict commands (subst (λ (k : ℕ). slice_get (versions dict commands) k ≡ Some c.args.view.now) same r.reached)

pub returns-clause-about : goal.returns-clause-about
returns-clause-about c = λ asked. c.text_of.ensures.about asked c.args.script.now
