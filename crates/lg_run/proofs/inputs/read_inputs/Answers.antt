use Rattle.std.proofs.Common.{IfSome, IfErr, [], refl, sym, subst, append-nil}
use Rattle.lg_run.specs.Commands.{task}
use Rattle.lg_run.specs.Inputs.{InputsAre, GenGiven, given, accepted}
use Rattle.lg_run.specs.Reads.{AsksInOrder, Comes, Tells, IsAbout, given_in}
use Rattle.lg_run.specs.declared.command.Command.{Command}
use Rattle.lg_run.specs.Answers.{names_of}
use Rattle.lg_run.proofs.Readings.{known_all, asks_none}
use Rattle.lg_run.proofs.inputs.read_inputs.Goals as goal

-- the names of the command's own files
pub returns-in-One-clause-names : goal.returns-in-One-clause-names
returns-in-One-clause-names g c =
    subst (λ (t : Command). IfSome (g.F.Files.contents c.args.files.now) (λ known. AsksInOrder (InputsAre known (task c.args.setup t)) (g.F.Files.asked c.args.files.now) (g.F.Files.asked c.inputs_of_one.new.files)))
    (sym c.in-One.is) c.inputs_of_one.ensures.names

pub returns-in-Run-clause-names : goal.returns-in-Run-clause-names
returns-in-Run-clause-names g c =
    subst (λ (t : Command). IfSome (g.F.Files.contents c.args.files.now) (λ known. AsksInOrder (InputsAre known (task c.args.setup t)) (g.F.Files.asked c.args.files.now) (g.F.Files.asked c.inputs_of_run.new.files)))
    (sym c.in-Run.is) c.inputs_of_run.ensures.names

pub returns-in-One-clause-about : goal.returns-in-One-clause-about
returns-in-One-clause-about g c =
    subst (λ (t : Command). IfErr c.inputs_of_one.result (IsAbout (names_of (task c.args.setup t)) (g.F.Files.asked c.inputs_of_one.new.files)))
    (sym c.in-One.is) c.inputs_of_one.ensures.about

pub returns-in-Run-clause-about : goal.returns-in-Run-clause-about
returns-in-Run-clause-about g c =
    subst (λ (t : Command). IfErr c.inputs_of_run.result (IsAbout (names_of (task c.args.setup t)) (g.F.Files.asked c.inputs_of_run.new.files)))
    (sym c.in-Run.is) c.inputs_of_run.ensures.about

pub returns-in-Run-clause-told : goal.returns-in-Run-clause-told
returns-in-Run-clause-told g c =
    subst (λ (t : Command). IfSome (g.F.Files.contents c.args.files.now) (λ known. Tells given_in (InputsAre known (task c.args.setup t)) (g.F.Files.asked c.args.files.now) (g.F.Files.asked c.inputs_of_run.new.files) c.inputs_of_run.result))
    (sym c.in-Run.is) c.inputs_of_run.ensures.told

pub returns-in-Export-clause-names : goal.returns-in-Export-clause-names
returns-in-Export-clause-names g c =
    subst (λ (t : Command). IfSome (g.F.Files.contents c.args.files.now) (λ known. AsksInOrder (InputsAre known (task c.args.setup t)) (g.F.Files.asked c.args.files.now) (g.F.Files.asked c.inputs_of_export.new.files)))
    (sym c.in-Export.is) c.inputs_of_export.ensures.names

pub returns-in-Export-clause-about : goal.returns-in-Export-clause-about
returns-in-Export-clause-about g c =
    subst (λ (t : Command). IfErr c.inputs_of_export.result (IsAbout (names_of (task c.args.setup t)) (g.F.Files.asked c.inputs_of_export.new.files)))
    (sym c.in-Export.is) c.inputs_of_export.ensures.about

pub returns-in-Export-clause-told : goal.returns-in-Export-clause-told
returns-in-Export-clause-told g c =
    subst (λ (t : Command). IfSome (g.F.Files.contents c.args.files.now) (λ known. Tells given_in (InputsAre known (task c.args.setup t)) (g.F.Files.asked c.args.files.now) (g.F.Files.asked c.inputs_of_export.new.files) c.inputs_of_export.result))
    (sym c.in-Export.is) c.inputs_of_export.ensures.told

pub returns-in-Audit-clause-names : goal.returns-in-Audit-clause-names
returns-in-Audit-clause-names g c =
    subst (λ (t : Command). IfSome (g.F.Files.contents c.args.files.now) (λ known. AsksInOrder (InputsAre known (task c.args.setup t)) (g.F.Files.asked c.args.files.now) (g.F.Files.asked c.inputs_of_audit.new.files)))
    (sym c.in-Audit.is) c.inputs_of_audit.ensures.names

pub returns-in-Audit-clause-about : goal.returns-in-Audit-clause-about
returns-in-Audit-clause-about g c =
    subst (λ (t : Command). IfErr c.inputs_of_audit.result (IsAbout (names_of (task c.args.setup t)) (g.F.Files.asked c.inputs_of_audit.new.files)))
    (sym c.in-Audit.is) c.inputs_of_audit.ensures.about

pub returns-in-Audit-clause-told : goal.returns-in-Audit-clause-told
returns-in-Audit-clause-told g c =
    subst (λ (t : Command). IfSome (g.F.Files.contents c.args.files.now) (λ known. Tells given_in (InputsAre known (task c.args.setup t)) (g.F.Files.asked c.args.files.now) (g.F.Files.asked c.inputs_of_audit.new.files) c.inputs_of_audit.result))
    (sym c.in-Audit.is) c.inputs_of_audit.ensures.told

-- no file is read for made input
pub returns-in-Gen-clause-names : goal.returns-in-Gen-clause-names
returns-in-Gen-clause-names g c =
    let asked = g.F.Files.asked c.args.files.now in
    subst (λ (t : Command). IfSome (g.F.Files.contents c.args.files.now) (λ known. AsksInOrder (InputsAre known (task c.args.setup t)) asked asked)) (sym c.in-Gen.is)
    (known_all (g.F.Files.contents c.args.files.now) _ (λ known. asks_none (given (GenGiven c.in-Gen.seed c.in-Gen.words c.in-Gen.sentences)) asked asked refl))

pub returns-in-Gen-clause-told : goal.returns-in-Gen-clause-told
returns-in-Gen-clause-told g c =
    let asked = g.F.Files.asked c.args.files.now in
    let Told : Command → Type 0 = λ t. IfSome (g.F.Files.contents c.args.files.now) (λ known. Comes (InputsAre known (task c.args.setup t)) asked asked (accepted (GenGiven c.in-Gen.seed c.in-Gen.words c.in-Gen.sentences))) in
    subst Told (sym c.in-Gen.is) (known_all (g.F.Files.contents c.args.files.now) _ (λ known. record { names = []; read = (refl, refl); grown = sym (append-nil asked) }))
