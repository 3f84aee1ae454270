use Rattle.std.proofs.Common.{map, subst}
use Rattle.lg_dict.specs.Dictionary.{Dictionary}
use Rattle.lg_script.specs.Commands.{command_view}
use Rattle.lg_run.specs.Inputs.{ExportGiven, ExportReads}
use Rattle.lg_run.specs.Reads.{Tells}
use Rattle.lg_run.proofs.export.version_text.Goals as goal

-- the view is the dictionary
pub returns-clause-told : goal.returns-clause-told
returns-clause-told c = λ asked.
    subst (λ (d : Dictionary). Tells (λ text. ExportGiven text.items) (ExportReads c.args.dictionary.now c.args.script.now c.args.number d (map command_view c.args.commands.now)) asked asked c.text_after.result)
    c.of-view.ensures (c.text_after.ensures.told asked)
