use Rattle.std.proofs.Common.{map}
use Rattle.lg_script.specs.Commands.{command_view}
use Rattle.lg_run.proofs.export.text_after.Goals as goal

pub returns-in-Ok-clause-told : goal.returns-in-Ok-clause-told
returns-in-Ok-clause-told c = λ asked. c.text_at.ensures.told asked c.args.view.now (map command_view c.args.commands.now) c.in-Ok.ensures
