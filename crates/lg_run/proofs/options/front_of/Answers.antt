use Rattle.std.proofs.Common.{None, Some, sym}
use Rattle.lg_run.proofs.OptionWords.{front_cut}
use Rattle.lg_run.proofs.options.front_of.Goals as goal

pub returns-in-Some : goal.returns-in-Some
returns-in-Some c = sym (front_cut c.args.word.now (Some (c.in-Some.name, c.in-Some.field-0-1)) c.in-Some.ensures.cases)

pub returns-in-None : goal.returns-in-None
returns-in-None c = sym (front_cut c.args.word.now None c.in-None.ensures.cases)
