use Rattle.std.proofs.Common.{refl}
use Rattle.lg_script.specs.Scripts.{not_utf8}
use Rattle.lg_script.proofs.Texts.{told_script}
use Rattle.lg_script.proofs.read.read_script.Goals as goal

pub returns-in-Some : goal.returns-in-Some
returns-in-Some c = not_utf8 c.in-Some.byte c.in-Some.ensures.fault

-- the text is UTF-8, and what its lines give is told
pub returns-in-None : goal.returns-in-None
returns-in-None c = told_script c.args.bytes.now c.without_mark.result.now c.read_text.result (c.in-None.ensures.none.0 refl) c.without_mark.ensures c.read_text.ensures
