use Rattle.lg_script.proofs.Coded.{edits_placed, in_bounds}
use Rattle.lg_script.proofs.law.place_laws.Goals as goal

pub returns-clause-edits : goal.returns-clause-edits
returns-clause-edits c = edits_placed c.code_laws.ensures.edits

pub returns-clause-bounds : goal.returns-clause-bounds
returns-clause-bounds c = λ scripts good p command is. in_bounds scripts p command good.each is
