use Rattle.lg_log.proofs.CodeLaws.{edits_have_codes, codes_are_of_edits}
use Rattle.lg_log.proofs.codes.code_laws.Goals as goal

pub returns : goal.returns
returns c = record { edits = edits_have_codes; codes = codes_are_of_edits }
