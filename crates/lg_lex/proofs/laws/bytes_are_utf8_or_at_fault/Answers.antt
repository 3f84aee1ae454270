use Rattle.lg_lex.proofs.ValidFronts.{utf8_or_fault, one_fault, fault_apart}
use Rattle.lg_lex.proofs.laws.bytes_are_utf8_or_at_fault.Goals as goal

pub returns-clause-some : goal.returns-clause-some
returns-clause-some c = utf8_or_fault

pub returns-clause-one : goal.returns-clause-one
returns-clause-one c = one_fault

pub returns-clause-apart : goal.returns-clause-apart
returns-clause-apart c = fault_apart
