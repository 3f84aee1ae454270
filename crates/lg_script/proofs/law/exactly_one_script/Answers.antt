use Rattle.lg_script.proofs.OneScript.{one_script}
use Rattle.lg_script.proofs.Some.{some_script}
use Rattle.lg_script.proofs.law.exactly_one_script.Goals as goal

pub returns-clause-some : goal.returns-clause-some
returns-clause-some c = some_script c.exactly_one_entry_text.ensures.some c.bytes_are_utf8_or_at_fault.ensures.some

pub returns-clause-one : goal.returns-clause-one
returns-clause-one c =
    let utf8 = c.bytes_are_utf8_or_at_fault.ensures in
    one_script c.exactly_one_entry_text.ensures.one utf8.one utf8.apart
