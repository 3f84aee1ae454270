use Rattle.lg_dictread.specs.Entries.{part}
use Rattle.lg_dictread.proofs.Entries.{answer_is, one_entry}
use Rattle.lg_dictread.proofs.law.exactly_one_entry.Goals as goal

pub returns-clause-some : goal.returns-clause-some
returns-clause-some c = λ r. answer_is r (c.exactly_one.ensures.some part r) (c.exactly_one.ensures.one part r)

pub returns-clause-one : goal.returns-clause-one
returns-clause-one c = λ r. one_entry r (c.exactly_one.ensures.some part r) (c.exactly_one.ensures.one part r)
