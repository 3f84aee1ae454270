use Rattle.lg_lex.proofs.Columns.{location_after-append, location_after-start, location_after-slice_range, location_after-line}
use Rattle.lg_lex.proofs.laws.locations_add_up.Goals as goal

pub returns-clause-from_first : goal.returns-clause-from_first
returns-clause-from_first c = location_after-start

pub returns-clause-from_earlier : goal.returns-clause-from_earlier
returns-clause-from_earlier c = location_after-slice_range

pub returns-clause-twice : goal.returns-clause-twice
returns-clause-twice c = location_after-append

pub returns-clause-on_a_line : goal.returns-clause-on_a_line
returns-clause-on_a_line c = location_after-line
