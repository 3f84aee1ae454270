use Rattle.lg_expr.proofs.Lexemes.{token_right, token_only}
use Rattle.lg_expr.proofs.law.parts_are_written.Goals as goal

pub returns-clause-written : goal.returns-clause-written
returns-clause-written c = token_right c.cost_number_laws.ensures.reads

pub returns-clause-only : goal.returns-clause-only
returns-clause-only c = token_only c.cost_number_laws.ensures.one_reading c.cost_number_laws.ensures.reads c.names_are_written.ensures
