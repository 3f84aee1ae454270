use Rattle.lg_expr.proofs.Prices.{expression_fits}
use Rattle.lg_expr.proofs.law.expressions_fit.Goals as goal

pub returns : goal.returns
returns c = λ formulas limit ts e written rest all_fit low h. expression_fits formulas all_fit c.parts_are_written.ensures.written limit low ts e written rest h
