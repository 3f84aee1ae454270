use Rattle.std.proofs.Common.{ℕ}
use Rattle.lg_lex.specs.Tokens.{Lexeme}
use Rattle.lg_expr.proofs.Tokens.{answer_is, one_answer}
use Rattle.lg_expr.proofs.law.exactly_one.Goals as goal

pub returns-clause-some : goal.returns-clause-some
returns-clause-some c = λ part r ts. answer_is (Lexeme × ℕ) part r ts

pub returns-clause-one : goal.returns-clause-one
returns-clause-one c = λ part r ts x y. one_answer (Lexeme × ℕ) part r ts x y
