use Rattle.lg_lex.specs.declared.run.Separators.TheVariants.{Blanks}
use Rattle.lg_token.proofs.Unique.{one_list}
use Rattle.lg_token.proofs.SomeList.{some_list}
use Rattle.lg_token.proofs.law.tokens_are_one_list.Goals as goal

pub returns-clause-some : goal.returns-clause-some
returns-clause-some c = some_list (c.runs_are_one_list.ensures.cut Blanks 0)

pub returns-clause-one : goal.returns-clause-one
returns-clause-one c = one_list (λ runs text. c.runs_are_one_list.ensures.one Blanks runs 0 text)
