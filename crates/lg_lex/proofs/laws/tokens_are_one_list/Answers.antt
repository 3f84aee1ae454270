use Rattle.lg_lex.proofs.Sound.{lex-AreTokens}
use Rattle.lg_lex.proofs.Unique.{AreTokens-lex}
use Rattle.lg_lex.proofs.laws.tokens_are_one_list.Goals as goal

pub returns-clause-lexed : goal.returns-clause-lexed
returns-clause-lexed c = lex-AreTokens

pub returns-clause-one : goal.returns-clause-one
returns-clause-one c = AreTokens-lex
