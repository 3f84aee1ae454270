use Rattle.lg_lex.proofs.AfterMark.{after_mark}
use Rattle.lg_lex.proofs.TokenTexts.{before_ascii, after_ascii}
use Rattle.lg_lex.proofs.laws.parts_are_utf8.Goals as goal

pub returns-clause-after_mark : goal.returns-clause-after_mark
returns-clause-after_mark c = after_mark

pub returns-clause-before_ascii : goal.returns-clause-before_ascii
returns-clause-before_ascii c = before_ascii

pub returns-clause-after_ascii : goal.returns-clause-after_ascii
returns-clause-after_ascii c = after_ascii
