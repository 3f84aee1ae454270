use Rattle.lg_lex.proofs.TokenTexts.{all_utf8}
use Rattle.lg_lex.proofs.laws.tokens_are_utf8.Goals as goal

pub returns : goal.returns
returns c = λ marks tokens bytes is are. all_utf8 marks tokens 0 bytes is are
