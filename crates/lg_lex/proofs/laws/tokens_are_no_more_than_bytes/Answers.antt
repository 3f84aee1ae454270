use Rattle.lg_lex.proofs.TokenCounts.{few_tokens}
use Rattle.lg_lex.proofs.laws.tokens_are_no_more_than_bytes.Goals as goal

pub returns : goal.returns
returns c = few_tokens
