use Rattle.lg_lex.proofs.Sections.{section_tokens}
use Rattle.lg_lex.proofs.laws.sections_keep_their_tokens.Goals as goal

pub returns : goal.returns
returns c = section_tokens
