use Rattle.lg_gram.proofs.Names.{written_parts}
use Rattle.lg_gram.proofs.law.names_are_written.Goals as goal

pub returns : goal.returns
returns c = written_parts
