use Rattle.lg_script.proofs.Commanded.{word_test}
use Rattle.lg_script.proofs.parts.is_word.Goals as goal

pub returns : goal.returns
returns c = word_test c.args.bytes.now _ _ c.is_empty.result c.first_word.ensures.split c.first_word.ensures.inner c.first_word.ensures.ends c.is_empty.ensures
