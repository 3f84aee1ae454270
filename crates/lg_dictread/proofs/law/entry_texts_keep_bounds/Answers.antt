use Rattle.lg_lex.specs.declared.marks.Marks.TheVariants.{Dictionary}
use Rattle.lg_dictread.proofs.EntryBounds.{entry_text_bounded}
use Rattle.lg_dictread.proofs.law.entry_texts_keep_bounds.Goals as goal

pub returns : goal.returns
returns c = entry_text_bounded (c.tokens_are_no_more_than_bytes.ensures Dictionary) c.expressions_keep_bounds.ensures
