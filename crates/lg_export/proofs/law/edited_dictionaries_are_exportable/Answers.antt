use Rattle.lg_lex.specs.declared.marks.Marks.TheVariants.{Dictionary}
use Rattle.lg_export.proofs.ReadEdits.{edited_is_exportable}
use Rattle.lg_export.proofs.law.edited_dictionaries_are_exportable.Goals as goal

pub returns : goal.returns
returns c = edited_is_exportable c.parts_are_written.ensures.written (c.tokens_are_utf8.ensures Dictionary)
