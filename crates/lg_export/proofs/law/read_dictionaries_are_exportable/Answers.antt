use Rattle.lg_lex.specs.declared.marks.Marks.TheVariants.{Dictionary}
use Rattle.lg_export.proofs.ReadEntries.{read_is_exportable}
use Rattle.lg_export.proofs.law.read_dictionaries_are_exportable.Goals as goal

pub returns : goal.returns
returns c =
    read_is_exportable c.parts_are_utf8.ensures.before_ascii c.parts_are_utf8.ensures.after_ascii c.parts_are_utf8.ensures.after_mark c.parts_are_written.ensures.written
    (c.tokens_are_utf8.ensures Dictionary)
