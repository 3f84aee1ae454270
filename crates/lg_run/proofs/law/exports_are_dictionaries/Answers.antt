use Rattle.lg_run.proofs.ExportedTexts.{exports_are_dictionaries}
use Rattle.lg_run.proofs.law.exports_are_dictionaries.Goals as goal

pub returns : goal.returns
returns c = exports_are_dictionaries c.read_dictionaries_are_exportable.ensures c.edited_dictionaries_are_exportable.ensures c.exports_read_back.ensures
