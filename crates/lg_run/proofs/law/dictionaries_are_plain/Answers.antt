use Rattle.lg_run.proofs.PlainDictionaries.{dictionaries_plain, edits_keep_plain}
use Rattle.lg_run.proofs.law.dictionaries_are_plain.Goals as goal

pub returns-clause-read : goal.returns-clause-read
returns-clause-read c = dictionaries_plain

pub returns-clause-edited : goal.returns-clause-edited
returns-clause-edited c = edits_keep_plain
