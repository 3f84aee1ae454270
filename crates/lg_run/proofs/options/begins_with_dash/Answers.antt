use Rattle.std.proofs.Common.{string_bytes}
use Rattle.lg_run.proofs.OptionWords.{ends_empty, ends_first, operand_by}
use Rattle.lg_run.proofs.options.begins_with_dash.Goals as goal

pub returns-in-empty-clause-no : goal.returns-in-empty-clause-no
returns-in-empty-clause-no c = λ e. ends_empty string_bytes c.args.words.now c.in-empty.len_below

pub returns-in-len1-up-clause-no : goal.returns-in-len1-up-clause-no
returns-in-len1-up-clause-no c = λ e. ends_first string_bytes c.args.words.now c.word-item.result c.in-len1-up.len_at_least c.word-item.is (operand_by _ _ (rw c.deref.ensures at c.is_operand.ensures) e)
