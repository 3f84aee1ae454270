use Rattle.std.proofs.Common.{ap, sym, ◌∙◌}
use Rattle.std.proofs.lemmas.Result.{IfOk-equal}
use Rattle.lg_dict.specs.Dictionary.{Dictionary}
use Rattle.lg_edit.specs.declared.edit.Edit.{Edit}
use Rattle.lg_edit.specs.Edits.{edit_view, edited, without_word}
use Rattle.lg_edit.proofs.Accepted.{made}
use Rattle.lg_edit.proofs.applying.apply.Goals as goal

abbrev edited_by : Dictionary → Edit → Dictionary
edited_by dict edit = edited dict (edit_view edit)

pub returns-in-Put-clause-made : goal.returns-in-Put-clause-made
returns-in-Put-clause-made c =
    IfOk-equal c.put_words.result _ _ _ c.put_words.ensures.made (ap (edited_by c.args.view.now) (sym c.in-Put.is) ∙ made c.args.view.now (edit_view c.args.edit.now) c.requires.accepted)

pub returns-in-Macro-clause-made : goal.returns-in-Macro-clause-made
returns-in-Macro-clause-made c =
    IfOk-equal c.put_macro.result _ _ _ c.put_macro.ensures.made (ap (edited_by c.args.view.now) (sym c.in-Macro.is) ∙ made c.args.view.now (edit_view c.args.edit.now) c.requires.accepted)

pub returns-in-Del-clause-made : goal.returns-in-Del-clause-made
returns-in-Del-clause-made c =
    IfOk-equal c.remove.result _ _ _ c.remove.ensures.removed
    (ap (without_word c.args.view.now) c.bytes.ensures ∙ ap (edited_by c.args.view.now) (sym c.in-Del.is) ∙ made c.args.view.now (edit_view c.args.edit.now) c.requires.accepted)
