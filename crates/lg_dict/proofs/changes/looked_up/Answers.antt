use Rattle.std.proofs.Common.{Some, sym, ap, ◌∙◌}
use Rattle.std.specs.Option.{unwrap_or, option_copied}
use Rattle.lg_dict.specs.Changed.{word_by}
use Rattle.lg_dict.specs.declared.changes.Change.TheVariants.{Same, Removed, Given}
use Rattle.lg_dict.proofs.Changed.{get-word, get-found}
use Rattle.lg_dict.proofs.changes.looked_up.Goals as goal

pub returns-in-None : goal.returns-in-None
returns-in-None c =
    c.get-in-None.ensures
    ∙ sym (get-word c.args.base.now c.args.changes.now c.args.word.now
    ∙ ap (λ o. word_by c.args.base.now.words c.args.word.now (unwrap_or o Same)) (sym c.get.ensures.value ∙ ap option_copied c.in-None.is))

pub returns-in-Some-Same : goal.returns-in-Some-Same
returns-in-Some-Same c =
    c.get-in-Some-Same.ensures ∙ sym (get-found c.args.base.now c.args.changes.now c.args.word.now Same (sym c.get.ensures.value ∙ ap option_copied c.in-Some-Same.is ∙ ap Some c.in-Some-Same.field-0-is))

pub returns-in-Some-Removed : goal.returns-in-Some-Removed
returns-in-Some-Removed c = sym (get-found c.args.base.now c.args.changes.now c.args.word.now Removed (sym c.get.ensures.value ∙ ap option_copied c.in-Some-Removed.is ∙ ap Some c.in-Some-Removed.field-0-is))

pub returns-in-Some-Given : goal.returns-in-Some-Given
returns-in-Some-Given c =
    sym (get-found c.args.base.now c.args.changes.now c.args.word.now (Given c.in-Some-Given.formula) (sym c.get.ensures.value ∙ ap option_copied c.in-Some-Given.is ∙ ap Some c.in-Some-Given.field-0-is))
