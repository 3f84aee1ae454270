use Rattle.std.proofs.Common.{refl, sym, ap, subst, ◌∙◌}
use Rattle.lg_run.specs.Words.{HasForm}
use Rattle.lg_run.specs.Settings.{value_kind}
use Rattle.lg_run.specs.declared.options.Kind.{Kind}
use Rattle.lg_run.proofs.OptionWords.{of_none, same_setting, same_option}
use Rattle.lg_run.proofs.options.first_option.Goals as goal

-- another word
pub returns-in_err-setting : goal.returns-in_err-setting
returns-in_err-setting c = of_none _ _ _ c.from_residual-in_err-setting.ensures
    (λ s v behind h. let same = same_option _ _ _ _ _ s v behind c.in_ok-word.ensures h in c.in_err-setting.ensures s same.0 same.1)

-- or a value in another form
pub returns-then-not-is_form_of : goal.returns-then-not-is_form_of
returns-then-not-is_form_of c = λ s v behind h.
    let same = same_option _ _ _ _ _ s v behind c.in_ok-word.ensures h in
    let one = same_setting c.in_ok-setting.setting s (sym c.in_ok-setting.ensures.0 ∙ same.0) in
    c.if-not-is_form_of.ensures.no refl
    (subst (λ (k : Kind). HasForm k c.in_ok-word.value.now) (ap value_kind (sym one) ∙ sym c.kind.ensures) same.2)
