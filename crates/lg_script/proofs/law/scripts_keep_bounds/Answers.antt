use Rattle.lg_script.proofs.Bounds.{keeps_bounds}
use Rattle.lg_script.proofs.law.scripts_keep_bounds.Goals as goal

pub returns : goal.returns
returns c =
    let parts = c.parts_are_utf8.ensures in
    keeps_bounds parts.after_mark parts.before_ascii parts.after_ascii c.entry_texts_keep_bounds.ensures
