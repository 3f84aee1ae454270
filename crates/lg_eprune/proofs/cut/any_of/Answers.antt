use Rattle.std.proofs.Common.{◌==◌, Some, length, ap, ◌∙◌}
use Rattle.lg_gram.specs.Trees.{expr_items}
use Rattle.lg_eprune.proofs.Members.{any_some}
use Rattle.lg_eprune.proofs.cut.any_of.Goals as goal

pub returns-else-is_empty : goal.returns-else-is_empty
returns-else-is_empty c =
    ap Some c.one_of.ensures
    ∙ any_some (expr_items c.args.members) c.is_empty.result (c.is_empty.ensures ∙ ap (λ es. length es == 0) c.items.ensures) c.if-is_empty.false
