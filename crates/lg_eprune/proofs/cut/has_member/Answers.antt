use Rattle.std.proofs.Common.{◌==◌, length, ap, ◌∙◌}
use Rattle.lg_eprune.proofs.Members.{has_by}
use Rattle.lg_gram.specs.Trees.{expr_items}
use Rattle.lg_eprune.proofs.cut.has_member.Goals as goal

pub returns : goal.returns
returns c = has_by (expr_items c.args.members.now) c.is_empty.result (c.is_empty.ensures ∙ ap (λ es. length es == 0) c.items.ensures)
