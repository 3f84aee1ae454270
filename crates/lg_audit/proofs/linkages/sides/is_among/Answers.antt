use Rattle.std.proofs.Common.{eqb, List, ℕ, ◌∙◌}
use Rattle.std.specs.Cmp.Lexicographic.{pointwise}
use Rattle.lg_audit.proofs.PieceLists.{any_text}
use Rattle.lg_audit.proofs.linkages.sides.is_among.Goals as goal

pub returns : goal.returns
returns c = c.has_text.ensures ∙ any_text (λ (other : List ℕ). pointwise eqb other c.args.text.now) c.args.others.now
