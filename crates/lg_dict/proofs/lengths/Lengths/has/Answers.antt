use Rattle.std.proofs.Common.{List, ℕ, ap, ◌∙◌}
use Rattle.lg_dict.specs.Lengths.{has_length}
use Rattle.lg_dict.proofs.lengths.Lengths.has.Goals as goal

pub returns : goal.returns
returns c = c.contains.ensures ∙ ap (λ (l : List ℕ). has_length l c.args.length) c.self.view_is
