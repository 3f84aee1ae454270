use Rattle.std.proofs.Common.{ℕ, replicate, ap, pos, ◌∙◌}
use Rattle.lg_rank.specs.Trees.{choices_from, links_of}
use Rattle.lg_rank.specs.declared.tree.Tree.{Tree}
use Rattle.lg_rank.proofs.Spelling.{zeros}
use Rattle.lg_rank.proofs.part.Part.nothing.Goals as goal

pub returns : goal.returns
returns c =
    let n = c.in_ok-count.count in
    let choices = ap (λ (t : Tree). choices_from t 0 n) c.in_ok-tree.ensures.ok ∙ zeros 0 n ∙ ap (λ (m : ℕ). replicate m 0) c.in_ok-count.ensures in
    let links = ap links_of c.in_ok-tree.ensures.ok in
    λ h. record { cost = pos 0; span = 0; choices = choices h; links = links h }
