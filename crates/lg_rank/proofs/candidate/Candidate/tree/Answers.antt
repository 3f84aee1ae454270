use Rattle.std.proofs.Common.{◌++◌, ap, ◌∙◌}
use Rattle.lg_rank.specs.Trees.{choice_at, links_of, with_link}
use Rattle.lg_rank.specs.declared.part.Part.{Part}
use Rattle.lg_rank.proofs.Making.{tree_choices}
use Rattle.lg_rank.proofs.candidate.Candidate.tree.Goals as goal

pub returns-clause-choices : goal.returns-clause-choices
returns-clause-choices c =
    let left = c.in_ok-left.ensures ∙ ap (λ (p : Part). p.tree.value) c.part.ensures in
    let right = c.in_ok-right.ensures ∙ ap (λ (p : Part). p.tree.value) c.part-2.ensures in
    tree_choices c.args.self.now c.in_ok-tree.tree.value c.in_ok-left.left.value c.in_ok-right.right.value c.requires (ap choice_at c.in_ok-tree.ensures.ok) left right

pub returns-clause-links : goal.returns-clause-links
returns-clause-links c =
    let left = c.in_ok-left.ensures ∙ ap (λ (p : Part). p.tree.value) c.part.ensures in
    let right = c.in_ok-right.ensures ∙ ap (λ (p : Part). p.tree.value) c.part-2.ensures in
    ap links_of c.in_ok-tree.ensures.ok ∙ (λ h. with_link c.args.self.now.way.near (links_of (left h)) ++ with_link c.args.self.now.way.far (links_of (right h)))
