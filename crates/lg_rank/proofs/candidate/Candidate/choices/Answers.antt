use Rattle.std.proofs.Common.{ℕ, ◌+◌, ◌-◌, List, [], ◌++◌, ap, ◌∙◌, arith}
use Rattle.lg_rank.specs.Sources.{part_in}
use Rattle.lg_rank.specs.Trees.{choices_from}
use Rattle.lg_rank.proofs.Making.{spelled_choices}
use Rattle.lg_rank.proofs.Spelling.{gathered}
use Rattle.lg_rank.proofs.candidate.Candidate.choices.Goals as goal

pub returns : goal.returns
returns c =
    let s = c.args.self.now in
    let w = c.from-word.result in
    let m = c.positions-positions.result in
    let is = c.from-word.ensures in
    let long = c.positions-positions.ensures.left in
    let before = choices_from (part_in s.left).tree.value 0 (w - 0) in
    let behind = choices_from (part_in s.right).tree.value (w + 1) (m - (w + 1)) in
    c.in_ok-push_choices-2.ensures
    ∙ gathered [] c.push_choices.new.out.items c.push.new.self.items before behind s.way.choice (c.in_ok-push_choices.ensures ∙ ap (λ (l : List ℕ). l ++ before) c.in_ok-choices.ensures.items) c.in_ok-push.ensures.items
    ∙ spelled_choices s (w - 0) (w + 1) (m - (w + 1)) c.requires (omega arith) (omega arith) (omega arith)
