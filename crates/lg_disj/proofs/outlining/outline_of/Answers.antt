use Rattle.std.proofs.Common.{◌∙◌, ap}
use Rattle.lg_disj.specs.Outlines.{outline, disjuncts_in}
use Rattle.lg_disj.specs.Places.{listed}
use Rattle.lg_disj.proofs.Lines.{lines_within, outline_told}
use Rattle.lg_disj.proofs.outlining.outline_of.Goals as goal

pub of-requires-2-clause-lines : goal.of-requires-2-clause-lines
of-requires-2-clause-lines c = lines_within c.args.leaves.now (outline _ c.lines_of.new.lefts c.lines_of.new.rights c.in_ok-lines.lines.items) _ c.in_ok-lines.ensures.lines

pub returns : goal.returns
returns c =
    let o = outline c.in_ok-word.word c.lines_of.new.lefts c.lines_of.new.rights c.in_ok-lines.lines.items in
    ap disjuncts_in c.of-2.ensures ∙ outline_told c.args.leaves.now c.args.word.now o (listed c.args.kept.now.choices) (c.in_ok-word.ensures ∙ c.bytes.ensures) c.in_ok-lines.ensures.lines
