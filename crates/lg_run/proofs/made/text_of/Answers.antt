use Rattle.std.proofs.Common.{◌∙◌, [], ◌∷◌, ◌++◌, codes}
use Rattle.std.specs.Prelude.{decimal}
use Rattle.lg_text.specs.Texts.{line_of}
use Rattle.lg_run.specs.MadeRuns.{number_line}
use Rattle.lg_run.proofs.MadeText.{text_is}
use Rattle.lg_run.proofs.made.text_of.Goals as goal

-- the lines one after another
pub returns : goal.returns
returns c = λ replies sums.
    let asked = c.in_ok-write_line.ensures ∙ (λ i. c.new-out.ensures.items i ++ line_of (codes "gen" ∷ decimal (c.from.ensures i) ∷ decimal (c.from-2.ensures i) ∷ decimal (c.from-3.ensures i) ∷ [])) in
    let counted = c.in_ok-write_line-2.ensures ∙ (λ i. c.write_line.new.out.items ++ number_line (codes "sentences") (c.from-4.ensures i)) in
    text_is c.args.seed c.args.words c.args.sentences c.args.sums _ _ _ replies sums asked counted c.in_ok-write_sums.ensures
