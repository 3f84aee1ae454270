use Rattle.std.proofs.Common.{◌≤◌, ◌∙◌, length, refl, sym, arith, IsTrue}
use Rattle.lg_run.specs.Words.{is_operand, SENTENCE}
use Rattle.lg_run.proofs.OptionWords.{of_none}
use Rattle.lg_run.proofs.OneTask.{no_cut_one, no_one, first_two, not_both, is_one_command}
use Rattle.lg_run.proofs.command.one_of.Goals as goal
use Rattle.lg_run.proofs.command.one_of.Goals.{then-not-is_operand-via-then-not-is_operand, then-not-is_operand-via-else-not-is_operand+then-not-is_operand-2, then-not-is_operand-via-else-not-is_operand+else-not-is_operand-2+then-sentence-gt-SENTENCE}

-- words that are not cut, or with other operands than two
pub returns-in_err-cut : goal.returns-in_err-cut
returns-in_err-cut c = of_none _ _ _ c.from_residual.ensures (no_cut_one _ c.in_err-cut.ensures)

pub returns-in_err-dictionary : goal.returns-in_err-dictionary
returns-in_err-dictionary c = of_none _ _ _ c.from_residual-in_err-dictionary.ensures (no_one _ _ _ c.in_ok-cut.ensures (λ d s e di si short. c.in_err-dictionary.ensures d s e))

-- or with a word that is no operand, or a long sentence
pub returns-then-not-is_operand : goal.returns-then-not-is_operand
returns-then-not-is_operand c =
    no_one _ _ _ c.in_ok-cut.ensures
    (λ d s e di si short. let same = first_two _ _ _ _ (sym c.in_ok-dictionary.ensures ∙ e) in elim c.then-not-is_operand.branch [
      | then-not-is_operand-via-then-not-is_operand w ↦ not_both _ w.if-not-is_operand.ensures (rw same.0 di)
      | then-not-is_operand-via-else-not-is_operand+then-not-is_operand-2 w ↦ not_both _ w.if-not-is_operand-2.ensures (rw same.1 si)
      | then-not-is_operand-via-else-not-is_operand+else-not-is_operand-2+then-sentence-gt-SENTENCE w ↦ let long = w.if-sentence-gt-SENTENCE.true in let fits : length c.in_ok-dictionary.sentence.now ≤ SENTENCE = rw same.1 short in absurd (omega arith)
    ])

-- options and two operands
pub returns : goal.returns
returns c =
    let dictionary = c.in_ok-dictionary.dictionary.now in
    let sentence = c.in_ok-dictionary.sentence.now in
    let d : IsTrue (is_operand dictionary) = sym c.if-not-is_operand.ensures in
    let s : IsTrue (is_operand sentence) = sym c.if-not-is_operand-2.ensures in
    let short : length sentence ≤ SENTENCE = let k = c.if-sentence-gt-SENTENCE.false in omega arith in
    is_one_command _ _ dictionary sentence (λ setup. refl) (rw c.in_ok-dictionary.ensures at c.in_ok-cut.ensures) d s short
