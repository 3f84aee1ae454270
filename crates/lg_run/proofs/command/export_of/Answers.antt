use Rattle.std.proofs.Common.{◌∙◌, ℕ, List, string_bytes, sym, subst, refl, IsTrue}
use Rattle.lg_run.specs.Words.{is_operand}
use Rattle.lg_run.proofs.OneTask.{no_export, first_three, not_both, is_export_command}
use Rattle.lg_run.proofs.command.export_of.Goals as goal
use Rattle.lg_run.proofs.command.export_of.Goals.{then-not-is_operand-via-then-not-is_operand, then-not-is_operand-via-else-not-is_operand+then-not-is_operand-2}

-- words with one that is no operand
pub returns-then-not-is_operand : goal.returns-then-not-is_operand
returns-then-not-is_operand c =
    no_export _
    (λ d s n k e is_d is_s is_n. let same = first_three _ _ _ _ _ _ (sym c.in_ok-dictionary.ensures ∙ e) in elim c.then-not-is_operand.branch [
      | then-not-is_operand-via-then-not-is_operand w ↦ not_both _ w.if-not-is_operand.ensures (rw same.0 is_d)
      | then-not-is_operand-via-else-not-is_operand+then-not-is_operand-2 w ↦ not_both _ w.if-not-is_operand-2.ensures (subst (λ (x : List ℕ). IsTrue (is_operand x)) (sym same.1 ∙ sym w.deref.ensures) is_s)
    ])

-- two operands and a number in form
pub returns : goal.returns
returns c =
    let d : IsTrue (is_operand c.in_ok-dictionary.dictionary.now) = sym c.if-not-is_operand.ensures in
    let s : IsTrue (is_operand (string_bytes c.in_ok-dictionary.script.now)) = subst (λ (x : List ℕ). IsTrue (is_operand x)) c.deref.ensures (sym c.if-not-is_operand-2.ensures) in
    is_export_command _ _ _ _ _ _ (λ setup. refl) refl c.in_ok-dictionary.ensures d s c.in_ok-number.ensures
