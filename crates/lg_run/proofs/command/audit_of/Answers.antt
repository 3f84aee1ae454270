use Rattle.std.proofs.Common.{◌≤◌, ◌∙◌, length, map, string_bytes, refl, sym, ap, arith}
use Rattle.std.proofs.lemmas.List.{length-map}
use Rattle.lg_run.specs.Words.{SCRIPTS}
use Rattle.lg_run.proofs.OneTask.{no_audit, three_and_rest, is_none, is_some, operands_by, operands_not, is_audit_command}
use Rattle.lg_run.proofs.command.audit_of.Goals as goal
use Rattle.lg_run.proofs.command.audit_of.Goals.{then-is_empty-via-then-is_empty, then-is_empty-via-else-is_empty+then-scripts-gt-SCRIPTS, then-is_empty-via-else-is_empty+else-scripts-gt-SCRIPTS+then-not-are_operands}

-- no script, more than 64, or a word that is no operand
pub returns-then-is_empty : goal.returns-then-is_empty
returns-then-is_empty c =
    no_audit _
    (λ d k o ss e operands some few. let same = three_and_rest _ _ _ _ _ _ _ _ (sym c.in_ok-dictionary.ensures ∙ e) in let longer = ap length same.3 in let mapped = length-map c.in_ok-dictionary.scripts.now string_bytes in elim c.then-is_empty.branch [
      | then-is_empty-via-then-is_empty w ↦ absurd (omega (arith, longer, mapped, some, is_none (length c.in_ok-dictionary.scripts.now) w.if-is_empty.ensures))
      | then-is_empty-via-else-is_empty+then-scripts-gt-SCRIPTS w ↦ let many = w.if-scripts-gt-SCRIPTS.true in absurd (omega (arith, longer, mapped, few, many))
      | then-is_empty-via-else-is_empty+else-scripts-gt-SCRIPTS+then-not-are_operands w ↦ operands_not string_bytes c.args.words.now w.if-not-are_operands.ensures operands
    ])

-- operands with 1 to 64 scripts
pub returns : goal.returns
returns c =
    let scripts = c.in_ok-dictionary.scripts.now in
    let mapped = length-map scripts string_bytes in
    let some : 1 ≤ length (map string_bytes scripts) = omega (arith, mapped, is_some (length scripts) c.if-is_empty.ensures) in
    let few : length (map string_bytes scripts) ≤ SCRIPTS = let k = c.if-scripts-gt-SCRIPTS.false in omega (arith, mapped, k) in
    is_audit_command _ _ _ _ _ _ (λ setup. refl) refl c.in_ok-dictionary.ensures (operands_by string_bytes c.args.words.now c.if-not-are_operands.ensures) some few
