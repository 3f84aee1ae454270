use Rattle.std.proofs.Common.{◌≡◌, List, ℕ, ◌++◌, length, take, drop, sym, ap, ◌∙◌, take-append-drop}
use Rattle.std.proofs.Math.Seq.{take-length}
use Rattle.std.specs.Cmp.Lexicographic.{same_text}
use Rattle.lg_check_runs.proofs.told.front.Goals as goal

pub returns-in-Some-clause-came : goal.returns-in-Some-clause-came
returns-in-Some-clause-came c =
    let bytes = c.args.bytes.now in
    let text = c.args.text.now in
    let same : take (length bytes) text ≡ bytes = same_text (take (length bytes) text) bytes (sym c.in-Some.ensures.cases.0) in
    (drop (length bytes) text, sym (take-append-drop (length bytes) text) ∙ ap (λ (l : List ℕ). l ++ drop (length bytes) text) (same ∙ sym (take-length bytes)))
