use Rattle.std.proofs.Common.{◌∙◌, ℕ, List, [], ◌∷◌, ◌++◌, sym, ap, append_assoc}
use Rattle.std.specs.Prelude.{codes, decimal}
use Rattle.lg_text.specs.Texts.{line_of}
use Rattle.lg_run.proofs.Answered.{of_each}
use Rattle.lg_run.proofs.audit.wrong_line.Goals as goal

-- the numbers of the place, and what stands between and behind them
pub returns : goal.returns
returns c =
    let session = decimal c.from.result in
    let command = decimal c.from-2.result in
    let whole = sym (ap (λ (l : List ℕ). codes "audit no at " ++ l) (append_assoc session (46 ∷ command) (10 ∷ []))) in
    of_each c.joined.result _ _ (λ line e. e ∙ whole ∙ (λ i. line_of (codes "audit no at" ∷ (decimal (c.from.ensures i) ++ 46 ∷ decimal (c.from-2.ensures i)) ∷ []))) c.joined.ensures
