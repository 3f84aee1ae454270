use Rattle.std.proofs.Common.{◌∙◌, sym, eqb-true}
use Rattle.lg_gram.specs.Connectors.{name_eq}
use Rattle.lg_gram.proofs.Same.{kept_alike}
use Rattle.lg_gram.proofs.label.LabelPartialEq.eq.Goals as goal
use Rattle.lg_gram.proofs.label.LabelPartialEq.eq.Goals.{then-self-other, else-self-other}

pub returns-then-self-other-2 : goal.returns-then-self-other-2
returns-then-self-other-2 c =
    elim c.if-self-other.branch [
      | then-self-other w ↦ kept_alike c.self.inside c.other.inside c.self.invariant c.other.invariant (search w.if-self-other) (eqb-true _ _ (sym w.value-is ∙ c.if-self-other-2.true)) c.eq.result c.eq.ensures
          ∙ (λ i. name_eq (c.self.view_is i) (c.other.view_is i))
      | else-self-other w ↦ absurd (w.if-self-other.false (eqb-true _ _ (sym w.value-is ∙ c.if-self-other-2.true)))
    ]
