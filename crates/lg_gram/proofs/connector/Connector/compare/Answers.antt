use Rattle.std.proofs.Common.{◌∙◌}
use Rattle.std.specs.Ordering.{nat_cmp}
use Rattle.std.specs.Cmp.Lexicographic.{slice_cmp}
use Rattle.lg_gram.specs.Connectors.{connector_cmp}
use Rattle.lg_gram.proofs.Names.{multi_first, multi_last, letters_decide, same_from_beq, other_false, other_true}
use Rattle.lg_gram.specs.contracts.connector.Connector.{the_view}
use Rattle.lg_gram.proofs.connector.Connector.compare.Goals as goal

pub returns-then-self-other : goal.returns-then-self-other
returns-then-self-other c =
    c.cmp.ensures ∙ (λ i. slice_cmp nat_cmp (c.letters-own.ensures.value i) (c.letters-others.ensures.value i))
    ∙ letters_decide (the_view c.self.inside) (the_view c.other.inside) (same_from_beq _ _ c.if-self-other.true)
    ∙ (λ i. connector_cmp (c.self.view_is i) (c.other.view_is i))

pub returns-then-self : goal.returns-then-self
returns-then-self c =
    multi_first (the_view c.self.inside) (the_view c.other.inside) c.if-self.true (other_false _ _ c.if-self-other.false c.if-self.true) c.letters-others.ensures.named
    ∙ (λ i. connector_cmp (c.self.view_is i) (c.other.view_is i))

pub returns-else-self : goal.returns-else-self
returns-else-self c =
    multi_last (the_view c.self.inside) (the_view c.other.inside) c.if-self.false (other_true _ _ c.if-self-other.false c.if-self.false) c.letters-own.ensures.named
    ∙ (λ i. connector_cmp (c.self.view_is i) (c.other.view_is i))
