use Rattle.std.proofs.Common.{◌==◌, inl, inr, refl, true≢false, ap, sym, ◌∙◌, subst}
use Rattle.std.specs.Ordering.{ordering_index}
use Rattle.lg_rank.specs.Fronts.{AtMost}
use Rattle.lg_rank.specs.Values.{value_cmp, value_of}
use Rattle.lg_rank.proofs.Choosing.{not_less}
use Rattle.lg_rank.proofs.Reading.{held_is}
use Rattle.lg_rank.proofs.node.lesser.Goals as goal

pub returns : goal.returns
returns c = record {
  either = inl refl;
  first = inr refl;
  other = λ v e.
      let made = c.in_ok-part.ensures ∙ (held_is (value_of c.args.nothing.now) c.args.nodes.now c.args.k c.args.row v e).1 in
      subst (λ x. AtMost value_cmp (value_of c.args.least.part) x) made
      (not_less (c.requires.forest.laws c.args.k).total (value_of c.in_ok-part.part) (value_of c.args.least.part)
      (λ less. true≢false (sym (c.if-eq.ensures ∙ ap (λ o. ordering_index o == 0) (c.compare.ensures ∙ less)))));
}
