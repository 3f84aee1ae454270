use Rattle.std.proofs.Common.{ap, ◌∙◌, rules}
use Rattle.std.proofs.lemmas.Iterator.Consumers.{YieldsList-end}
use Rattle.std.proofs.lemmas.Iterator.Splits.{YieldsList-from_slice_split}
use Rattle.std.specs.List.{slice_split}
use Rattle.lg_dict.specs.Compounds.{is_underscore}
use Rattle.lg_dict.proofs.compound.parts.Goals as goal

-- all pieces were yielded
pub returns : goal.returns
returns c =
    let end = YieldsList-end
    (YieldsList-from_slice_split _ is_underscore {f = c.split-part-items.result.pred} c.stem.result.now (ap (λ s. s.rest.now) c.into_iter-part-iterator.ensures.into_iter_gives ∙ c.split-part-items.ensures.rest)
    (ap (λ s. s.done) c.into_iter-part-iterator.ensures.into_iter_gives ∙ c.split-part-items.ensures.done) (ap (λ s. s.pred) c.into_iter-part-iterator.ensures.into_iter_gives) (λ x b q k. search rules))
    c.loop-part.yielded _ c.loop-part.yielded_by _ _ c.in-None.is c.next.ensures.steps in
    c.of-2.ensures ∙ c.loop-part.invariant ∙ end.0 ∙ ap (slice_split is_underscore) c.stem.ensures
