use Rattle.std.proofs.Common.{[], ◌∷◌, map, subst, sym, ◌∙◌}
use Rattle.std.proofs.lemmas.List.{map-append}
use Rattle.std.specs.List.Sorted.{IsStrictlySortedBy}
use Rattle.lg_disj.specs.Outlines.{all_in}
use Rattle.lg_answer.proofs.Lists.{zip_more}
use Rattle.lg_answer.specs.Steps.{AreMade, word_cmp}
use Rattle.lg_answer.proofs.expanded.in_outline.Goals as goal

pub outlines_of-requires : goal.outlines_of-requires
outlines_of-requires c =
    subst (IsStrictlySortedBy word_cmp) (sym (c.items.ensures ∙ c.words-item.is)) (c.requires c.loop-words.words-index c.words-item.result c.loop-words-test.true)

pub loop-words-preserved : goal.loop-words-preserved
loop-words-preserved c =
    let made = c.in_ok-outlines_of.field-0 in
    let here = subst (λ ws. AreMade ws (all_in made)) (c.items.ensures ∙ c.words-item.is) c.in_ok-outlines_of.ensures in
    rw c.in_ok-push.ensures.items (rw (map-append all_in c.loop-words.all.items (made ∷ [])) (zip_more AreMade c.args.positions.now (map all_in c.loop-words.all.items) c.loop-words.words-index
    c.words-item.result (all_in made) c.loop-words-test.true c.loop-words.invariant here))
