use Rattle.std.proofs.Common.{rules, ◌≡◌, ◌∙◌, ◌∷◌, ◌++◌, ap, sym, length, arith}
use Rattle.std.specs.Vec.Iter.{into_iter_items}
use Rattle.lg_gram.specs.Trees.{tree_of}
use Rattle.lg_reach.proofs.Copying.{rest_next, rest_none}
use Rattle.lg_reach.proofs.formulas.words_left.Goals as goal

pub loop-part-init : goal.loop-part-init
loop-part-init c = record {
  counted = search rules;
  told = ap (λ xs. xs ++ into_iter_items c.into_iter-part-iterator.result) c.in_ok-words.ensures.items ∙ c.into_iter-part-iterator.ensures.into_iter_gives.0 ∙ c.into_items-part-items.ensures;
}

pub loop-part-preserved : goal.loop-part-preserved
loop-part-preserved c =
    let at = c.loop-part in
    let rest = into_iter_items c.next.new.self in
    let steps : into_iter_items at.part-iterator ≡ c.in-Some.part ∷ rest = c.in-Some.ensures.steps.0 in
    let short = ap length steps in
    let gone = c.in-Some.ensures.steps.1 in
    record {
      counted = omega (arith, at.invariant.counted);
      told = ap (λ xs. xs ++ rest) c.in_ok-push.ensures.items
          ∙ rest_next at.words.items rest c.args.parts c.in-Some.part _ ((λ i. record { word = (c.in_ok-word.ensures ∙ c.bytes.ensures) i; tree = tree_of (c.in-Some-of.ensures.0 i) }) ∙ c.part.view_is) (ap (λ xs. at.words.items ++ xs) (sym steps) ∙ at.invariant.told);
    }

pub returns : goal.returns
returns c =
    let at = c.loop-part in
    c.of-2.ensures ∙ rest_none at.words.items (into_iter_items at.part-iterator) c.args.parts (sym at.invariant.counted ∙ c.in-None.ensures.steps.0) at.invariant.told
