use Rattle.std.proofs.Common.{rules, IfSome, ◌≡◌, ◌∙◌, ◌∷◌, ◌++◌, ap, sym, subst, length, arith}
use Rattle.std.specs.Vec.Iter.{into_iter_items}
use Rattle.lg_reach.proofs.Copying.{rest_next, rest_none}
use Rattle.lg_reach.proofs.formulas.formulas_left.Goals as goal

pub loop-parts-init : goal.loop-parts-init
loop-parts-init c = record {
  counted = search rules;
  told = ap (λ xs. xs ++ into_iter_items c.into_iter-parts-iterator.result) c.in_ok-all.ensures.items ∙ c.into_iter-parts-iterator.ensures.into_iter_gives.0;
}

pub loop-parts-preserved : goal.loop-parts-preserved
loop-parts-preserved c =
    let at = c.loop-parts in
    let rest = into_iter_items c.next.new.self in
    let steps : into_iter_items at.parts-iterator ≡ c.in-Some.parts ∷ rest = c.in-Some.ensures.steps.0 in
    let short = ap length steps in
    let gone = c.in-Some.ensures.steps.1 in
    record {
      counted = omega (arith, at.invariant.counted);
      told = ap (λ xs. xs ++ rest) c.in_ok-push.ensures.items
          ∙ rest_next at.all.items rest c.args.left.items c.in-Some.parts _ (subst (λ o. IfSome o (λ ws. ws ≡ c.in-Some.parts)) c.in-Some-2.is c.in_ok-words.ensures) (ap (λ xs. at.all.items ++ xs) (sym steps) ∙ at.invariant.told);
    }

pub returns : goal.returns
returns c =
    let at = c.loop-parts in
    c.of.ensures ∙ rest_none at.all.items (into_iter_items at.parts-iterator) c.args.left.items (sym at.invariant.counted ∙ c.in-None.ensures.steps.0) at.invariant.told
