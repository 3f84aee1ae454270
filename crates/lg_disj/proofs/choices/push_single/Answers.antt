use Rattle.std.proofs.Common.{◌++◌, ◌∷◌, [], ◌∙◌, ap, sym}
use Rattle.std.proofs.lemmas.Result.{on_ok_weaker}
use Rattle.lg_disj.specs.Places.{listed}
use Rattle.lg_disj.proofs.Leaf.{left_at, right_at, lists_right, lists_left}
use Rattle.lg_disj.proofs.choices.push_single.Goals as goal

pub returns-then-is_right-clause-exact : goal.returns-then-is_right-clause-exact
returns-then-is_right-clause-exact c =
    let old = listed c.args.all.now in
    let n = c.in_ok-place.place in
    let there = c.in_ok-place.ensures.there in
    let side = sym c.is_right.ensures ∙ c.if-is_right.true in
    on_ok_weaker c.push.result
    (λ is. lists_right c.leaf_of.new.leaves.items old (listed c.push.new.self) c.args.connector.now n there c.caps-capitals.ensures.named side
    (is ∙ ap (λ x. old ++ right_at n x ∷ []) c.of.ensures)) c.push.ensures.exact

pub returns-else-is_right-clause-exact : goal.returns-else-is_right-clause-exact
returns-else-is_right-clause-exact c =
    let old = listed c.args.all.now in
    let n = c.in_ok-place.place in
    let there = c.in_ok-place.ensures.there in
    let side = sym c.is_right.ensures ∙ c.if-is_right.false in
    on_ok_weaker c.push-else-is_right.result
    (λ is. lists_left c.leaf_of.new.leaves.items old (listed c.push-else-is_right.new.self) c.args.connector.now n there c.caps-capitals.ensures.named side
    (is ∙ ap (λ x. old ++ left_at n x ∷ []) c.of-else-is_right.ensures)) c.push-else-is_right.ensures.exact
