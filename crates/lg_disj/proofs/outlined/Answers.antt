use Rattle.std.proofs.Common.{◌≤◌, sym, subst, ◌∙◌, length}
use Rattle.std.specs.List.{All}
use Rattle.std.proofs.lemmas.Result.{IfOk-weaker}
use Rattle.lg_gram.specs.Disjuncts.{AreDisjuncts}
use Rattle.lg_gram.specs.Measures.{choice_count}
use Rattle.lg_gram.specs.Problems.{FitsProblem}
use Rattle.lg_gram.specs.Trees.{tree_of}
use Rattle.lg_disj.specs.Grown.{IsPlaced}
use Rattle.lg_disj.specs.Outlines.{disjuncts_in}
use Rattle.lg_disj.specs.Places.{listed}
use Rattle.lg_disj.proofs.Growing.{fresh_stand, stand_itself}
use Rattle.lg_disj.proofs.Expanded.{is_expanded, expanded, expanded_fit, expanded_few}
use Rattle.lg_disj.proofs.outlined.Goals as goal

pub cheapest-requires-clause-stand : goal.cheapest-requires-clause-stand
cheapest-requires-clause-stand c =
    stand_itself _ _ _ _ c.deref.ensures.value (fresh_stand _ _ _ _ c.new-all.ensures.exact c.in_ok-choices_of.ensures.exact)

pub returns-clause-disjuncts : goal.returns-clause-disjuncts
returns-clause-disjuncts c =
    let stand = fresh_stand _ _ _ _ c.new-all.ensures.exact c.in_ok-choices_of.ensures.exact in
    let whole = is_expanded _ _ _ _ _ c.args.formula.now c.deref.ensures.value c.expr.ensures.value stand c.in_ok-kept.ensures.rise c.in_ok-kept.ensures.exactly in
    IfOk-weaker c.outline_of.result _ (λ o. AreDisjuncts c.args.word.now (tree_of c.args.formula.now) (disjuncts_in o))
    (λ o is. expanded c.args.word.now _ _ _ _ c.args.formula.now c.deref-2.ensures.value whole (disjuncts_in o) is) c.outline_of.ensures

pub returns-clause-fits : goal.returns-clause-fits
returns-clause-fits c =
    let stand = fresh_stand _ _ _ _ c.new-all.ensures.exact c.in_ok-choices_of.ensures.exact in
    let whole = is_expanded _ _ _ _ _ c.args.formula.now c.deref.ensures.value c.expr.ensures.value stand c.in_ok-kept.ensures.rise c.in_ok-kept.ensures.exactly in
    IfOk-weaker c.outline_of.result _ (λ o. All FitsProblem (disjuncts_in o))
    (λ o is. expanded_fit c.args.word.now _ _ _ _ c.args.formula.now c.expr.ensures.limits c.deref-2.ensures.value whole (disjuncts_in o) is) c.outline_of.ensures

pub returns-clause-few : goal.returns-clause-few
returns-clause-few c =
    let stand = fresh_stand _ _ _ _ c.new-all.ensures.exact c.in_ok-choices_of.ensures.exact in
    let whole = is_expanded _ _ _ _ _ c.args.formula.now c.deref.ensures.value c.expr.ensures.value stand c.in_ok-kept.ensures.rise c.in_ok-kept.ensures.exactly in
    let t = tree_of c.args.formula.now in
    IfOk-weaker c.outline_of.result _ (λ o. length (disjuncts_in o) ≤ choice_count t)
    (λ o is. subst (λ n. length (disjuncts_in o) ≤ n) (c.choices_are_counted.ensures t)
    (expanded_few c.args.word.now _ _ _ _ c.args.formula.now c.in_ok-kept.ensures.few whole (disjuncts_in o) is)) c.outline_of.ensures

pub outline_of-requires-clause-placed : goal.outline_of-requires-clause-placed
outline_of-requires-clause-placed c =
    subst (λ leaves. All (IsPlaced leaves) (listed c.in_ok-kept.kept.choices)) (c.deref.ensures.value ∙ sym c.deref-2.ensures.value) c.in_ok-kept.ensures.placed
