use Rattle.std.proofs.Common.{◌≡◌, [], ◌∷◌, ◌++◌, None, Some, sym, ap, ◌∙◌, append-nil}
use Rattle.std.specs.FinMap.{get}
use Rattle.lg_gram.specs.Trees.{tree_of}
use Rattle.lg_eprune.specs.Live.{WordTree}
use Rattle.lg_answer.proofs.Words.{trees_absent, trees_found}
use Rattle.lg_answer.proofs.exprs.add_expr.Goals as goal

pub returns-in_ok-push-in-Some : goal.returns-in_ok-push-in-Some
returns-in_ok-push-in-Some c =
    let formula = c.in-Some.formula.now in
    let expr : WordTree = record { word = c.args.word.now; tree = tree_of formula } in
    let got : get c.args.view.now.words c.args.word.now ≡ Some (tree_of formula) = ap (get c.args.view.now.words) (sym c.bytes.ensures) ∙ sym c.in-Some.ensures in
    record {
      more = expr ∷ [];
      grown = c.in_ok-push-in-Some.ensures.items ∙ ap (λ (e : WordTree). c.args.all.now.items ++ e ∷ []) c.in_ok-expr-in-Some.ensures;
      found = trees_found c.args.view.now c.args.word.now (tree_of formula) got c.see_names.ensures;
    }

pub returns-in-None : goal.returns-in-None
returns-in-None c =
    let none : get c.args.view.now.words c.args.word.now ≡ None = ap (get c.args.view.now.words) (sym c.bytes.ensures) ∙ sym c.in-None.ensures in
    record { more = []; grown = sym (append-nil c.args.all.now.items); found = trees_absent c.args.view.now c.args.word.now none }
