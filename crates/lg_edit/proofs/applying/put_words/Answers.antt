use Rattle.std.proofs.Common.{ap, ◌∙◌}
use Rattle.std.proofs.lemmas.Result.{IfOk-equal}
use Rattle.lg_gram.specs.Trees.{tree_of}
use Rattle.lg_dict.specs.Dictionary.{insert_all}
use Rattle.lg_edit.proofs.applying.put_words.Goals as goal

pub returns-clause-made : goal.returns-clause-made
returns-clause-made c =
    let is = ap tree_of c.in_ok-shared.ensures ∙ c.in_ok-formula.ensures in
    IfOk-equal c.put.result _ _ _ c.put.ensures.put (λ i. record c.args.view.now { words = insert_all (c.in_ok-words.ensures i) (is i) c.args.view.now.words })
