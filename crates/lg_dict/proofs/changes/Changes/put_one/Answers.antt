use Rattle.std.proofs.Common.{Some, ap, refl, ◌∙◌}
use Rattle.std.specs.FinMap.{insert}
use Rattle.lg_gram.specs.Trees.{tree_of}
use Rattle.lg_dict.specs.Dictionary.{Dictionary}
use Rattle.lg_dict.specs.declared.changes.Change.TheVariants.{Given}
use Rattle.lg_dict.specs.declared.changes.Changes.{Changes}
use Rattle.lg_dict.proofs.Admitted.{on_err}
use Rattle.lg_dict.proofs.Changed.{same_dictionary, word_set}
use Rattle.lg_dict.proofs.changes.Changes.put_one.Goals as goal

pub returns-in_err-admit-clause-unchanged : goal.returns-in_err-admit-clause-unchanged
returns-in_err-admit-clause-unchanged c = on_err c.from_residual.result (λ dict. same_dictionary dict c.args.self.now c.admit.new.self c.admit.ensures.same)

pub returns-clause-put : goal.returns-clause-put
returns-clause-put c = λ dict.
    let mid = c.admit.new.self in
    let new : Changes = record mid { words = c.set_change.new.words } in
    let tree = tree_of c.args.formula in
    word_set mid new refl c.args.word.now (Given c.args.formula) c.set_change.ensures (Some tree) (λ words text. refl) dict
    ∙ ap (λ (d : Dictionary). record d { words = insert d.words c.args.word.now tree }) (same_dictionary dict c.args.self.now mid c.admit.ensures.same)
