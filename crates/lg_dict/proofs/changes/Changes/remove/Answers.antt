use Rattle.std.proofs.Common.{None, ap, refl, ◌∙◌}
use Rattle.std.specs.FinMap.{remove}
use Rattle.lg_dict.specs.Dictionary.{Dictionary}
use Rattle.lg_dict.specs.declared.changes.Change.TheVariants.{Removed}
use Rattle.lg_dict.specs.declared.changes.Changes.{Changes}
use Rattle.lg_dict.proofs.Admitted.{on_err}
use Rattle.lg_dict.proofs.Changed.{same_dictionary, word_set}
use Rattle.lg_dict.proofs.changes.Changes.remove.Goals as goal

pub returns-in_err-admit-clause-unchanged : goal.returns-in_err-admit-clause-unchanged
returns-in_err-admit-clause-unchanged c = on_err c.from_residual.result (λ dict. same_dictionary dict c.args.self.now c.admit.new.self c.admit.ensures.same)

pub returns-clause-removed : goal.returns-clause-removed
returns-clause-removed c = λ dict.
    let mid = c.admit.new.self in
    let new : Changes = record mid { words = c.set_change.new.words } in
    word_set mid new refl c.args.word.now Removed c.set_change.ensures None (λ words text. refl) dict
    ∙ ap (λ (d : Dictionary). record d { words = remove d.words c.args.word.now }) (same_dictionary dict c.args.self.now mid c.admit.ensures.same)
