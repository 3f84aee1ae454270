use Rattle.std.proofs.Common.{ap, ◌∙◌}
use Rattle.lg_gram.specs.Trees.{tree_of}
use Rattle.lg_dict.specs.Dictionary.{Dictionary, insert_all}
use Rattle.lg_dict.proofs.Admitted.{on_err}
use Rattle.lg_dict.proofs.Changed.{same_dictionary, words_given, laid_given}
use Rattle.lg_dict.proofs.changes.Changes.put_all.Goals as goal

pub returns-in_err-admit_all-clause-unchanged : goal.returns-in_err-admit_all-clause-unchanged
returns-in_err-admit_all-clause-unchanged c = on_err c.from_residual-in_err-admit_all.result (λ dict. same_dictionary dict c.args.self.now c.admit_all.new.self c.admit_all.ensures.same)

pub returns-clause-laid : goal.returns-clause-laid
returns-clause-laid c =
    laid_given c.admit_all.new.self c.set_all.new.self c.admit_all.ensures.laid c.set_all.ensures.macros c.set_all.ensures.stems c.set_all.ensures.firsts c.set_all.ensures.lengths c.set_all.ensures.names

-- the words have the copies
pub returns-clause-put : goal.returns-clause-put
returns-clause-put c = λ dict.
    let mid = c.admit_all.new.self in
    let words = c.args.words.now in
    let tree = tree_of c.args.formula in
    words_given mid c.set_all.new.self c.in_ok-copies.copies.items tree words c.in_ok-copies.ensures.same c.set_all.ensures.words c.set_all.ensures.macros dict
    ∙ ap (λ (d : Dictionary). record d { words = insert_all words tree d.words }) (same_dictionary dict c.args.self.now mid c.admit_all.ensures.same)
