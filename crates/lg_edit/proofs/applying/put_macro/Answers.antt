use Rattle.std.proofs.Common.{sym, subst}
use Rattle.std.proofs.lemmas.Result.{IfOk-equal}
use Rattle.lg_gram.specs.Formulas.{LevelFits}
use Rattle.lg_dict.specs.Dictionary.{insert_all}
use Rattle.lg_edit.specs.Edits.{formula_in}
use Rattle.lg_edit.proofs.Accepted.{level_counted, accepted_fits}
use Rattle.lg_gram.specs.EntryViews.{entry_view}
use Rattle.lg_edit.proofs.applying.put_macro.Goals as goal

-- the level that is counted is the formula's
pub put_named-requires : goal.put_named-requires
put_named-requires c =
    let dict = c.args.view.now in
    let entry = entry_view c.args.entry.now in
    let level = level_counted dict entry c.requires.bounds c.macros_fit.ensures c.filled_level-level.result c.filled_level-level.ensures in
    subst (λ t. LevelFits c.filled_level-level.result t) (sym c.in_ok-formula.ensures)
    (subst (λ n. LevelFits n (formula_in dict entry)) (sym level) (accepted_fits dict entry c.requires.bounds c.macros_fit.ensures c.requires.accepted).level_fits)

pub returns-clause-made : goal.returns-clause-made
returns-clause-made c =
    let level = level_counted c.args.view.now (entry_view c.args.entry.now) c.requires.bounds c.macros_fit.ensures c.filled_level-level.result c.filled_level-level.ensures in
    IfOk-equal c.put_named.result _ _ _ c.put_named.ensures.put
    (λ i. record c.args.view.now { macros = insert_all (c.in_ok-name.ensures i) (c.in_ok-formula.ensures i, level i) c.args.view.now.macros })
