use Rattle.std.proofs.Common.{Some, ap, sym, subst, ◌∙◌}
use Rattle.std.specs.Option.{option_map}
use Rattle.std.specs.FinMap.{get}
use Rattle.indexmap.specs.IndexMap.{values}
use Rattle.lg_gram.specs.Trees.{tree_of}
use Rattle.lg_dict.specs.Tables.{macro_at, IsMacro}
use Rattle.lg_gram.specs.Formulas.{LevelFits}
use Rattle.lg_dict.specs.Dictionary.{Dictionary}
use Rattle.lg_dict.proofs.Lookups.{get-shown, among_all, tree_at-get_or}
use Rattle.lg_dict.proofs.dict.Dict.named.Goals as goal

pub returns-in_err-found-clause-found : goal.returns-in_err-found-clause-found
returns-in_err-found-clause-found c =
    ap (option_map (λ found. (tree_of found.0.now, found.1))) c.from_residual.ensures
    ∙ ap (option_map (macro_at c.self.inside.formulas.items)) c.in_err-found.ensures.value
    ∙ sym (get-shown (macro_at c.self.inside.formulas.items) c.self.inside.macros c.args.name.now)
    ∙ ap (λ (d : Dictionary). get d.macros c.args.name.now) c.self.view_is

pub returns-clause-found : goal.returns-clause-found
returns-clause-found c =
    let formulas = c.self.inside.formulas.items in
    let found = c.in_ok-found.field-0.now in
    let kept : IsMacro formulas found = among_all (IsMacro formulas) (values c.self.inside.macros) found c.self.invariant.macros c.in_ok-found.ensures.member in
    ap (λ t. Some (t, found.level)) (sym (tree_at-get_or formulas found.formula c.index.result.now kept.within c.index.ensures))
    ∙ ap (option_map (macro_at formulas)) c.in_ok-found.ensures.value
    ∙ sym (get-shown (macro_at formulas) c.self.inside.macros c.args.name.now)
    ∙ ap (λ (d : Dictionary). get d.macros c.args.name.now) c.self.view_is

pub returns-clause-level : goal.returns-clause-level
returns-clause-level c =
    let formulas = c.self.inside.formulas.items in
    let found = c.in_ok-found.field-0.now in
    let kept : IsMacro formulas found = among_all (IsMacro formulas) (values c.self.inside.macros) found c.self.invariant.macros c.in_ok-found.ensures.member in
    subst (LevelFits found.level) (tree_at-get_or formulas found.formula c.index.result.now kept.within c.index.ensures) kept.fits.level_fits
