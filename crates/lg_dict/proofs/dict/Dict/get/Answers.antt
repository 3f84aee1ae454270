use Rattle.std.proofs.Common.{◌<◌, length, Some, ap, sym, ◌∙◌}
use Rattle.std.specs.Option.{option_map}
use Rattle.std.specs.FinMap.{get}
use Rattle.indexmap.specs.IndexMap.{values}
use Rattle.lg_gram.specs.Trees.{tree_of}
use Rattle.lg_dict.specs.Tables.{tree_at}
use Rattle.lg_dict.specs.Dictionary.{Dictionary}
use Rattle.lg_dict.proofs.Lookups.{get-shown, among_all, tree_at-get_or}
use Rattle.lg_dict.proofs.Longest.{longest_seen, is_missing}
use Rattle.lg_dict.proofs.dict.Dict.get.Goals as goal

pub returns-then-word-self : goal.returns-then-word-self
returns-then-word-self c = is_missing c.args.self.now c.self.inside.longest (longest_seen c.self.inside c.args.self.now c.self.view_is c.self.invariant).bounds c.args.word.now c.if-word-self.true

pub returns-in_err-number : goal.returns-in_err-number
returns-in_err-number c =
    ap (option_map (λ formula. tree_of formula.now)) c.from_residual.ensures
    ∙ ap (option_map (tree_at c.self.inside.formulas.items)) c.in_err-number.ensures.value
    ∙ sym (get-shown (tree_at c.self.inside.formulas.items) c.self.inside.words c.args.word.now)
    ∙ ap (λ (d : Dictionary). get d.words c.args.word.now) c.self.view_is

pub returns : goal.returns
returns c =
    let formulas = c.self.inside.formulas.items in
    let number = c.in_ok-number.field-0.now in
    let within : number < length formulas = among_all (λ n. n < length formulas) (values c.self.inside.words) number c.self.invariant.words c.in_ok-number.ensures.member in
    ap Some (sym (tree_at-get_or formulas number c.index.result.now within c.index.ensures))
    ∙ ap (option_map (tree_at formulas)) c.in_ok-number.ensures.value
    ∙ sym (get-shown (tree_at formulas) c.self.inside.words c.args.word.now)
    ∙ ap (λ (d : Dictionary). get d.words c.args.word.now) c.self.view_is
