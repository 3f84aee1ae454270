use Rattle.std.proofs.Common.{◌≡◌, ◌↔◌, ◌++◌, IsSome, Contains, map, ap, sym, subst, ◌∙◌}
use Rattle.std.specs.FinMap.{get}
use Rattle.lg_dict.specs.Tables.{text_keys}
use Rattle.lg_dict.proofs.Viewed.{macros_known}
use Rattle.lg_dict.proofs.Words.{keys_result}
use Rattle.lg_dict.proofs.view.View.macros.Goals as goal

-- the names below, and those among the changes
pub returns : goal.returns
returns c =
    let seen = c.args.self.now in
    let changes = c.self.inside.changes in
    let below = text_keys c.macros.result.now in
    let found = map (λ key. key.now) c.add_keys-2.new.found.items in
    let all : found ≡ below ++ text_keys changes.macros =
    c.in_ok-add_keys-2.ensures ∙ ap (λ l. l ++ text_keys changes.macros) (c.in_ok-add_keys.ensures ∙ ap (λ l. map (λ key. key.now) l ++ below) c.new-found.ensures.items) in
    keys_result c.sorted_texts.result seen.macros found
    (λ name. subst (λ l. Contains l name ↔ IsSome (get seen.macros name)) (sym all) (macros_known c.self.inside.base.now seen changes c.self.invariant.laid c.self.view_is below c.macros.ensures name))
    c.sorted_texts.ensures.rise c.sorted_texts.ensures.same
