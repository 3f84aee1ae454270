use Rattle.std.proofs.Common.{◌≡◌, ◌+◌, Some, slice_get, ap, sym, subst, ◌∙◌}
use Rattle.std.proofs.lemmas.Option.{slice_get-get_or}
use Rattle.lg_idiom.specs.Idioms.{AreFitting}
use Rattle.lg_idiom.proofs.Following.{is_wall-yes, wall-not}
use Rattle.lg_idiom.proofs.Compounds.{none_fit, fitting_result, left_from}
use Rattle.lg_idiom.proofs.fitting.fitting.Goals as goal

pub returns-then-is_wall : goal.returns-then-is_wall
returns-then-is_wall c =
    let tokens = c.args.tokens.now in
    let at : slice_get tokens c.args.start ≡ Some c.index-tokens-start.result = slice_get-get_or tokens c.args.start _ c.requires ∙ ap Some (sym c.index-tokens-start.is) in
    let wall = is_wall-yes c.index-tokens-start.result (sym c.is_wall.ensures ∙ c.if-is_wall.true) in
    subst (AreFitting c.args.view.now tokens c.args.start) (sym (c.of.ensures ∙ c.new.ensures.items)) (none_fit c.args.view.now tokens c.args.start c.index-tokens-start.result at wall)

pub returns : goal.returns
returns c =
    let tokens = c.args.tokens.now in
    let at : slice_get tokens c.args.start ≡ Some c.index-tokens-start.result = slice_get-get_or tokens c.args.start _ c.requires ∙ ap Some (sym c.index-tokens-start.is) in
    let no_wall = wall-not c.index-tokens-start.result (sym c.is_wall.ensures ∙ c.if-is_wall.false) in
    fitting_result c.args.view.now tokens c.args.start c.index-tokens-start.result at no_wall c.going_on.result c.in_ok-words.words _ c.is_initial.result c.bytes.result.now
    c.going_on.ensures (left_from tokens (c.args.start + 1)) c.is_initial.ensures c.bytes.ensures c.in_ok-words.ensures
