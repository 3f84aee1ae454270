use Rattle.std.proofs.Common.{◌≡◌, true, sym, subst, ◌∙◌, rules}
use Rattle.lg_dict.specs.Dictionary.{AreCompoundsOf}
use Rattle.lg_token.specs.Words.{is_capitalized}
use Rattle.lg_idiom.proofs.Beginning.{begun_joined}
use Rattle.lg_idiom.proofs.fitting.begun.Goals as goal

pub returns : goal.returns
returns c =
    let initial : c.args.initial ≡ true = search rules in
    let capital : is_capitalized c.args.text.now ≡ true = search rules in
    let small = c.deref.ensures.value ∙ c.in_ok-lowered.ensures in
    let words = c.words.inside.items.items in
    let listed = subst (AreCompoundsOf c.args.view.now c.args.text.now) (sym c.words.view_is) c.in_ok-words.ensures in
    begun_joined c.args.view.now c.args.initial c.args.text.now c.deref.result.now words c.in_ok-compounds.field-0 c.joined.result initial capital small listed c.in_ok-compounds.ensures c.joined.ensures
