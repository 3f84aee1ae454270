use Rattle.std.proofs.Common.{◌≡◌, true, true≢false, sym, ◌∙◌, rules}
use Rattle.lg_token.specs.Words.{is_capitalized}
use Rattle.lg_token.proofs.WordLists.{known_lowered}
use Rattle.lg_token.proofs.words.is_known.Goals as goal

pub returns : goal.returns
returns c =
    let initial : c.args.initial ≡ true = search rules in
    let capital : is_capitalized c.args.text.now ≡ true = search rules in
    known_lowered c.args.view.now c.args.initial c.args.text.now c.deref.result.now c.has-2.result (λ h. true≢false (sym (c.if-has.ensures.1 h))) initial capital
    (c.deref.ensures.value ∙ c.in_ok-lowered.ensures) c.has-2.ensures
