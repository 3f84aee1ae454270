-- What the line shows, as the program holds it, is read off its fields.
use Rattle.std.proofs.Common.{sym, ◌∙◌, subst, true≢false, MatchOption}
use Rattle.std.specs.Result.{IfOk}
use Rattle.lg_gram.specs.Trees.{tree_of}
use Rattle.lg_gram.specs.declared.disjunct.Disjunct.{Disjunct}
use Rattle.lg_audit.specs.Lines.{ShownChoice}
use Rattle.lg_audit.specs.Pages.{IsShownAs, IsFoundAs}
use Rattle.lg_audit.proofs.ShownChoices.{no_word, no_formula, not_printed, printed}
use Rattle.lg_audit.proofs.Weaker.{other_words}
use Rattle.lg_audit.proofs.linkages.choice.choice_of.Goals as goal

pub returns-then-not-has_word : goal.returns-then-not-has_word
returns-then-not-has_word c =
    subst (λ (s : ShownChoice). (d : Disjunct) → IsShownAs c.args.view.now c.args.words.now s d → ⊥) c.shown.view_is
    (no_word c.args.view.now c.args.words.now _ (λ has. true≢false (sym (c.has_word.ensures.1 has) ∙ c.if-not-has_word.true)))

pub returns-in-Some : goal.returns-in-Some
returns-in-Some c =
    let dict = c.args.view.now in
    let words = c.args.words.now in
    let seen : ShownChoice = record { word = c.shown.inside.word.now; left = c.shown.inside.left.now; right = c.shown.inside.right.now; cost = c.shown.inside.cost } in
    subst (λ (s : ShownChoice). IfOk c.printed_by.result (λ r. MatchOption r ((d : Disjunct) → IsShownAs dict words s d → ⊥) (IsFoundAs dict words s))) c.shown.view_is
    (other_words (not_printed dict words seen (tree_of c.in-Some.formula.now) (sym c.in-Some.ensures))
    (printed dict words seen (tree_of c.in-Some.formula.now) (sym c.in-Some.ensures) (c.has_word.ensures.0 c.if-not-has_word.false))
    c.printed_by.result c.printed_by.ensures)

pub returns-in-None : goal.returns-in-None
returns-in-None c =
    subst (λ (s : ShownChoice). (d : Disjunct) → IsShownAs c.args.view.now c.args.words.now s d → ⊥) c.shown.view_is
    (no_formula c.args.view.now c.args.words.now _ (sym c.in-None.ensures))
