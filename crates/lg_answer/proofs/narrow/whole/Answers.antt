use Rattle.std.proofs.Common.{All, refl, sym, subst}
use Rattle.std.specs.List.{AllZip}
use Rattle.lg_answer.specs.Steps.{AreApart, AreMade}
use Rattle.lg_answer.proofs.Few.{made_problem}
use Rattle.lg_answer.proofs.InUse.{all_apart, have_problem}
use Rattle.lg_answer.proofs.Made.{are_expanded}
use Rattle.lg_answer.proofs.narrow.whole.Goals as goal

-- no two formulas of a position share a disjunct
pub expanded-requires : goal.expanded-requires
expanded-requires c =
    subst (All AreApart) (sym c.items.ensures)
    (all_apart c.expressions_have_disjuncts.ensures c.args.view.now c.args.tokens.now c.requires.listed c.args.idioms c.in_ok-words.words c.in_ok-words.ensures)

pub of_known-requires : goal.of_known-requires
of_known-requires c =
    let words = c.in_ok-words.words in
    let positions = c.in_ok-positions.positions in
    let made = subst (λ ws. AllZip AreMade ws positions) c.items.ensures c.in_ok-positions.ensures in
    made_problem c.choices_are_counted.ensures c.added_are_few.ensures c.args.idioms c.args.view.now c.args.tokens.now words words positions c.requires.listed c.in_ok-words.ensures
    refl (λ i d of. of) made

pub returns : goal.returns
returns c =
    let words = c.in_ok-words.words in
    let positions = c.in_ok-positions.positions in
    let made = subst (λ ws. AllZip AreMade ws positions) c.items.ensures c.in_ok-positions.ensures in
    rw c.of_known.ensures (have_problem c.expressions_have_disjuncts.ensures c.args.view.now c.args.tokens.now c.requires.listed c.args.idioms words c.in_ok-words.ensures positions
    (are_expanded words positions made))
