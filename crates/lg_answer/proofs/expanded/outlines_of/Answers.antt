use Rattle.std.proofs.Common.{subst, arith}
use Rattle.std.proofs.lemmas.List.{take_all}
use Rattle.lg_disj.specs.Outlines.{all_in, disjuncts_in}
use Rattle.lg_answer.specs.Steps.{AreListedOf}
use Rattle.lg_answer.proofs.Made.{all_in_more, made_rising, none_yet, one_more}
use Rattle.lg_answer.proofs.expanded.outlines_of.Goals as goal

pub loop-word-init : goal.loop-word-init
loop-word-init c = rw c.in_ok-outlines.ensures.items (none_yet c.args.words.now)

pub loop-word-preserved : goal.loop-word-preserved
loop-word-preserved c =
    let at = c.loop-word in
    let outline = c.in_ok-outline_of_word.field-0 in
    rw c.in_ok-push.ensures.items (rw (all_in_more at.outlines.items outline) (one_more c.args.words.now at.word-index c.word-item.result (all_in at.outlines.items) (disjuncts_in outline)
    c.loop-word-test.true c.word-item.is c.in_ok-outline_of_word.ensures.are c.in_ok-outline_of_word.ensures.fit at.invariant))

pub returns : goal.returns
returns c =
    let words = c.args.words.now in
    let at = c.loop-word in
    let listed = subst (λ ws. AreListedOf ws (all_in at.outlines.items)) (take_all at.word-index words (omega (arith, c.loop-word-test.false))) at.invariant.listed in
    rw c.of.ensures (made_rising words (all_in at.outlines.items) (at.invariant.rise c.requires) listed)
