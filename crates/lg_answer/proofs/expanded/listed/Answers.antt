use Rattle.std.proofs.Common.{All, subst, sym}
use Rattle.lg_gram.specs.Disjuncts.{AreDisjuncts}
use Rattle.lg_gram.specs.Problems.{FitsProblem}
use Rattle.lg_answer.proofs.Made.{none_yet, one_more}
use Rattle.lg_answer.proofs.expanded.listed.Goals as goal

pub loop-word-init : goal.loop-word-init
loop-word-init c = rw c.new-all.ensures.items (none_yet c.args.words.now)

pub loop-word-preserved : goal.loop-word-preserved
loop-word-preserved c =
    let at = c.loop-word in
    let word = c.word-item.result in
    let same = c.into_items-more.ensures in
    let are = subst (AreDisjuncts word.word word.tree) (sym same) c.in_ok-disjuncts_of_word.ensures.are in
    let fit = subst (All FitsProblem) (sym same) c.in_ok-disjuncts_of_word.ensures.fit in
    rw c.in_ok-append.ensures.items
    (one_more c.args.words.now at.word-index word at.all.items c.into_items-more.result.items c.loop-word-test.true c.word-item.is are fit at.invariant)
