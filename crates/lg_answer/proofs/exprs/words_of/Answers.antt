use Rattle.lg_answer.proofs.Words.{trees_none, trees_step}
use Rattle.lg_answer.proofs.exprs.words_of.Goals as goal

pub loop-word-init : goal.loop-word-init
loop-word-init c = rw c.new-all.ensures.items (trees_none c.args.view.now)

pub loop-word-preserved : goal.loop-word-preserved
loop-word-preserved c =
    trees_step c.args.view.now c.args.words.now c.loop-word.word-index c.word-item.result c.loop-word.all.items c.add_expr.new.all.items
    c.loop-word-test.true c.word-item.is c.loop-word.invariant c.in_ok-add_expr.ensures
