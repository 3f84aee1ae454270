use Rattle.std.proofs.Common.{◌+◌, ◌<◌, ◌^◌, Some, IfSome, sym, subst, arith}
use Rattle.lg_fewest.proofs.Whole.{first_by, first_few, first_over}
use Rattle.lg_fewest.proofs.sentence.begin_before.Goals as goal

pub returns-then-word-most-clause-lowers : goal.returns-then-word-most-clause-lowers
returns-then-word-most-clause-lowers c =
    let over = c.if-word-most.true in
    let word = c.word_of-word.ensures in
    first_over c.args.lists.now c.args.first (Some c.args.most) (omega arith)

pub least-requires-clause-span : goal.least-requires-clause-span
least-requires-clause-span c = c.requires.law.behind c.args.behind c.args.first c.requires.first c.requires.behind

pub least_with-requires : goal.least_with-requires
least_with-requires c =
    let less = c.if-word-most.false in
    let word = c.word_of-word.ensures in
    let few = c.keep_limits.ensures.few in
    subst (λ w. IfSome c.in_ok-right.right (λ y. w + y < 2 ^ 32)) (sym word)
    (first_few c.args.lists.now c.args.first c.args.most c.args.behind c.in_ok-right.right c.requires.law c.requires.first c.requires.behind (omega arith) (omega arith) c.requires.few c.in_ok-right.ensures.least)

pub returns-clause-lowers : goal.returns-clause-lowers
returns-clause-lowers c =
    first_by c.args.lists.now c.args.first c.args.behind c.in_ok-right.right c.word_of-word.result c.args.most c.least_with.result c.word_of-word.ensures c.requires.behind c.in_ok-right.ensures.least c.least_with.ensures
