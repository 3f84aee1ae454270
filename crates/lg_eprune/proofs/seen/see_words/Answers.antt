use Rattle.std.proofs.Common.{rules, ◌≡◌, ◌∷◌, ◌++◌, ◌+◌, drop, sym, ap, subst, ◌∙◌}
use Rattle.std.proofs.lemmas.List.{drop_more, drop_all}
use Rattle.lg_gram.specs.Trees.{tree_of}
use Rattle.lg_eprune.specs.Cuts.{leaves, word_leaves, Lists}
use Rattle.lg_eprune.proofs.Listed.{lists_none, lists_more}
use Rattle.lg_eprune.proofs.seen.see_words.Goals as goal

pub loop-word-preserved : goal.loop-word-preserved
loop-word-preserved c = λ last h.
    let at = c.loop-word in
    let right = c.args.right in
    let all = c.args.words.now in
    let left = drop (at.word-index + 1) all in
    let word = c.word-item.result in
    let same : leaves right (tree_of c.expr.result.now) ≡ leaves right word.tree = search rules in
    let more : word_leaves right (drop at.word-index all) ≡ leaves right word.tree ++ word_leaves right left =
    ap (word_leaves right) (drop_more all at.word-index word c.loop-word-test.true) ∙ ap (λ w. word_leaves right (w ∷ left)) (sym c.word-item.is) in
    at.invariant last
    (subst (λ cs. Lists at.seen cs last) (ap (λ cs. cs ++ word_leaves right left) same ∙ sym more)
    (lists_more at.seen c.see_leaves.new.seen last (leaves right (tree_of c.expr.result.now)) (word_leaves right left) c.in_ok-see_leaves.ensures h))

pub returns : goal.returns
returns c =
    let at = c.loop-word in
    at.invariant at.seen (subst (λ ws. Lists at.seen (word_leaves c.args.right ws) at.seen) (sym (drop_all at.word-index c.args.words.now c.loop-word-test.false)) (lists_none at.seen))
