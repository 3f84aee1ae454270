use Rattle.std.proofs.Common.{◌+◌, drop, sym, ap, subst}
use Rattle.std.proofs.lemmas.List.{drop_all}
use Rattle.lg_gram.specs.Trees.{tree_of, trees_in}
use Rattle.lg_eprune.specs.Cuts.{leaves, leaves_in, Lists}
use Rattle.lg_eprune.proofs.Listed.{lists_none, lists_more}
use Rattle.lg_eprune.proofs.Members.{next}
use Rattle.lg_eprune.proofs.seen.+leaves.Goals as goal

pub see_leaves_in-loop-member-init : goal.see_leaves_in-loop-member-init
see_leaves_in-loop-member-init t c = λ last h. subst (λ es. Lists c.args.seen.now (leaves_in c.args.right (trees_in es)) last) c.items-member-items.ensures h

pub see_leaves_in-loop-member-preserved : goal.see_leaves_in-loop-member-preserved
see_leaves_in-loop-member-preserved t c = λ last h.
    let at = c.loop-member in
    let right = c.args.right in
    let es = c.items-member-items.result.now in
    at.invariant last
    (subst (λ ts. Lists at.seen (leaves_in right ts) last) (sym (next es at.member-index c.member-item.result c.loop-member-test.true c.member-item.is))
    (lists_more at.seen c.see_leaves.new.seen last (leaves right (tree_of c.member-item.result)) (leaves_in right (trees_in (drop (at.member-index + 1) es))) c.in_ok-see_leaves.ensures h))

pub see_leaves_in-returns : goal.see_leaves_in-returns
see_leaves_in-returns t c =
    let at = c.loop-member in
    at.invariant at.seen (subst (λ es. Lists at.seen (leaves_in c.args.right (trees_in es)) at.seen) (sym (drop_all at.member-index c.items-member-items.result.now c.loop-member-test.false)) (lists_none at.seen))
