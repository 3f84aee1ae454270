use Rattle.std.proofs.Common.{◌+◌, sym, subst, take, arith}
use Rattle.lg_forest.specs.Drafts.{HaveDrafts}
use Rattle.lg_forest.proofs.SameLinkage.{have_more}
use Rattle.lg_forest.proofs.linkages.linkages_of.Goals as goal

pub loop-draft-preserved : goal.loop-draft-preserved
loop-draft-preserved c =
    subst (λ z. HaveDrafts c.args.problem.now (take (c.loop-draft.draft-index + 1) c.args.drafts.now) z) (sym c.in_ok-push.ensures.items)
    (have_more c.args.problem.now c.args.drafts.now c.loop-draft.draft-index c.draft-item.result c.in_ok-linkage.linkage c.loop-draft.all.items (omega arith) c.draft-item.is c.in_ok-linkage.ensures c.loop-draft.invariant)
