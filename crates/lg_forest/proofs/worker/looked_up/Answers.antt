use Rattle.std.proofs.Common.{IfSome, subst}
use Rattle.lg_forest.specs.Known.{AreKept}
use Rattle.lg_forest.proofs.Kept.{alts_kept}
use Rattle.lg_forest.proofs.worker.looked_up.Goals as goal

pub returns-in-Some-clause-alts : goal.returns-in-Some-clause-alts
returns-in-Some-clause-alts c =
    let positions = c.args.lists.now.positions in
    alts_kept c.args.lists.now c.args.key c.in-Some.alts c.are_numbered.ensures c.requires.key
    (subst (λ o. IfSome o (λ value. AreKept positions c.args.key value)) c.in-Some.is (c.in_ok-found.ensures.right positions c.requires.right))
