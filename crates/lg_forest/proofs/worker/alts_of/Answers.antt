use Rattle.std.proofs.Common.{sym, subst, IfSome}
use Rattle.lg_memo.specs.Entries.{AreRight}
use Rattle.lg_forest.specs.Known.{AreKept}
use Rattle.lg_forest.proofs.Kept.{right_under}
use Rattle.lg_forest.proofs.worker.alts_of.Goals as goal

pub looked_up-alts-requires-clause-right : goal.looked_up-alts-requires-clause-right
looked_up-alts-requires-clause-right c =
    let here = subst (λ o. IfSome o (λ shard. AreRight AreKept c.args.memo.now.table.shared.key.name.value shard.entries.items)) c.in-Some.is c.take.ensures.right in
    right_under AreKept _ _ c.in-Some.shard.entries.items c.requires.name here

pub give-requires-clause-right : goal.give-requires-clause-right
give-requires-clause-right c κs = right_under AreKept _ _ c.looked_up-alts.new.shard.entries.items (sym c.requires.name) c.looked_up-alts.ensures.right
