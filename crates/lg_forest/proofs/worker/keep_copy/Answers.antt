use Rattle.lg_forest.specs.Known.{AreKept}
use Rattle.lg_forest.proofs.Kept.{kept_alts, kept_more}
use Rattle.lg_forest.proofs.worker.keep_copy.Goals as goal

pub returns-clause-right : goal.returns-clause-right
returns-clause-right c =
    let one = kept_alts c.args.lists.now c.args.key c.args.alts.now c.in_ok-copy.copy c.are_numbered.ensures c.in_ok-copy.ensures c.requires.alts in
    kept_more c.keep.result AreKept c.args.lists.now.positions c.args.shard.now.entries.items c.keep.new.self.entries.items c.args.key c.in_ok-copy.copy c.keep.ensures.kept c.keep.ensures.unchanged c.requires.right one
