use Rattle.std.proofs.Common.{rules}
use Rattle.lg_forest.proofs.Asked.{alt_at}
use Rattle.lg_forest.proofs.worker.+walking.Goals as goal

pub visit-is_live-requires : goal.visit-is_live-requires
visit-is_live-requires t c =
    let is = alt_at c.args.lists.now c.args.key c.in_ok-alts.alts c.index_at-index.result c.get-alt.result c.in_ok-alts.ensures.alts.exactly c.get-alt.ensures in
    let below = c.requires.decided.below c.args.key c.get-alt.result c.requires.key is in
    (search rules, (c.requires.decided, (c.requires.name, (c.requires.decided.valid c.args.key c.get-alt.result c.requires.key is, c.loop-turn.invariant.free))))
