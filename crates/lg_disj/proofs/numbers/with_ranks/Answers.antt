use Rattle.std.proofs.Common.{arith}
use Rattle.lg_disj.proofs.Numbering.{are_numbered}
use Rattle.lg_disj.proofs.numbers.with_ranks.Goals as goal

pub returns : goal.returns
returns c =
    are_numbered c.args.ranked.now c.args.rows.now c.with_places.new.lists.keys c.as_slice.result.now c.in_ok-ranks.ranks.items c.deref.result.now
    c.in_ok-numbered.numbered.items c.deref_mut.result.now c.renumber.new.numbered _ _ c.in_ok-numbered.ensures c.as_slice.ensures.keys
    c.in_ok-ranks.ensures c.deref.ensures.value c.deref_mut.ensures.value c.renumber.ensures (omega arith)
