use Rattle.std.proofs.Common.{◌≡◌, ◌+◌, ◌++◌, length, take, drop, sym, subst, arith}
use Rattle.std.proofs.lemmas.List.{length-map, take_at}
use Rattle.lg_idiom.specs.Sentences.{AreAddedTo, HasAdded, rows}
use Rattle.lg_idiom.proofs.Rows.{chain_added, items_of}
use Rattle.lg_idiom.proofs.adding.positions_of.Goals as goal

pub loop-chain-preserved : goal.loop-chain-preserved
loop-chain-preserved c =
    let at = c.loop-chain in
    let new = c.add.new.positions in
    let chain = c.chain-item.result in
    let has = subst (λ l. HasAdded chain (chain.start + chain.count) (rows l) (rows new)) c.deref_mut.ensures.value c.in_ok-add.ensures in
    let lengths = c.in_ok-add.ensures.same_length in
    let whole : take at.positions.len (new ++ drop (length new) at.positions.items) ≡ new =
    take_at new (drop (length new) at.positions.items) at.positions.len (omega (arith, lengths, length-map new items_of, length-map c.deref_mut.result.now items_of, c.deref_mut.ensures.len)) in
    subst (λ l. AreAddedTo (take (at.chain-index + 1) c.args.chains.now) c.args.count (rows l)) (sym whole)
    (chain_added c.args.chains.now at.chain-index c.args.count chain _ (rows at.positions.items) (rows new) c.loop-chain-test.true c.chain-item.is at.invariant has)
