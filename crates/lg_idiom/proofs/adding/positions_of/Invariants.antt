use Rattle.std.proofs.Common.{take}
use Rattle.lg_idiom.specs.Sentences.{AreAddedTo, rows}
use Rattle.lg_idiom.proofs.adding.positions_of.Given as goal

-- what the chains so far add
abbrev pub invariant-loop-chain : goal.invariant-loop-chain
invariant-loop-chain l = AreAddedTo (take l.chain-index l.chains) l.count (rows l.positions.items)
