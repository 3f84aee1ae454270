-- the classes from this number on are looked at
use Rattle.lg_region.specs.Chains.{IsChainFrom}
use Rattle.lg_region.proofs.chains.chain_of.Given as goal

abbrev pub invariant-loop-number : goal.invariant-loop-number
invariant-loop-number l = IsChainFrom l.classes l.number l.firsts.items l.nexts.items
