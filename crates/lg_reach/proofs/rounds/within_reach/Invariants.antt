use Rattle.std.proofs.Common.{◌+◌, None}
use Rattle.lg_reach.specs.Rounds.{AreWalked}
use Rattle.lg_reach.proofs.rounds.within_reach.Given as goal

abbrev pub invariant-loop-round : goal.invariant-loop-round
invariant-loop-round l = AreWalked (l.nulls + 1) l.positions l.round.kept.items None l.round.sites l.round.ways
