use Rattle.std.proofs.Common.{◌≡◌, replicate}
use Rattle.lg_core.specs.Core.{newcomer}
use Rattle.lg_core.proofs.state.Core.new.Given as goal

abbrev pub invariant-loop : goal.invariant-loop
invariant-loop l = (l.actors.items ≡ replicate l.counter newcomer) × (l.newcomer ≡ newcomer)
