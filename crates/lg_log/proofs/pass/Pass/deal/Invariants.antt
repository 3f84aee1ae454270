use Rattle.std.proofs.Common.{◌≡◌, [], ◌∷◌, map, ◌-◌}
use Rattle.std.specs.List.{range_with_len}
use Rattle.lg_log.specs.Passes.{at_start}
use Rattle.lg_log.proofs.pass.Pass.deal.Given as goal

abbrev pub invariant-loop : goal.invariant-loop
invariant-loop l =
    (l.self ≡ at_start l.log (range_with_len l.counter (l.sessions - l.counter)))
    × (l.passes.items ≡ map (λ session. at_start l.log (session ∷ [])) (range_with_len 0 l.counter))
