use Rattle.std.proofs.Common.{◌≡◌, take}
use Rattle.lg_lex.specs.Locations.{location_after}
use Rattle.lg_lex.proofs.location.Location.past.Given as goal

abbrev pub invariant-loop-b : goal.invariant-loop-b
invariant-loop-b l = l.location ≡ location_after l.fn.self (take l.b-index l.bytes)
