use Rattle.std.proofs.Common.{◌≡◌, ◌∷◌, ◌++◌, take}
use Rattle.std.specs.List.{flat_map}
use Rattle.lg_gram.specs.Connectors.{connector_text}
use Rattle.lg_audit.proofs.linkages.sides.write_connectors.Given as goal

-- the connectors so far are written, each behind a comma
abbrev pub invariant-loop-connector : goal.invariant-loop-connector
invariant-loop-connector l = l.out.items ≡ l.initial.out.items ++ flat_map (λ c. 44 ∷ connector_text c) (take l.connector-index l.rest)
