-- What `==` says of connectors.
use Rattle.std.proofs.Common.{◌≡◌, rules}
use Rattle.std.specs.Bool.{Decides}
use Rattle.std.specs.Cmp.Rules.{comparing}
use Rattle.lg_gram.specs.Connectors.{Connector, connector_eq}

pub same_connector : (a b : Connector) → Decides (connector_eq a b) (a ≡ b)
same_connector a b = search (comparing, rules)
