use Rattle.lg_gram.proofs.Orders.{connectors_total}
use Rattle.lg_gram.proofs.Apart.{connectors_told_apart}
use Rattle.lg_gram.proofs.law.connectors_are_ordered.Goals as goal

pub returns : goal.returns
returns c = record { total = connectors_total; exact = connectors_told_apart }
