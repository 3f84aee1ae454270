use Rattle.lg_gram.proofs.Orders.{links_total}
use Rattle.lg_gram.proofs.Exact.{same_link}
use Rattle.lg_gram.proofs.law.links_are_ordered.Goals as goal

pub returns : goal.returns
returns c = record { total = links_total; exact = same_link }
