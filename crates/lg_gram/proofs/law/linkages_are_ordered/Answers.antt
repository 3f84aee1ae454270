use Rattle.lg_gram.proofs.Orders.{linkages_total}
use Rattle.lg_gram.proofs.Exact.{same_linkage}
use Rattle.lg_gram.proofs.law.linkages_are_ordered.Goals as goal

pub returns : goal.returns
returns c = record { total = linkages_total; exact = same_linkage }
