use Rattle.std.proofs.Common.{◌≡◌, rules, is_lt}
use Rattle.std.proofs.lemmas.Fn.{always_returns_same}
use Rattle.std.proofs.lemmas.List.MinMax.{ranks_by}
use Rattle.lg_gram.specs.Connectors.{connector_cmp}
use Rattle.lg_disj.proofs.Ranked.{connector_total}
use Rattle.lg_disj.proofs.ranks.in_order.Goals as goal

pub returns-clause-order : goal.returns-clause-order
returns-clause-order c =
    c.in_ok-sort_by.ensures.sorted (λ a b. is_lt (connector_cmp a b)) (ranks_by connector_total (λ g. g))
    (always_returns_same _ (λ a r. is_lt r ≡ is_lt (connector_cmp a.0.now a.1.0.now)) _ (λ a r q k. search rules))
