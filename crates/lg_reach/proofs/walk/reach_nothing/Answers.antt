use Rattle.std.proofs.Common.{◌∷◌, [], Some, sym, subst}
use Rattle.lg_gram.specs.Measures.{choices_of, no_connectors}
use Rattle.lg_reach.specs.Walks.{Walks}
use Rattle.lg_reach.proofs.Walking.{walks_nothing}
use Rattle.lg_reach.proofs.walk.reach_nothing.Goals as goal

pub returns : goal.returns
returns c =
    let s = c.args.sites.now in
    subst (λ t. Walks s s c.args.stand.now c.args.start (no_connectors ∷ []) (Some (choices_of t, c.args.start))) (sym c.nothing.ensures) (walks_nothing s c.args.stand.now c.args.start)
