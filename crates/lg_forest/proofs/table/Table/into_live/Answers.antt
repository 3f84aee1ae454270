use Rattle.std.proofs.Common.{◌≢◌, ◌↔◌, [], List, Contains, subst}
use Rattle.lg_region.specs.declared.alternative.Alt.{Alt}
use Rattle.lg_region.specs.declared.key.Key.{Key}
use Rattle.lg_forest.proofs.Entering.{only_live}
use Rattle.lg_forest.proofs.table.Table.into_live.Goals as goal

pub returns : goal.returns
returns c = subst (λ z. (k : Key) (alts : List Alt) → Contains c.self.inside.live (k, alts) ↔ (Contains z (k, alts) × (alts ≢ []))) c.self.view_is (only_live c.self.inside.live c.self.inside.dead c.self.invariant)
