use Rattle.std.proofs.Common.{subst, ap, sym, ◌∙◌}
use Rattle.std.specs.Map.{keys_of}
use Rattle.lg_region.specs.Fronts.{AreOnce}
use Rattle.lg_forest.proofs.Slotting.{keys_seen}
use Rattle.lg_forest.proofs.slots.Slots.len.Goals as goal

pub returns-clause-once : goal.returns-clause-once
returns-clause-once g c = subst (λ z. AreOnce z) (sym (keys_seen c.self.inside.slots.items) ∙ ap keys_of c.self.view_is) c.self.invariant.once
