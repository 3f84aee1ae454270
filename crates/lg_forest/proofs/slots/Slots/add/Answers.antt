use Rattle.std.proofs.Common.{Contains, ap, sym, ◌∙◌, subst}
use Rattle.std.specs.Map.{keys_of}
use Rattle.lg_forest.proofs.Slotting.{keys_seen}
use Rattle.lg_forest.proofs.slots.Slots.add.Goals as goal

pub push-requires-clause-fresh : goal.push-requires-clause-fresh
push-requires-clause-fresh g c = subst (λ z. Contains z c.args.key → ⊥) (sym (ap keys_of (c.in_ok-make_room.ensures.same ∙ c.self.view_is)) ∙ keys_seen c.make_room.new.slots.items) c.requires
