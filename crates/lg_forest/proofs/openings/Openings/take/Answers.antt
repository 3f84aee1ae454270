use Rattle.std.proofs.Common.{◌≡◌, ◌≢◌, ◌⊎◌, sym, subst, Contains}
use Rattle.lg_region.specs.declared.opening.Origin.{Origin}
use Rattle.lg_forest.specs.declared.openings.Opening.{Opening}
use Rattle.lg_forest.proofs.Asked.{on_ok_as}
use Rattle.lg_forest.proofs.openings.Openings.take.Goals as goal

pub returns-clause-left : goal.returns-clause-left
returns-clause-left c = on_ok_as c.put.result
    ((o : Origin) (x : Opening) → Contains c.put.new.self (o, x) → Contains c.self.inside.found (o, x) ⊎ ((o ≡ c.args.origin.now) × (x ≡ c.args.other)))
    ((o : Origin) (x : Opening) → Contains c.put.new.self (o, x) → Contains c.args.self.now (o, x) ⊎ ((o ≡ c.args.origin.now) × (x ≡ c.args.other)))
    (λ f o x has. subst (λ z. Contains z (o, x) ⊎ ((o ≡ c.args.origin.now) × (x ≡ c.args.other))) c.self.view_is (f o x has)) c.put.ensures.put

pub returns-clause-kept : goal.returns-clause-kept
returns-clause-kept c = on_ok_as c.put.result
    ((o : Origin) (x : Opening) → o ≢ c.args.origin.now → Contains c.self.inside.found (o, x) → Contains c.put.new.self (o, x))
    ((o : Origin) (x : Opening) → o ≢ c.args.origin.now → Contains c.args.self.now (o, x) → Contains c.put.new.self (o, x))
    (λ f o x other has. f o x other (subst (λ z. Contains z (o, x)) (sym c.self.view_is) has)) c.put.ensures.kept
