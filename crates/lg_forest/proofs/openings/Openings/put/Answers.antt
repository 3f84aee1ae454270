use Rattle.std.proofs.Common.{◌≡◌, ◌⊎◌, sym, subst, Contains}
use Rattle.lg_forest.proofs.openings.Openings.put.Goals as goal

pub returns-clause-put : goal.returns-clause-put
returns-clause-put c = λ o x has. subst (λ z. Contains z (o, x) ⊎ ((o ≡ c.args.origin) × (x ≡ c.args.opening))) c.self.view_is (c.in_ok-put.ensures.put o x has)

pub returns-clause-kept : goal.returns-clause-kept
returns-clause-kept c = λ o x other has. c.in_ok-put.ensures.kept o x other (subst (λ z. Contains z (o, x)) (sym c.self.view_is) has)
