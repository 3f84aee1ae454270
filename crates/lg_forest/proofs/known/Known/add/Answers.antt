use Rattle.std.proofs.Common.{◌≡◌, ◌∙◌, ◌⊎◌, subst, Contains}
use Rattle.lg_forest.proofs.Tables.{keys_laws, put_in, put_there}
use Rattle.lg_forest.proofs.known.Known.add.Goals as goal

pub returns-clause-added : goal.returns-clause-added
returns-clause-added c = λ k a has. subst (λ z. Contains z (k, a) ⊎ ((k ≡ c.args.key) × (a ≡ c.args.alts))) c.self.view_is (put_in c.self.inside.found c.insert.new.self c.args.key c.args.alts c.in_ok-insert.ensures.unique c.in_ok-insert.ensures.updates.0 k a has)

pub returns-clause-there : goal.returns-clause-there
returns-clause-there c = put_there c.insert.new.self c.args.key c.args.alts (c.in_ok-insert.ensures.updates.0 c.args.key ∙ simp (keys_laws.refl c.args.key))
