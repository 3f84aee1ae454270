use Rattle.std.proofs.Common.{◌≡◌, ◌↔◌, ◌⊎◌, inl, inr, Contains, sym, subst}
use Rattle.lg_forest.specs.KeySets.{all_keys}
use Rattle.lg_forest.proofs.KeySets.{one_longer, put_in}
use Rattle.lg_forest.proofs.key_set.KeySet.add.Goals as goal

pub invariant_of-self-2 : goal.invariant_of-self-2
invariant_of-self-2 g c = λ k has. elim ((put_in g.R.Rows.row g.R.Rows.place g.R.Rows.at c.are_rows.ensures c.self.inside.rows c.set_bit.new.self c.args.key.now c.row_of.result c.place_of.result c.row_of.ensures c.place_of.ensures.value c.in_ok-set_bit.ensures.set k).0 has) [ inl was ↦ c.self.invariant k was | inr e ↦ subst g.R.Rows.small (sym e) c.requires ]

pub returns-clause-added : goal.returns-clause-added
returns-clause-added g c = subst (λ z. (k : _) → Contains (all_keys g.R.Rows.at c.set_bit.new.self) k ↔ (Contains z k ⊎ (k ≡ c.args.key.now))) c.self.view_is
    (put_in g.R.Rows.row g.R.Rows.place g.R.Rows.at c.are_rows.ensures c.self.inside.rows c.set_bit.new.self c.args.key.now c.row_of.result c.place_of.result c.row_of.ensures c.place_of.ensures.value c.in_ok-set_bit.ensures.set)

pub returns-clause-longer : goal.returns-clause-longer
returns-clause-longer g c = λ fresh. one_longer c.args.self.now (all_keys g.R.Rows.at c.set_bit.new.self) c.args.key.now c.is_short.ensures.once c.is_short-2.ensures.once fresh (returns-clause-added g c)
