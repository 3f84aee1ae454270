use Rattle.std.proofs.Common.{◌↔◌, IsTrue, Contains, true≢false, sym, ◌∙◌, subst}
use Rattle.lg_forest.proofs.KeySets.{has_key}
use Rattle.lg_forest.proofs.key_set.KeySet.has.Goals as goal

pub returns-then-not-has_room_for-clause-value : goal.returns-then-not-has_room_for-clause-value
returns-then-not-has_room_for-clause-value g c = (
  λ t. absurd (true≢false (sym t)),
  λ h. absurd (true≢false (sym (c.has_room_for.ensures.1 (c.self.invariant c.args.key.now (subst (λ z. Contains z c.args.key.now) (sym c.self.view_is) h))) ∙ c.if-not-has_room_for.true)),
)

pub returns-clause-value : goal.returns-clause-value
returns-clause-value g c =
    subst (λ z. IsTrue c.is_set.result ↔ Contains z c.args.key.now) c.self.view_is
    (has_key g.R.Rows.row g.R.Rows.place g.R.Rows.at c.are_rows.ensures c.self.inside.rows c.args.key.now c.row_of.result c.place_of.result c.bits.result c.is_set.result c.bits.ensures.bits c.row_of.ensures c.place_of.ensures.value c.is_set.ensures)
