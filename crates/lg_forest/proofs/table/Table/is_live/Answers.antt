use Rattle.std.proofs.Common.{◌≢◌, ◌↔◌, [], Bool, List, Option, IsTrue, MatchOption, Contains, refl, true≢false, inl, inr, sym, ◌∙◌, subst}
use Rattle.std.specs.Map.{keys_of}
use Rattle.lg_region.specs.declared.alternative.Alt.{Alt}
use Rattle.lg_forest.proofs.Entering.{dead_there, key_cases, live_there}
use Rattle.lg_forest.proofs.table.Table.is_live.Goals as goal
use Rattle.lg_forest.proofs.table.Table.is_live.Goals.{in-Some, in-None}

pub returns-then-has-clause-live : goal.returns-then-has-clause-live
returns-then-has-clause-live c =
    let key = c.args.key.now in
    let dead = c.has.ensures.value.0 c.if-has.true in
    ([], subst (λ z. Contains z (key, [])) c.self.view_is (dead_there c.self.inside.live c.self.inside.dead key [] refl dead), ((λ t. absurd (true≢false (sym t))), λ some. absurd (some refl)))

-- of a key that is not dead, the table of live keys tells
pub returns-clause-live : goal.returns-clause-live
returns-clause-live c =
    let key = c.args.key.now in
    let Found : Option Bool → Type 0 = λ r. MatchOption r (Contains (keys_of c.args.self.now) key → ⊥) (λ live. (x : List Alt) × Contains c.args.self.now (key, x) × (IsTrue live ↔ (x ≢ []))) in
    elim c.match-get.branch [
      | in-Some w ↦
          let alts = w.in-Some._alts.now in
          let has = w.in-Some.ensures.found in
          subst Found (sym w.result-is) (alts, subst (λ z. Contains z (key, alts)) c.self.view_is (live_there c.self.inside.live c.self.inside.dead key alts has), ((λ t. c.self.invariant.some key alts has), λ some. refl))
      | in-None w ↦ subst Found (sym w.result-is) (λ has. elim (key_cases c.self.inside.live c.self.inside.dead key (subst (λ z. Contains (keys_of z) key) (sym c.self.view_is) has)) [
        | inl live ↦ w.in-None.ensures.found live
        | inr dead ↦ true≢false (sym (c.has.ensures.value.1 dead) ∙ c.if-has.false)
      ])
    ]
