-- What the rules and the order say of a few linkages.
use Rattle.std.proofs.Common.{◌≡◌, ℕ, zero, suc, ◌<◌, ◌≤◌, List, [], length, Some, refl, sym, ap, ◌∙◌, subst, arith, codes}
use Rattle.std.specs.Prelude.{slice_index_or, slice_get}
use Rattle.std.specs.List.{All, Contains}
use Rattle.std.specs.List.Sorted.{IsStrictlySortedBy}
use Rattle.std.proofs.lemmas.Int.{ints}
use Rattle.lg_gram.specs.Connectors.{Connector}
use Rattle.lg_gram.specs.Problems.{IsProblem, IsPosition, FitsProblem}
use Rattle.lg_gram.specs.Walks.{Walk, LinkFrom, stay, forth, back}
use Rattle.lg_gram.specs.Rules.{Good, Belongs, Joins, Serves, HasLink, IsLinked, IsMatched, chosen_at, rights_of, lefts_of}
use Rattle.lg_gram.specs.Ground.{to_right, to_left, link, mary, mary_ran, mary_ran_linked, linked_twice, crossed}
use Rattle.lg_gram.specs.declared.disjunct.Disjunct.{Disjunct}
use Rattle.lg_gram.specs.declared.linkage.Link.{Link}

abbrev only : Link
only = link 0 0 1 0

fits : (d : Disjunct) → length d.left ≤ 1 → length d.right ≤ 1 → d.cost ≡ mary.cost → FitsProblem d
fits d left right free = record { left = omega arith; right = omega arith; cost = (omega (arith, ints), omega (arith, ints)) }

at_mary : IsPosition (slice_index_or mary_ran 0 [])
unfolding IsStrictlySortedBy
at_mary = record { fit = fit; rise = ((refl, tt), (tt, tt)) }
  where
    fit : All FitsProblem (slice_index_or mary_ran 0 [])
    fit zero d h = fits _ (omega arith) (omega arith) refl
    fit (suc zero) d h = fits _ (omega arith) (omega arith) refl
    fit (suc (suc k)) d h = absurd (omega arith)

at_ran : IsPosition (slice_index_or mary_ran 1 [])
unfolding IsStrictlySortedBy
at_ran = record { fit = fit; rise = (tt, tt) }
  where
    fit : All FitsProblem (slice_index_or mary_ran 1 [])
    fit zero d h = fits _ (omega arith) (omega arith) refl
    fit (suc k) d h = absurd (omega arith)

pub mary_ran_problem : IsProblem mary_ran
mary_ran_problem = record { few = omega arith; few_disjuncts = omega arith; each = each }
  where
    each : All IsPosition mary_ran
    each zero d h = at_mary
    each (suc zero) d h = at_ran
    each (suc (suc k)) d h = absurd (omega arith)

only_link : (l : Link) → HasLink mary_ran_linked l → only ≡ l
only_link l (zero, h, e) = e
only_link l (suc k, h, e) = absurd (omega arith)

listed : (i : ℕ) (d : Disjunct) → chosen_at mary_ran_linked i ≡ Some d → Contains (slice_index_or mary_ran i []) d
listed zero d h = (0, omega arith, cc)
listed (suc zero) d h = (0, omega arith, cc)
listed (suc (suc i)) d h = cc

belongs : Belongs mary_ran mary_ran_linked
unfolding IsStrictlySortedBy
belongs = record { same_length = refl; listed = listed; set = (tt, tt) }

joins : Joins (rights_of mary_ran_linked) (lefts_of mary_ran_linked) only
joins = (to_right (codes "S"), to_left (codes "S"), refl, refl, record { to_right = refl; to_left = refl; capitals = refl; subscripts = λ k p q. absurd (omega arith) })

matched : IsMatched (rights_of mary_ran_linked) (lefts_of mary_ran_linked) (HasLink mary_ran_linked)
matched = record {
  forward = λ l h. subst (λ (x : Link). x.left < x.right) (only_link l h) (omega arith);
  joins = λ l h. subst (λ (x : Link). Joins (rights_of mary_ran_linked) (lefts_of mary_ran_linked) x) (only_link l h) joins;
}

on_right : (i p : ℕ) (c : Connector) → slice_get (rights_of mary_ran_linked i) p ≡ Some c → Serves (HasLink mary_ran_linked) (λ l. l.left) (λ l. l.lplace) i p c
on_right zero zero c h = record {
  some = (only, (0, omega arith, refl), refl, refl);
  one = λ single k l hk hl e f g m. sym (only_link k hk) ∙ only_link l hl;
}
on_right zero (suc p) c h = cc
on_right (suc zero) p c h = cc
on_right (suc (suc i)) p c h = cc

on_left : (j q : ℕ) (c : Connector) → slice_get (lefts_of mary_ran_linked j) q ≡ Some c → Serves (HasLink mary_ran_linked) (λ l. l.right) (λ l. l.rplace) j q c
on_left zero q c h = cc
on_left (suc zero) zero c h = record {
  some = (only, (0, omega arith, refl), refl, refl);
  one = λ single k l hk hl e f g m. sym (only_link k hk) ∙ only_link l hl;
}
on_left (suc zero) (suc q) c h = cc
on_left (suc (suc j)) q c h = cc

connected : (i j : ℕ) → IsLinked mary_ran_linked i → IsLinked mary_ran_linked j → Walk (LinkFrom (HasLink mary_ran_linked)) i j
connected zero zero h g = stay 0
connected zero (suc zero) h g = forth 0 1 1 (only, (0, omega arith, refl), refl, refl) (stay 1)
connected (suc zero) zero h g = back 1 0 0 (only, (0, omega arith, refl), refl, refl) (stay 0)
connected (suc zero) (suc zero) h g = stay 1
connected (suc (suc i)) j h g = cc
connected zero (suc (suc j)) h g = cc
connected (suc zero) (suc (suc j)) h g = cc

pub mary_ran_good : Good mary_ran mary_ran_linked
mary_ran_good = record {
  belongs = belongs;
  rules = record {
    matched = matched;
    satisfied = record { on_right = on_right; on_left = on_left };
    planar = λ k l h g. let e = only_link k h in let f = only_link l g in λ a b c. omega (arith, ap (λ (x : Link). x.left) e, ap (λ (x : Link). x.left) f);
    ordered = record {
      on_right = λ k l h g e less. absurd (omega (arith, ap (λ (x : Link). x.lplace) (only_link k h), ap (λ (x : Link). x.lplace) (only_link l g)));
      on_left = λ k l h g e less. absurd (omega (arith, ap (λ (x : Link). x.rplace) (only_link k h), ap (λ (x : Link). x.rplace) (only_link l g)));
    };
    exclusive = λ k l h g e f. sym (only_link k h) ∙ only_link l g;
  };
  connected = connected;
}

-- two links that join the same words would be one
pub linked_twice_bad : (positions : List (List Disjunct)) → Good positions linked_twice → ⊥
linked_twice_bad positions good =
    let same = good.rules.exclusive (link 0 0 1 0) (link 0 1 1 1) (0, omega arith, refl) (1, omega arith, refl) refl refl in
    omega (arith, ap (λ (l : Link). l.lplace) same)

pub crossed_bad : (positions : List (List Disjunct)) → Good positions crossed → ⊥
crossed_bad positions good = good.rules.planar (link 0 1 2 0) (link 1 0 3 0) (1, omega arith, refl) (2, omega arith, refl) (omega arith) (omega arith) (omega arith)
