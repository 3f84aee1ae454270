-- The connectors of a good linkage support themselves.
use Rattle.std.proofs.Common.{◌≡◌, ℕ, ◌<◌, inl, inr, refl, sym, ap, ◌∙◌, subst, true, false, Option, Some, None, List, ◌++◌, slice_get, Contains, arith}
use Rattle.std.proofs.lemmas.List.Elements.{Contains-append_left, Contains-append_right, Contains-append_cases}
use Rattle.std.proofs.lemmas.Option.{slice_get_within, slice_get-get_or, get_or_from_slice_get}
use Rattle.lg_gram.specs.Connectors.{Connector, Match}
use Rattle.lg_gram.specs.Disjuncts.{choice_of}
use Rattle.lg_gram.specs.Linkages.{Linkage}
use Rattle.lg_gram.specs.Rules.{Good, chosen_at, left_list, right_list, lefts_of, rights_of}
use Rattle.lg_gram.specs.declared.disjunct.Disjunct.{Disjunct}
use Rattle.lg_eprune.specs.Live.{WordTree, HasConnector, IsChoiceAt, SupportsItself, IsLiveChoice, AreOf}
use Rattle.lg_base.proofs.Elements.{contains_none}
use Rattle.lg_eprune.proofs.Leaves.{right_of_choice, left_of_choice}
use Rattle.lg_eprune.proofs.Numbered.{numbered, number_in, numbered_out}

pub contains_at : {X : Type 0} (xs : List X) (k : ℕ) (x : X) → slice_get xs k ≡ Some x → Contains xs x
contains_at xs k x is = (k, slice_get_within xs k x is, get_or_from_slice_get xs k x x is)

some_same : {X : Type 0} (x y : X) → ◌≡◌ {A = Option X} (Some x) (Some y) → x ≡ y
some_same x y is = cc

abbrev used_by : Option Disjunct → List Connector
used_by o = left_list o ++ right_list o

has_used : (d : Disjunct) (c : Connector) → Contains (used_by (Some d)) c → HasConnector (choice_of d) c
has_used d c m = Contains-append_cases d.left d.right c m

used_has : (d : Disjunct) (c : Connector) → HasConnector (choice_of d) c → Contains (used_by (Some d)) c
used_has d c (inl m) = Contains-append_left d.left d.right c m
used_has d c (inr m) = Contains-append_right d.left d.right c m

module _ (words : List (List WordTree)) (positions : List (List Disjunct)) (are : AreOf words positions) (g : Linkage) (good : Good positions g) where
  abbrev Uses : ℕ → Connector → Type 0
  Uses i c = (d : Disjunct) × (chosen_at g i ≡ Some d) × HasConnector (choice_of d) c

  uses_in : (i : ℕ) (c : Connector) → Uses i c → Contains (numbered used_by 0 g.chosen) (i, c)
  uses_in i c (d, is, has) = number_in used_by None refl g.chosen i c (subst (λ o. Contains (used_by o) c) (sym is) (used_has d c has))

  uses_of : (o : Option Disjunct) (c : Connector) → Contains (used_by o) c → (d : Disjunct) × (o ≡ Some d) × HasConnector (choice_of d) c
  uses_of None c m = absurd (contains_none c m)
  uses_of (Some d) c m = (d, refl, has_used d c m)

  uses_out : (i : ℕ) (c : Connector) → Contains (numbered used_by 0 g.chosen) (i, c) → Uses i c
  uses_out i c h =
      let (k, is, has) = numbered_out used_by None 0 g.chosen (i, c) h in
      let same : k ≡ i = omega arith in
      subst (λ j. Uses j c) same (uses_of (chosen_at g k) c has)

  at : (i : ℕ) (d : Disjunct) → chosen_at g i ≡ Some d → IsChoiceAt words i (choice_of d)
  at i d is = are i d (good.belongs.listed i d is)

  right_partner : (i : ℕ) (c : Connector) → Contains (numbered used_by 0 g.chosen) (i, c) → c.right ≡ true
      → (j : ℕ) × (e : Connector) × Contains (numbered used_by 0 g.chosen) (j, e) × (i < j) × Match c e
  right_partner i c h side =
      let (d, is, has) = uses_out i c h in
      let choice = at i d is in
      let (p, within, read) = right_of_choice choice.word.tree (choice_of d) choice.chosen c has side in
      let place : slice_get (rights_of g i) p ≡ Some c = ap (λ o. slice_get (right_list o) p) is ∙ slice_get-get_or d.right p c within ∙ ap Some read in
      let (l, linked, from, place_is) = (good.rules.satisfied.on_right i p c place).some in
      let (a, b, first, second, match) = good.rules.matched.joins l linked in
      let same : a ≡ c = some_same a c (sym first ∙ (λ k. slice_get (rights_of g (from k)) (place_is k)) ∙ place) in
      let before : l.left < l.right = good.rules.matched.forward l linked in
      (l.right, b, left_used l.right l.rplace b second, omega arith, subst (λ x. Match x b) same match)
    where
      left_used : (j q : ℕ) (b : Connector) → slice_get (lefts_of g j) q ≡ Some b → Contains (numbered used_by 0 g.chosen) (j, b)
      left_used j q b is = number_in used_by None refl g.chosen j b (Contains-append_left (lefts_of g j) (rights_of g j) b (contains_at (lefts_of g j) q b is))

  left_partner : (j : ℕ) (c : Connector) → Contains (numbered used_by 0 g.chosen) (j, c) → c.right ≡ false
      → (i : ℕ) × (e : Connector) × Contains (numbered used_by 0 g.chosen) (i, e) × (i < j) × Match e c
  left_partner j c h side =
      let (d, is, has) = uses_out j c h in
      let choice = at j d is in
      let (q, within, read) = left_of_choice choice.word.tree (choice_of d) choice.chosen c has side in
      let place : slice_get (lefts_of g j) q ≡ Some c = ap (λ o. slice_get (left_list o) q) is ∙ slice_get-get_or d.left q c within ∙ ap Some read in
      let (l, linked, from, place_is) = (good.rules.satisfied.on_left j q c place).some in
      let (a, b, first, second, match) = good.rules.matched.joins l linked in
      let same : b ≡ c = some_same b c (sym second ∙ (λ k. slice_get (lefts_of g (from k)) (place_is k)) ∙ place) in
      let before : l.left < l.right = good.rules.matched.forward l linked in
      (l.left, a, right_used l.left l.lplace a first, omega arith, subst (λ x. Match a x) same match)
    where
      right_used : (i p : ℕ) (a : Connector) → slice_get (rights_of g i) p ≡ Some a → Contains (numbered used_by 0 g.chosen) (i, a)
      right_used i p a is = number_in used_by None refl g.chosen i a (Contains-append_right (lefts_of g i) (rights_of g i) a (contains_at (rights_of g i) p a is))

  support : SupportsItself words (numbered used_by 0 g.chosen)
  support = record {
    right = right_partner;
    left = left_partner;
    used = λ i c h. (
        let (d, is, has) = uses_out i c h in
        (choice_of d, at i d is, has, λ e m. uses_in i e (d, is, m)));
  }

  pub linked_live : (i : ℕ) (d : Disjunct) → chosen_at g i ≡ Some d → IsLiveChoice words i (choice_of d)
  linked_live i d is = λ c has. (numbered used_by 0 g.chosen, support, uses_in i c (d, is, has))
