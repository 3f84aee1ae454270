-- The choices of a formula that was narrowed: those of the whole formula all of whose connectors pass.
use Rattle.std.proofs.Common.{◌≡◌, ℤ, pos, inl, inr, refl, sym, ap, ◌∙◌, subst, Bool, true, false, ◌&&◌, cond, List, [], ◌∷◌, ◌++◌, map, Contains, if◌then◌else◌}
use Rattle.std.specs.List.{filter, flat_map, list_all}
use Rattle.std.proofs.lemmas.Bool.{cases_Bool}
use Rattle.std.proofs.lemmas.List.Elements.{filter-append}
use Rattle.std.proofs.lemmas.List.Folds.{list_all-append}
use Rattle.lg_gram.specs.Connectors.{Connector}
use Rattle.lg_gram.specs.Disjuncts.{choice_of, IsDisjunctOf}
use Rattle.lg_gram.specs.Trees.{Tree, Trees, empty, leaf, all_of, one_of, priced, no_trees, tree}
use Rattle.lg_gram.specs.Measures.{Choice, single, joined, dearer, choices_of, picks_of, choices_of_any}
use Rattle.lg_gram.specs.declared.disjunct.Disjunct.{Disjunct}
use Rattle.lg_base.proofs.Elements.{filter_in, filter_out}
use Rattle.lg_audit.specs.Printed.{narrowed, all_narrowed}

-- each connector of the choice passes
abbrev pub passes : (Connector → Bool) → Choice → Bool
passes test c = list_all test c.left && list_all test c.right

swap_middle : (a b c d : Bool) → ((a && b) && (c && d)) ≡ ((a && c) && (b && d))
swap_middle true true true d = refl
swap_middle true true false d = refl
swap_middle true false true d = refl
swap_middle true false false d = refl
swap_middle false b c d = refl

passes_joined : (test : Connector → Bool) (a b : Choice) → passes test (joined a b) ≡ (passes test a && passes test b)
passes_joined test a b =
    (λ i. list_all-append test a.left b.left i && list_all-append test a.right b.right i)
    ∙ swap_middle (list_all test a.left) (list_all test b.left) (list_all test a.right) (list_all test b.right)

-- a price changes no connector
kept_dearer : (test : Connector → Bool) (price : ℤ) (cs : List Choice) → map (dearer price) (filter (passes test) cs) ≡ filter (passes test) (map (dearer price) cs)
kept_dearer test price [] = refl
kept_dearer test price (c ∷ cs) =
    elim (cases_Bool (passes test c)) [
      | inl t ↦ rw t (ap (λ rest. dearer price c ∷ rest) (kept_dearer test price cs))
      | inr t ↦ rw t (kept_dearer test price cs)
    ]

-- what one choice begins
kept_joined : (test : Connector → Bool) (a : Choice) (cs : List Choice) → filter (passes test) (map (joined a) cs) ≡ cond (passes test a) (map (joined a) (filter (passes test) cs)) []
kept_joined test a [] = elim (cases_Bool (passes test a)) [ inl t ↦ rw t refl | inr t ↦ rw t refl ]
kept_joined test a (c ∷ cs) =
    let more = kept_joined test a cs in
    let is = passes_joined test a c in
    elim (cases_Bool (passes test a)) [
      | inl t ↦ elim (cases_Bool (passes test c)) [
        | inl u ↦ rw (is, t, u) (ap (λ rest. joined a c ∷ rest) (rw t at more))
        | inr u ↦ rw (is, t, u) (rw t at more)
      ]
      | inr t ↦ rw (is, t) (rw t at more)
    ]

kept_products : (test : Connector → Bool) (firsts seconds : List Choice) →
    flat_map (λ a. map (joined a) (filter (passes test) seconds)) (filter (passes test) firsts) ≡ filter (passes test) (flat_map (λ a. map (joined a) seconds) firsts)
kept_products test [] seconds = refl
kept_products test (a ∷ firsts) seconds =
    let split = filter-append (passes test) (map (joined a) seconds) (flat_map (λ b. map (joined b) seconds) firsts) in
    let first = kept_joined test a seconds in
    let more = kept_products test firsts seconds in
    elim (cases_Bool (passes test a)) [
      | inl t ↦ rw (split, first, t, ← more) refl
      | inr t ↦ rw (split, first, t, ← more) refl
    ]

and_true : (b : Bool) → (b && true) ≡ b
and_true true = refl
and_true false = refl

passes_by : (test : Connector → Bool) (c : Connector) (right : Bool)
    → passes test (if right then record { left = []; right = c ∷ []; cost = pos 0 } else record { left = c ∷ []; right = []; cost = pos 0 }) ≡ test c
passes_by test c true = and_true (test c)
passes_by test c false = and_true (test c && true) ∙ and_true (test c)

leaf_by : (b : Bool) (c : Connector) → choices_of (if b then leaf c else one_of no_trees) ≡ cond b (single c ∷ []) []
leaf_by true c = refl
leaf_by false c = refl

mutual
  pub narrowed_choices : (test : Connector → Bool) (t : Tree) → choices_of (narrowed test t) ≡ filter (passes test) (choices_of t)
  narrowed_choices test empty = refl
  narrowed_choices test (leaf c) = leaf_by (test c) c ∙ ap (λ b. cond b (single c ∷ []) []) (sym (passes_by test c c.right))
  narrowed_choices test (all_of ts) = narrowed_picks test ts
  narrowed_choices test (one_of ts) = narrowed_any test ts
  narrowed_choices test (priced t price) = ap (map (dearer price)) (narrowed_choices test t) ∙ kept_dearer test price (choices_of t)

  narrowed_picks : (test : Connector → Bool) (ts : Trees) → picks_of (all_narrowed test ts) ≡ filter (passes test) (picks_of ts)
  narrowed_picks test no_trees = refl
  narrowed_picks test (tree t ts) =
      (λ i. flat_map (λ a. map (joined a) (narrowed_picks test ts i)) (narrowed_choices test t i)) ∙ kept_products test (choices_of t) (picks_of ts)

  narrowed_any : (test : Connector → Bool) (ts : Trees) → choices_of_any (all_narrowed test ts) ≡ filter (passes test) (choices_of_any ts)
  narrowed_any test no_trees = refl
  narrowed_any test (tree t ts) =
      (λ i. narrowed_choices test t i ++ narrowed_any test ts i) ∙ sym (filter-append (passes test) (choices_of t) (choices_of_any ts))

module _ (test : Connector → Bool) (t : Tree) where
  from_narrowed : (c : Choice) → Contains (choices_of (narrowed test t)) c → Contains (choices_of t) c × (passes test c ≡ true)
  from_narrowed c h = filter_out (passes test) (choices_of t) c (subst (λ (cs : List Choice). Contains cs c) (narrowed_choices test t) h)

  to_narrowed : (c : Choice) → Contains (choices_of t) c → passes test c ≡ true → Contains (choices_of (narrowed test t)) c
  to_narrowed c h pass = subst (λ (cs : List Choice). Contains cs c) (sym (narrowed_choices test t)) (filter_in (passes test) (choices_of t) c h pass)

  -- a disjunct of the narrowed formula is one of the whole, since choices with the same connectors stay together
  pub whole_disjunct : (word : List _) (d : Disjunct) → IsDisjunctOf word (narrowed test t) d → IsDisjunctOf word t d
  whole_disjunct word d is =
      let old = from_narrowed (choice_of d) is.chosen in
      record {
        named = is.named;
        chosen = old.0;
        least = λ c h left right. is.least c (to_narrowed c h ((λ i. list_all test (left i) && list_all test (right i)) ∙ old.1)) left right;
      }

  -- and one of the whole all of whose connectors pass is one of the narrowed formula
  pub narrowed_disjunct : (word : List _) (d : Disjunct) → passes test (choice_of d) ≡ true → IsDisjunctOf word t d → IsDisjunctOf word (narrowed test t) d
  narrowed_disjunct word d pass is = record {
    named = is.named;
    chosen = to_narrowed (choice_of d) is.chosen pass;
    least = λ c h left right. is.least c (from_narrowed c h).0 left right;
  }
