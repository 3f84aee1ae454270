-- The choices of a formula that was cut: those of the whole formula all of whose connectors pass.
use Rattle.std.proofs.Common.{◌≡◌, ℤ, pos, inl, inr, refl, sym, ap, ◌∙◌, Bool, true, false, ◌&&◌, cond, Option, Some, None, List, [], ◌∷◌, ◌++◌, map, Contains, if◌then◌else◌}
use Rattle.std.specs.List.{filter, flat_map, list_all}
use Rattle.std.specs.Option.{option_map}
use Rattle.std.proofs.lemmas.Bool.{cases_Bool, and_from}
use Rattle.std.proofs.lemmas.List.Elements.{filter-append}
use Rattle.std.proofs.lemmas.List.Folds.{list_all-append}
use Rattle.lg_gram.specs.Connectors.{Connector}
use Rattle.lg_gram.specs.Trees.{Tree, Trees, empty, leaf, all_of, one_of, priced, no_trees, tree}
use Rattle.lg_gram.specs.Measures.{Choice, single, joined, dearer, choices_of, picks_of, choices_of_any}
use Rattle.lg_eprune.specs.Live.{HasConnector}
use Rattle.lg_eprune.specs.Cuts.{any_of, both, in_front, cut, cut_all, cut_any}
use Rattle.lg_base.proofs.Elements.{contains_here, contains_later}

-- each connector of the choice passes
abbrev pub passes : (Connector → Bool) → Choice → Bool
passes test c = list_all test c.left && list_all test c.right

abbrev pub left_choices : Option Tree → List Choice
left_choices None = []
left_choices (Some t) = choices_of t

abbrev left_picks : Option Trees → List Choice
left_picks None = []
left_picks (Some ts) = picks_of ts

swap_middle : (a b c d : Bool) → ((a && b) && (c && d)) ≡ ((a && c) && (b && d))
swap_middle true true true d = refl
swap_middle true true false d = refl
swap_middle true false true d = refl
swap_middle true false false d = refl
swap_middle false b c d = refl

passes_joined : (test : Connector → Bool) (a b : Choice) → passes test (joined a b) ≡ (passes test a && passes test b)
passes_joined test a b =
    (λ i. list_all-append test a.left b.left i && list_all-append test a.right b.right i)
    ∙ swap_middle (list_all test a.left) (list_all test b.left) (list_all test a.right) (list_all test b.right)

-- a price changes no connector
kept_dearer : (test : Connector → Bool) (price : ℤ) (cs : List Choice) → map (dearer price) (filter (passes test) cs) ≡ filter (passes test) (map (dearer price) cs)
kept_dearer test price [] = refl
kept_dearer test price (c ∷ cs) =
    elim (cases_Bool (passes test c)) [
      | inl t ↦ rw t (ap (λ rest. dearer price c ∷ rest) (kept_dearer test price cs))
      | inr t ↦ rw t (kept_dearer test price cs)
    ]

-- what one choice begins
kept_joined : (test : Connector → Bool) (a : Choice) (cs : List Choice) → filter (passes test) (map (joined a) cs) ≡ cond (passes test a) (map (joined a) (filter (passes test) cs)) []
kept_joined test a [] = elim (cases_Bool (passes test a)) [ inl t ↦ rw t refl | inr t ↦ rw t refl ]
kept_joined test a (c ∷ cs) =
    let more = kept_joined test a cs in
    let is = passes_joined test a c in
    elim (cases_Bool (passes test a)) [
      | inl t ↦ elim (cases_Bool (passes test c)) [
        | inl u ↦ rw (is, t, u) (ap (λ rest. joined a c ∷ rest) (rw t at more))
        | inr u ↦ rw (is, t, u) (rw t at more)
      ]
      | inr t ↦ rw (is, t) (rw t at more)
    ]

kept_products : (test : Connector → Bool) (firsts seconds : List Choice) →
    flat_map (λ a. map (joined a) (filter (passes test) seconds)) (filter (passes test) firsts) ≡ filter (passes test) (flat_map (λ a. map (joined a) seconds) firsts)
kept_products test [] seconds = refl
kept_products test (a ∷ firsts) seconds =
    let split = filter-append (passes test) (map (joined a) seconds) (flat_map (λ b. map (joined b) seconds) firsts) in
    let first = kept_joined test a seconds in
    let more = kept_products test firsts seconds in
    elim (cases_Bool (passes test a)) [
      | inl t ↦ rw (split, first, t, ← more) refl
      | inr t ↦ rw (split, first, t, ← more) refl
    ]

nothing_joined : (cs : List Choice) → [] ≡ flat_map (λ (a : Choice). map (joined a) []) cs
nothing_joined [] = refl
nothing_joined (c ∷ cs) = nothing_joined cs

all_step : (o : Option Trees) → left_choices (option_map all_of o) ≡ left_picks o
all_step None = refl
all_step (Some ts) = refl

any_step : (ts : Trees) → left_choices (any_of ts) ≡ choices_of_any ts
any_step no_trees = refl
any_step (tree t ts) = refl

priced_step : (o : Option Tree) (price : ℤ) → left_choices (option_map (λ t. priced t price) o) ≡ map (dearer price) (left_choices o)
priced_step None price = refl
priced_step (Some t) price = refl

both_step : (o : Option Tree) (os : Option Trees) → left_picks (both o os) ≡ flat_map (λ a. map (joined a) (left_picks os)) (left_choices o)
both_step None os = refl
both_step (Some t) None = nothing_joined (choices_of t)
both_step (Some t) (Some ts) = refl

front_step : (o : Option Tree) (ts : Trees) → choices_of_any (in_front o ts) ≡ left_choices o ++ choices_of_any ts
front_step None ts = refl
front_step (Some t) ts = refl

and_true : (b : Bool) → (b && true) ≡ b
and_true true = refl
and_true false = refl

passes_by : (test : Connector → Bool) (c : Connector) (right : Bool)
    → passes test (if right then record { left = []; right = c ∷ []; cost = pos 0 } else record { left = c ∷ []; right = []; cost = pos 0 }) ≡ test c
passes_by test c true = and_true (test c)
passes_by test c false = and_true (test c && true) ∙ and_true (test c)

leaf_by : (b : Bool) (c : Connector) → left_choices (if b then Some (leaf c) else None) ≡ cond b (single c ∷ []) []
leaf_by true c = refl
leaf_by false c = refl

leaf_step : (test : Connector → Bool) (c : Connector) → left_choices (cut test (leaf c)) ≡ filter (passes test) (single c ∷ [])
leaf_step test c = leaf_by (test c) c ∙ ap (λ b. cond b (single c ∷ []) []) (sym (passes_by test c c.right))

mutual
  pub cut_choices : (test : Connector → Bool) (t : Tree) → left_choices (cut test t) ≡ filter (passes test) (choices_of t)
  cut_choices test empty = refl
  cut_choices test (leaf c) = leaf_step test c
  cut_choices test (all_of ts) = all_step (cut_all test ts) ∙ cut_picks test ts
  cut_choices test (one_of ts) = any_step (cut_any test ts) ∙ cut_choices_any test ts
  cut_choices test (priced t price) =
      priced_step (cut test t) price ∙ ap (map (dearer price)) (cut_choices test t) ∙ kept_dearer test price (choices_of t)

  cut_picks : (test : Connector → Bool) (ts : Trees) → left_picks (cut_all test ts) ≡ filter (passes test) (picks_of ts)
  cut_picks test no_trees = refl
  cut_picks test (tree t ts) =
      both_step (cut test t) (cut_all test ts)
      ∙ (λ i. flat_map (λ a. map (joined a) (cut_picks test ts i)) (cut_choices test t i))
      ∙ kept_products test (choices_of t) (picks_of ts)

  cut_choices_any : (test : Connector → Bool) (ts : Trees) → choices_of_any (cut_any test ts) ≡ filter (passes test) (choices_of_any ts)
  cut_choices_any test no_trees = refl
  cut_choices_any test (tree t ts) =
      front_step (cut test t) (cut_any test ts)
      ∙ (λ i. cut_choices test t i ++ cut_choices_any test ts i)
      ∙ sym (filter-append (passes test) (choices_of t) (choices_of_any ts))

-- what passes, connector by connector
all_pass : (test : Connector → Bool) (cs : List Connector) → ((c : Connector) → Contains cs c → test c ≡ true) → list_all test cs ≡ true
all_pass test [] h = refl
all_pass test (c ∷ cs) h = and_from (test c) (list_all test cs) (h c (contains_here c cs)) (all_pass test cs (λ d m. h d (contains_later c cs d m)))

pub passes_if : (test : Connector → Bool) (choice : Choice) → ((c : Connector) → HasConnector choice c → test c ≡ true) → passes test choice ≡ true
passes_if test choice h =
    and_from (list_all test choice.left) (list_all test choice.right) (all_pass test choice.left (λ c m. h c (inl m))) (all_pass test choice.right (λ c m. h c (inr m)))
