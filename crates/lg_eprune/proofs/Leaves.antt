-- The leaves of a formula and the connectors of its choices.
use Rattle.std.proofs.Common.{◌≡◌, ℤ, pos, ◌⊎◌, inl, inr, refl, sym, ap, ◌∙◌, subst, Bool, true, false, List, [], ◌∷◌, map, Contains, if◌then◌else◌, true≢false}
use Rattle.std.specs.Bool.{beq}
use Rattle.std.proofs.lemmas.Bool.{cases_Bool, and_parts}
use Rattle.std.proofs.lemmas.List.Elements.{Contains-append_left, Contains-append_right, Contains-append_cases}
use Rattle.lg_gram.specs.Connectors.{Connector}
use Rattle.lg_gram.specs.Trees.{Tree, Trees, empty, leaf, all_of, one_of, priced, no_trees, tree}
use Rattle.lg_gram.specs.Measures.{Choice, no_connectors, single, joined, dearer, choices_of, picks_of, choices_of_any}
use Rattle.lg_eprune.specs.Live.{HasConnector}
use Rattle.lg_eprune.specs.Cuts.{is_whole, are_whole, leaves, leaves_in}
use Rattle.lg_base.proofs.Elements.{contains_cases, contains_none, contains_here, map_in, map_out, flat_in, flat_out}

pub beq_same : (a b : Bool) → beq a b ≡ true → a ≡ b
beq_same true true h = refl
beq_same true false h = absurd (true≢false (sym h))
beq_same false true h = absurd (true≢false (sym h))
beq_same false false h = refl

pub beq_itself : (a b : Bool) → a ≡ b → beq a b ≡ true
beq_itself true true h = refl
beq_itself true false h = absurd (true≢false h)
beq_itself false true h = absurd (true≢false (sym h))
beq_itself false false h = refl

only : {X : Type 0} (x y : X) → Contains (x ∷ []) y → x ≡ y
only x y m = elim (contains_cases x [] y m) [ inl same ↦ same | inr later ↦ absurd (contains_none y later) ]

pub leaf_is : (right : Bool) (d c : Connector) → Contains (leaves right (leaf d)) c → (d ≡ c) × (d.right ≡ right)
leaf_is right d c m =
    elim (cases_Bool (beq d.right right)) [
      | inl t ↦ (only d c (rw t at m), beq_same d.right right t)
      | inr t ↦ absurd (contains_none c (rw t at m))
    ]

pub leaf_here : (right : Bool) (c : Connector) → c.right ≡ right → Contains (leaves right (leaf c)) c
leaf_here right c is = rw (beq_itself c.right right is) (contains_here c [])

-- leaves of a direction have it
mutual
  pub leaf_side : (right : Bool) (t : Tree) (c : Connector) → Contains (leaves right t) c → c.right ≡ right
  leaf_side right empty c m = absurd (contains_none c m)
  leaf_side right (leaf d) c m = let (same, side) = leaf_is right d c m in ap (λ x. x.right) (sym same) ∙ side
  leaf_side right (all_of ts) c m = leaves_side right ts c m
  leaf_side right (one_of ts) c m = leaves_side right ts c m
  leaf_side right (priced t price) c m = leaf_side right t c m

  leaves_side : (right : Bool) (ts : Trees) (c : Connector) → Contains (leaves_in right ts) c → c.right ≡ right
  leaves_side right no_trees c m = absurd (contains_none c m)
  leaves_side right (tree t ts) c m =
      elim (Contains-append_cases (leaves right t) (leaves_in right ts) c m) [
        | inl first ↦ leaf_side right t c first
        | inr later ↦ leaves_side right ts c later
      ]

-- the connectors that a choice has on a side
abbrev pub side_of : Bool → Choice → List Connector
side_of right choice = if right then choice.right else choice.left

joined_side : (right : Bool) (a b : Choice) (c : Connector) → Contains (side_of right (joined a b)) c → Contains (side_of right a) c ⊎ Contains (side_of right b) c
joined_side true a b c m = Contains-append_cases a.right b.right c m
joined_side false a b c m = Contains-append_cases a.left b.left c m

dearer_side : (right : Bool) (price : ℤ) (a : Choice) (c : Connector) → Contains (side_of right (dearer price a)) c → Contains (side_of right a) c
dearer_side true price a c m = m
dearer_side false price a c m = m

nothing_side : (right : Bool) (c : Connector) → Contains (side_of right no_connectors) c → ⊥
nothing_side true c m = contains_none c m
nothing_side false c m = contains_none c m

single_by : (right side : Bool) (d c : Connector)
    → Contains (side_of right (if side then record { left = []; right = d ∷ []; cost = pos 0 } else record { left = d ∷ []; right = []; cost = pos 0 })) c → (d ≡ c) × (side ≡ right)
single_by true true d c m = (only d c m, refl)
single_by true false d c m = absurd (contains_none c m)
single_by false true d c m = absurd (contains_none c m)
single_by false false d c m = (only d c m, refl)

single_side : (right : Bool) (d c : Connector) → Contains (side_of right (single d)) c → Contains (leaves right (leaf d)) c
single_side right d c m =
    let (same, side) = single_by right d.right d c m in subst (λ x. Contains (leaves right (leaf d)) x) same (leaf_here right d side)

-- a connector of a choice is a leaf
mutual
  pub choice_leaf : (t : Tree) (choice : Choice) → Contains (choices_of t) choice → (right : Bool) (c : Connector) → Contains (side_of right choice) c → Contains (leaves right t) c
  choice_leaf empty choice h right c m = absurd (nothing_side right c (subst (λ x. Contains (side_of right x) c) (sym (only no_connectors choice h)) m))
  choice_leaf (leaf d) choice h right c m = single_side right d c (subst (λ x. Contains (side_of right x) c) (sym (only (single d) choice h)) m)
  choice_leaf (all_of ts) choice h right c m = pick_leaf ts choice h right c m
  choice_leaf (one_of ts) choice h right c m = any_leaf ts choice h right c m
  choice_leaf (priced t price) choice h right c m =
      let (inner, inside, is) = map_out (dearer price) (choices_of t) choice h in
      choice_leaf t inner inside right c (dearer_side right price inner c (subst (λ x. Contains (side_of right x) c) (sym is) m))

  pick_leaf : (ts : Trees) (choice : Choice) → Contains (picks_of ts) choice → (right : Bool) (c : Connector) → Contains (side_of right choice) c → Contains (leaves_in right ts) c
  pick_leaf no_trees choice h right c m = absurd (nothing_side right c (subst (λ x. Contains (side_of right x) c) (sym (only no_connectors choice h)) m))
  pick_leaf (tree t ts) choice h right c m =
      let (a, first, more) = flat_out (λ a. map (joined a) (picks_of ts)) (choices_of t) choice h in
      let (b, rest, is) = map_out (joined a) (picks_of ts) choice more in
      elim (joined_side right a b c (subst (λ x. Contains (side_of right x) c) (sym is) m)) [
        | inl here ↦ Contains-append_left (leaves right t) (leaves_in right ts) c (choice_leaf t a first right c here)
        | inr later ↦ Contains-append_right (leaves right t) (leaves_in right ts) c (pick_leaf ts b rest right c later)
      ]

  any_leaf : (ts : Trees) (choice : Choice) → Contains (choices_of_any ts) choice → (right : Bool) (c : Connector) → Contains (side_of right choice) c → Contains (leaves_in right ts) c
  any_leaf no_trees choice h right c m = absurd (contains_none choice h)
  any_leaf (tree t ts) choice h right c m =
      elim (Contains-append_cases (choices_of t) (choices_of_any ts) choice h) [
        | inl here ↦ Contains-append_left (leaves right t) (leaves_in right ts) c (choice_leaf t choice here right c m)
        | inr later ↦ Contains-append_right (leaves right t) (leaves_in right ts) c (any_leaf ts choice later right c m)
      ]

-- on which side a connector of a choice stands
pub right_of_choice : (t : Tree) (choice : Choice) → Contains (choices_of t) choice → (c : Connector) → HasConnector choice c → c.right ≡ true → Contains choice.right c
right_of_choice t choice h c (inr m) is = m
right_of_choice t choice h c (inl m) is = absurd (true≢false (sym is ∙ leaf_side false t c (choice_leaf t choice h false c m)))

pub left_of_choice : (t : Tree) (choice : Choice) → Contains (choices_of t) choice → (c : Connector) → HasConnector choice c → c.right ≡ false → Contains choice.left c
left_of_choice t choice h c (inl m) is = m
left_of_choice t choice h c (inr m) is = absurd (true≢false (sym (leaf_side true t c (choice_leaf t choice h true c m)) ∙ is))

pub has_leaf : (t : Tree) (choice : Choice) → Contains (choices_of t) choice → (c : Connector) → HasConnector choice c → Contains (leaves c.right t) c
has_leaf t choice h c (inl m) = let leaf = choice_leaf t choice h false c m in subst (λ r. Contains (leaves r t) c) (sym (leaf_side false t c leaf)) leaf
has_leaf t choice h c (inr m) = let leaf = choice_leaf t choice h true c m in subst (λ r. Contains (leaves r t) c) (sym (leaf_side true t c leaf)) leaf

-- Of a whole formula there is a choice, and each leaf stands in one.
mutual
  pub some_choice : (test : Connector → Bool) (t : Tree) → is_whole test t ≡ true → (choice : Choice) × Contains (choices_of t) choice
  some_choice test empty h = (no_connectors, contains_here no_connectors [])
  some_choice test (leaf c) h = (single c, contains_here (single c) [])
  some_choice test (all_of ts) h = some_pick test ts h
  some_choice test (one_of no_trees) h = absurd (true≢false (sym h))
  some_choice test (one_of (tree t ts)) h =
      let (choice, is) = some_choice test t (and_parts (is_whole test t) (are_whole test ts) h).0 in
      (choice, Contains-append_left (choices_of t) (choices_of_any ts) choice is)
  some_choice test (priced t price) h =
      let (choice, is) = some_choice test t h in (dearer price choice, map_in (dearer price) (choices_of t) choice is)

  some_pick : (test : Connector → Bool) (ts : Trees) → are_whole test ts ≡ true → (choice : Choice) × Contains (picks_of ts) choice
  some_pick test no_trees h = (no_connectors, contains_here no_connectors [])
  some_pick test (tree t ts) h =
      let (whole, others) = and_parts (is_whole test t) (are_whole test ts) h in
      let (a, first) = some_choice test t whole in
      let (b, rest) = some_pick test ts others in
      (joined a b, flat_in (λ a. map (joined a) (picks_of ts)) (choices_of t) a (joined a b) first (map_in (joined a) (picks_of ts) b rest))

abbrev Stands : List Choice → Connector → Type 0
Stands choices c = (choice : Choice) × Contains choices choice × HasConnector choice c

has_first : (a b : Choice) (c : Connector) → HasConnector a c → HasConnector (joined a b) c
has_first a b c (inl m) = inl (Contains-append_left a.left b.left c m)
has_first a b c (inr m) = inr (Contains-append_left a.right b.right c m)

has_second : (a b : Choice) (c : Connector) → HasConnector b c → HasConnector (joined a b) c
has_second a b c (inl m) = inl (Contains-append_right a.left b.left c m)
has_second a b c (inr m) = inr (Contains-append_right a.right b.right c m)

has_by : (side : Bool) (c : Connector) → HasConnector (if side then record { left = []; right = c ∷ []; cost = pos 0 } else record { left = c ∷ []; right = []; cost = pos 0 }) c
has_by true c = inr (contains_here c [])
has_by false c = inl (contains_here c [])

has_single : (c : Connector) → HasConnector (single c) c
has_single c = has_by c.right c

mutual
  pub leaf_stands : (test : Connector → Bool) (t : Tree) → is_whole test t ≡ true → (right : Bool) (c : Connector) → Contains (leaves right t) c → Stands (choices_of t) c
  leaf_stands test empty h right c m = absurd (contains_none c m)
  leaf_stands test (leaf d) h right c m =
      let same = (leaf_is right d c m).0 in (single d, contains_here (single d) [], subst (λ x. HasConnector (single d) x) same (has_single d))
  leaf_stands test (all_of ts) h right c m = leaf_picked test ts h right c m
  leaf_stands test (one_of no_trees) h right c m = absurd (contains_none c m)
  leaf_stands test (one_of (tree t ts)) h right c m = leaf_stands_any test (tree t ts) h right c m
  leaf_stands test (priced t price) h right c m =
      let (choice, is, has) = leaf_stands test t h right c m in (dearer price choice, map_in (dearer price) (choices_of t) choice is, has)

  leaf_picked : (test : Connector → Bool) (ts : Trees) → are_whole test ts ≡ true → (right : Bool) (c : Connector) → Contains (leaves_in right ts) c → Stands (picks_of ts) c
  leaf_picked test no_trees h right c m = absurd (contains_none c m)
  leaf_picked test (tree t ts) h right c m =
      let (whole, others) = and_parts (is_whole test t) (are_whole test ts) h in
      elim (Contains-append_cases (leaves right t) (leaves_in right ts) c m) [
        | inl here ↦ (
            let (a, first, has) = leaf_stands test t whole right c here in
            let (b, rest) = some_pick test ts others in
            (joined a b, flat_in (λ a. map (joined a) (picks_of ts)) (choices_of t) a (joined a b) first (map_in (joined a) (picks_of ts) b rest), has_first a b c has))
        | inr later ↦ (
            let (a, first) = some_choice test t whole in
            let (b, rest, has) = leaf_picked test ts others right c later in
            (joined a b, flat_in (λ a. map (joined a) (picks_of ts)) (choices_of t) a (joined a b) first (map_in (joined a) (picks_of ts) b rest), has_second a b c has))
      ]

  leaf_stands_any : (test : Connector → Bool) (ts : Trees) → are_whole test ts ≡ true → (right : Bool) (c : Connector) → Contains (leaves_in right ts) c → Stands (choices_of_any ts) c
  leaf_stands_any test no_trees h right c m = absurd (contains_none c m)
  leaf_stands_any test (tree t ts) h right c m =
      let (whole, others) = and_parts (is_whole test t) (are_whole test ts) h in
      elim (Contains-append_cases (leaves right t) (leaves_in right ts) c m) [
        | inl here ↦ (
            let (choice, is, has) = leaf_stands test t whole right c here in
            (choice, Contains-append_left (choices_of t) (choices_of_any ts) choice is, has))
        | inr later ↦ (
            let (choice, is, has) = leaf_stands_any test ts others right c later in
            (choice, Contains-append_right (choices_of t) (choices_of_any ts) choice is, has))
      ]

-- each leaf of a whole formula passes
mutual
  pub leaf_passes : (test : Connector → Bool) (t : Tree) → is_whole test t ≡ true → (right : Bool) (c : Connector) → Contains (leaves right t) c → test c ≡ true
  leaf_passes test empty h right c m = absurd (contains_none c m)
  leaf_passes test (leaf d) h right c m = ap test (sym (leaf_is right d c m).0) ∙ h
  leaf_passes test (all_of ts) h right c m = leaves_pass test ts h right c m
  leaf_passes test (one_of no_trees) h right c m = absurd (contains_none c m)
  leaf_passes test (one_of (tree t ts)) h right c m = leaves_pass test (tree t ts) h right c m
  leaf_passes test (priced t price) h right c m = leaf_passes test t h right c m

  leaves_pass : (test : Connector → Bool) (ts : Trees) → are_whole test ts ≡ true → (right : Bool) (c : Connector) → Contains (leaves_in right ts) c → test c ≡ true
  leaves_pass test no_trees h right c m = absurd (contains_none c m)
  leaves_pass test (tree t ts) h right c m =
      let (whole, others) = and_parts (is_whole test t) (are_whole test ts) h in
      elim (Contains-append_cases (leaves right t) (leaves_in right ts) c m) [
        | inl here ↦ leaf_passes test t whole right c here
        | inr later ↦ leaves_pass test ts others right c later
      ]
