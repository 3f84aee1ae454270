-- The connectors of disjuncts that support themselves support themselves.
use Rattle.std.proofs.Common.{◌≡◌, ℕ, ℤ, pos, ◌<◌, ◌⊎◌, inl, inr, refl, sym, ap, ◌∙◌, subst, Bool, true, false, Some, List, [], ◌∷◌, ◌++◌, length, map, slice_get, Contains, if◌then◌else◌, true≢false, arith}
use Rattle.std.specs.Prelude.{slice_index_or}
use Rattle.std.specs.List.{flat_map}
use Rattle.std.proofs.lemmas.List.Elements.{Contains-append_left, Contains-append_right, Contains-append_cases}
use Rattle.std.proofs.lemmas.Option.{slice_get_within, get_or_from_slice_get}
use Rattle.lg_base.proofs.Elements.{contains_cases, contains_none, contains_here, contains_later, map_in, map_out, flat_in, flat_out}
use Rattle.lg_gram.specs.Connectors.{Connector, Match}
use Rattle.lg_gram.specs.Disjuncts.{choice_of}
use Rattle.lg_gram.specs.Measures.{Choice, no_connectors, single, joined, dearer, choices_of, picks_of, choices_of_any}
use Rattle.lg_gram.specs.Trees.{Tree, Trees, empty, leaf, all_of, one_of, priced, no_trees, tree}
use Rattle.lg_gram.specs.declared.disjunct.Disjunct.{Disjunct}
use Rattle.lg_eprune.specs.Live.{WordTree, HasConnector, SupportsItself, IsLiveChoice, Narrows, nothing, kept, dropped, AreOf}
use Rattle.lg_pprune.specs.Alive.{IsAlive}
use Rattle.lg_pprune.specs.Alive.{KeepsItself}
use Rattle.lg_answer.specs.Alive.{HasWordWith, KeepAlive}

-- the connectors that a choice has on a side
abbrev side_of : Bool → Choice → List Connector
side_of right choice = if right then choice.right else choice.left

only : {X : Type 0} (x y : X) → Contains (x ∷ []) y → x ≡ y
only x y m = elim (contains_cases x [] y m) [ inl same ↦ same | inr later ↦ absurd (contains_none y later) ]

nothing_side : (right : Bool) (c : Connector) → Contains (side_of right no_connectors) c → ⊥
nothing_side true c m = contains_none c m
nothing_side false c m = contains_none c m

single_side : (right side : Bool) (d c : Connector)
    → Contains (side_of right (if side then record { left = []; right = d ∷ []; cost = pos 0 } else record { left = d ∷ []; right = []; cost = pos 0 })) c → (d ≡ c) × (side ≡ right)
single_side true true d c m = (only d c m, refl)
single_side true false d c m = absurd (contains_none c m)
single_side false true d c m = absurd (contains_none c m)
single_side false false d c m = (only d c m, refl)

joined_side : (right : Bool) (a b : Choice) (c : Connector) → Contains (side_of right (joined a b)) c → Contains (side_of right a) c ⊎ Contains (side_of right b) c
joined_side true a b c m = Contains-append_cases a.right b.right c m
joined_side false a b c m = Contains-append_cases a.left b.left c m

dearer_side : (right : Bool) (price : ℤ) (a : Choice) (c : Connector) → Contains (side_of right (dearer price a)) c → Contains (side_of right a) c
dearer_side true price a c m = m
dearer_side false price a c m = m

-- the connectors on a side of a choice are of that direction
mutual
  side_is : (t : Tree) (choice : Choice) → Contains (choices_of t) choice → (right : Bool) (c : Connector) → Contains (side_of right choice) c → c.right ≡ right
  side_is empty choice h right c m = absurd (nothing_side right c (subst (λ x. Contains (side_of right x) c) (sym (only no_connectors choice h)) m))
  side_is (leaf d) choice h right c m =
      let (same, side) = single_side right d.right d c (subst (λ x. Contains (side_of right x) c) (sym (only (single d) choice h)) m) in
      ap (λ x. x.right) (sym same) ∙ side
  side_is (all_of ts) choice h right c m = pick_side ts choice h right c m
  side_is (one_of ts) choice h right c m = any_side ts choice h right c m
  side_is (priced t price) choice h right c m =
      let (inner, inside, is) = map_out (dearer price) (choices_of t) choice h in
      side_is t inner inside right c (dearer_side right price inner c (subst (λ x. Contains (side_of right x) c) (sym is) m))

  pick_side : (ts : Trees) (choice : Choice) → Contains (picks_of ts) choice → (right : Bool) (c : Connector) → Contains (side_of right choice) c → c.right ≡ right
  pick_side no_trees choice h right c m = absurd (nothing_side right c (subst (λ x. Contains (side_of right x) c) (sym (only no_connectors choice h)) m))
  pick_side (tree t ts) choice h right c m =
      let (a, first, more) = flat_out (λ a. map (joined a) (picks_of ts)) (choices_of t) choice h in
      let (b, rest, is) = map_out (joined a) (picks_of ts) choice more in
      elim (joined_side right a b c (subst (λ x. Contains (side_of right x) c) (sym is) m)) [
        | inl here ↦ side_is t a first right c here
        | inr later ↦ pick_side ts b rest right c later
      ]

  any_side : (ts : Trees) (choice : Choice) → Contains (choices_of_any ts) choice → (right : Bool) (c : Connector) → Contains (side_of right choice) c → c.right ≡ right
  any_side no_trees choice h right c m = absurd (contains_none choice h)
  any_side (tree t ts) choice h right c m =
      elim (Contains-append_cases (choices_of t) (choices_of_any ts) choice h) [
        | inl here ↦ side_is t choice here right c m
        | inr later ↦ any_side ts choice later right c m
      ]

on_right : (t : Tree) (choice : Choice) → Contains (choices_of t) choice → (c : Connector) → HasConnector choice c → c.right ≡ true → Contains choice.right c
on_right t choice h c (inr m) is = m
on_right t choice h c (inl m) is = absurd (true≢false (sym is ∙ side_is t choice h false c m))

on_left : (t : Tree) (choice : Choice) → Contains (choices_of t) choice → (c : Connector) → HasConnector choice c → c.right ≡ false → Contains choice.left c
on_left t choice h c (inl m) is = m
on_left t choice h c (inr m) is = absurd (true≢false (sym (side_is t choice h true c m) ∙ is))

contains_at : {X : Type 0} (xs : List X) (k : ℕ) (x : X) → slice_get xs k ≡ Some x → Contains xs x
contains_at xs k x is = (k, slice_get_within xs k x is, get_or_from_slice_get xs k x x is)

-- the connectors of a member, with its position
abbrev connectors_of : ℕ × Disjunct → List (ℕ × Connector)
connectors_of m = map (λ (c : Connector). (m.0, c)) (m.1.left ++ m.1.right)

module _ (words : List (List WordTree)) (positions : List (List Disjunct)) (are : AreOf words positions) (members : List (ℕ × Disjunct)) (support : KeepsItself positions members) where
  abbrev Stands : ℕ → Connector → Type 0
  Stands i c = (d : Disjunct) × Contains members (i, d) × HasConnector (choice_of d) c

  abbrev linked : List (ℕ × Connector)
  linked = flat_map connectors_of members

  used : (d : Disjunct) (c : Connector) → HasConnector (choice_of d) c → Contains (d.left ++ d.right) c
  used d c (inl m) = Contains-append_left d.left d.right c m
  used d c (inr m) = Contains-append_right d.left d.right c m

  linked_in : (i : ℕ) (c : Connector) → Stands i c → Contains linked (i, c)
  linked_in i c (d, here, has) = flat_in connectors_of members (i, d) (i, c) here (map_in (λ (x : Connector). (i, x)) (d.left ++ d.right) c (used d c has))

  linked_out : (i : ℕ) (c : Connector) → Contains linked (i, c) → Stands i c
  linked_out i c h =
      let (m, here, inside) = flat_out connectors_of members (i, c) h in
      let (e, has, same) = map_out (λ (x : Connector). (m.0, x)) (m.1.left ++ m.1.right) (i, c) inside in (
        m.1,
        subst (λ k. Contains members (k, m.1)) (ap (λ p. p.0) same) here,
        subst (HasConnector (choice_of m.1)) (ap (λ p. p.1) same) (Contains-append_cases m.1.left m.1.right e has),
      )

  right_partner : (i : ℕ) (c : Connector) → Contains linked (i, c) → c.right ≡ true
      → (j : ℕ) × (e : Connector) × Contains linked (j, e) × (i < j) × Match c e
  right_partner i c h side =
      let (d, here, has) = linked_out i c h in
      let choice = are i d (support.listed i d here) in
      let (p, within, read) = on_right choice.word.tree (choice_of d) choice.chosen c has side in
      let (j, b, q, there, partners) = support.right i d p here within in
      let (x, y, at_x, at_y, match) = partners.match_at in
      let between = partners.between in
      let same : x ≡ c = sym (get_or_from_slice_get d.right p x c at_x) ∙ read in
      (j, y, linked_in j y (b, there, inl (contains_at b.left q y at_y)), omega arith, subst (λ z. Match z y) same match)

  left_partner : (j : ℕ) (c : Connector) → Contains linked (j, c) → c.right ≡ false
      → (i : ℕ) × (e : Connector) × Contains linked (i, e) × (i < j) × Match e c
  left_partner j c h side =
      let (d, here, has) = linked_out j c h in
      let choice = are j d (support.listed j d here) in
      let (q, within, read) = on_left choice.word.tree (choice_of d) choice.chosen c has side in
      let (i, a, p, there, partners) = support.left j d q here within in
      let (x, y, at_x, at_y, match) = partners.match_at in
      let between = partners.between in
      let same : y ≡ c = sym (get_or_from_slice_get d.left q y c at_y) ∙ read in
      (i, x, linked_in i x (a, there, inr (contains_at a.right p x at_x)), omega arith, subst (λ z. Match x z) same match)

  links_support : SupportsItself words linked
  links_support = record {
    right = right_partner;
    left = left_partner;
    used = λ i c h. (
        let (d, here, has) = linked_out i c h in
        (choice_of d, are i d (support.listed i d here), has, λ e m. linked_in i e (d, here, m)));
  }

  live_member : (i : ℕ) (d : Disjunct) → Contains members (i, d) → IsLiveChoice words i (choice_of d)
  live_member i d here = λ c has. (linked, links_support, linked_in i c (d, here, has))

-- a word keeps its live choices when the words are narrowed
narrows_keep : (words : List (List WordTree)) (i : ℕ) (olds news : List WordTree) → Narrows words i olds news → (text : List ℕ) (choice : Choice) → IsLiveChoice words i choice
    → HasWordWith olds text choice → HasWordWith news text choice
narrows_keep words i _ _ nothing text choice live (w, here, is, has) = absurd (contains_none w here)
narrows_keep words i _ _ (kept old new olds news named keeps some chosen rest) text choice live (w, here, is, has) =
    elim (contains_cases old olds w here) [
      | inl same ↦ (
        new,
        contains_here new news,
        named ∙ ap (λ (z : WordTree). z.word) same ∙ is,
        (keeps choice).1 (subst (λ (z : WordTree). Contains (choices_of z.tree) choice) (sym same) has, live),
      )
      | inr others ↦ (
          let r = narrows_keep words i olds news rest text choice live (w, others, is, has) in
          (r.0, contains_later new news r.0 r.1, r.2, r.3))
    ]
narrows_keep words i _ _ (dropped old olds news gone rest) text choice live (w, here, is, has) =
    elim (contains_cases old olds w here) [
      | inl same ↦ absurd (gone choice (subst (λ (z : WordTree). Contains (choices_of z.tree) choice) (sym same) has) live)
      | inr others ↦ narrows_keep words i olds news rest text choice live (w, others, is, has)
    ]

module _ (words : List (List WordTree)) (positions : List (List Disjunct)) (are : AreOf words positions) where
  alive_live : (i : ℕ) (d : Disjunct) → IsAlive positions i d → IsLiveChoice words i (choice_of d)
  alive_live i d (members, support, here) = live_member words positions are members support i d here

  within_words : (i : ℕ) (d : Disjunct) → IsAlive positions i d → i < length words
  within_words i d (members, support, here) = let choice = are i d (support.listed i d here) in slice_get_within words i choice.words choice.here

  pub keep_alive : KeepAlive words positions
  keep_alive = record {
    live = alive_live;
    kept = λ pruned narrow i d alive text has.
        narrows_keep words i (slice_index_or words i []) (slice_index_or pruned i []) (narrow.each i (within_words i d alive)) text (choice_of d) (alive_live i d alive) has;
  }
