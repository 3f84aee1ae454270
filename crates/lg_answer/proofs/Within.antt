-- A problem of the choices within reach has the good linkages of the problem of all.
use Rattle.std.proofs.Common.{◌≡◌, ◌≢◌, ◌⊎◌, ◌↔◌, ℕ, zero, suc, ◌<◌, ◌≤◌, ℤ, ◌≤ℤ◌, Option, None, Some, List, [], ◌∷◌, length, map, set, Contains, inl, inr, refl, sym, ap, ◌∙◌, subst, arith, IsSome}
use Rattle.std.specs.Prelude.{slice_index_or, cond, is_none}
use Rattle.std.specs.List.{AllZip, sum_by}
use Rattle.std.specs.List.Sorted.{IsStrictlySortedBy}
use Rattle.std.specs.Cmp.Lexicographic.{pointwise}
use Rattle.std.specs.Int.Signed.{≤ℤ_refl}
use Rattle.std.proofs.lemmas.Bool.{cases_Bool, cases_lt, cases_eq}
use Rattle.std.proofs.lemmas.Cmp.{tied_itself}
use Rattle.std.proofs.lemmas.Int.{ints, by_lt_z}
use Rattle.std.proofs.lemmas.List.{get_or_past, get_or-set_same, get_or-set_other, length-map, length-set}
use Rattle.std.proofs.lemmas.List.Sums.{sum_by-set}
use Rattle.std.proofs.lemmas.Option.{slice_get-get_or}
use Rattle.std.proofs.lemmas.Slice.Zip.{AllZip-long}
use Rattle.lg_base.proofs.Elements.{contains_here, contains_later, contains_cases, contains_none}
use Rattle.lg_gram.proofs.Orders.{disjuncts_total}
use Rattle.lg_gram.specs.Connectors.{Connector, connector_eq}
use Rattle.lg_gram.specs.Disjuncts.{choice_of, disjunct_cmp, IsDisjunctOf}
use Rattle.lg_gram.specs.Limits.{DISJUNCTS, POSITIONS}
use Rattle.lg_gram.specs.Linkages.{Linkage, link_cmp, unlinked}
use Rattle.lg_gram.specs.Measures.{Choice, choices_of}
use Rattle.lg_gram.specs.Problems.{IsProblem}
use Rattle.lg_gram.specs.Rules.{Good, HasLink, IsConnected, IsLinked, Rules, chosen_at, left_list, lefts_of, right_list, rights_of}
use Rattle.lg_gram.specs.Walks.{LinkFrom}
use Rattle.lg_gram.specs.declared.disjunct.Disjunct.{Disjunct}
use Rattle.lg_eprune.specs.Live.{WordTree}
use Rattle.lg_reach.specs.Ends.{IsLinkageOf, Uses}
use Rattle.lg_reach.specs.Reach.{HaveFewer, HaveUsed, Narrows, nothing, kept, dropped, Never}
use Rattle.lg_answer.proofs.AllDisjuncts.{all_length, all_members, equal_lists}
use Rattle.lg_answer.proofs.Few.{made_positions}
use Rattle.lg_answer.proofs.Lists.{zip_each}
use Rattle.lg_answer.proofs.Made.{are_expanded, expanded_none, listed_none, one_in_rising}
use Rattle.lg_answer.proofs.Narrowed.{inside, are_of}
use Rattle.lg_answer.specs.Steps.{AreExpanded, AreListedOf, AreMade, IsOfTrees, IsWithin}
use Rattle.lg_sharpen.specs.Sharp.{IsSharpened}
use Rattle.lg_answer.specs.Wide.{IsAsGood, KeepsFew, all_disjuncts}

-- ---- what is left of the words of a position

module _ (Used : Choice → Type 0) where
  -- what is left of a word has some of its choices
  fewer_in : (olds news : List WordTree) → Narrows Used olds news → (v : WordTree) → Contains news v
      → (w : WordTree) × Contains olds w × (v.word ≡ w.word) × ((c : Choice) → Contains (choices_of v.tree) c → Contains (choices_of w.tree) c)
  fewer_in _ _ nothing v h = absurd (contains_none v h)
  fewer_in _ _ (kept old new olds news named fewer used rest) v h =
      elim (contains_cases new news v h) [
        | inl same ↦ (old, contains_here old olds, ap (λ (z : WordTree). z.word) (sym same) ∙ named, λ c m. fewer c (subst (λ (z : WordTree). Contains (choices_of z.tree) c) (sym same) m))
        | inr others ↦ (let r = fewer_in olds news rest v others in (r.0, contains_later old olds r.0 r.1, r.2, r.3))
      ]
  fewer_in _ _ (dropped old olds news gone rest) v h = let r = fewer_in olds news rest v h in (r.0, contains_later old olds r.0 r.1, r.2, r.3)

  -- a word with a choice that is used is left with it
  used_out : (olds news : List WordTree) → Narrows Used olds news → (w : WordTree) → Contains olds w → (c : Choice) → Contains (choices_of w.tree) c → Used c
      → (v : WordTree) × Contains news v × (v.word ≡ w.word) × Contains (choices_of v.tree) c × ((e : Choice) → Contains (choices_of v.tree) e → Contains (choices_of w.tree) e)
  used_out _ _ nothing w h c chosen is = absurd (contains_none w h)
  used_out _ _ (kept old new olds news named fewer used rest) w h c chosen is =
      elim (contains_cases old olds w h) [
        | inl same ↦ (
          new,
          contains_here new news,
          named ∙ ap (λ (z : WordTree). z.word) same,
          used c (subst (λ (z : WordTree). Contains (choices_of z.tree) c) (sym same) chosen) is,
          λ e m. subst (λ (z : WordTree). Contains (choices_of z.tree) e) same (fewer e m),
        )
        | inr others ↦ (let r = used_out olds news rest w others c chosen is in (r.0, contains_later new news r.0 r.1, r.2, r.3, r.4))
      ]
  used_out _ _ (dropped old olds news gone rest) w h c chosen is =
      elim (contains_cases old olds w h) [
        | inl same ↦ absurd (gone c (subst (λ (z : WordTree). Contains (choices_of z.tree) c) (sym same) chosen) is)
        | inr others ↦ used_out olds news rest w others c chosen is
      ]

  -- so a disjunct whose choice is used is left
  used_disjunct : (olds news : List WordTree) → Narrows Used olds news → (d : Disjunct) → IsOfTrees olds d → Used (choice_of d) → IsOfTrees news d
  used_disjunct olds news narrow d of is =
      let r = used_out olds news narrow of.0 of.1 (choice_of d) of.2.chosen is in
      (r.0, r.1, record { named = of.2.named ∙ sym r.2; chosen = r.3; least = λ c chosen left right. of.2.least c (r.4 c chosen) left right })

-- ---- the least cost of two lists

-- the least cost of the choices of these two lists, or this one where none of them costs less
record LeastFrom (left right : List Connector) (cs : List Choice) (from : ℤ) : Type 0 where
  cost : ℤ
  comes : (cost ≡ from) ⊎ Contains cs (record { left = left; right = right; cost = cost })
  least : (c : Choice) → Contains cs c → c.left ≡ left → c.right ≡ right → cost ≤ℤ c.cost

list_cases : (xs ys : List Connector) → (xs ≡ ys) ⊎ (xs ≢ ys)
list_cases xs ys = elim (cases_Bool (pointwise connector_eq xs ys)) [
  | inl same ↦ inl ((equal_lists xs ys).0 same)
  | inr other ↦ inr (λ is. let same = (equal_lists xs ys).1 is in cc)
]

module _ (left right : List Connector) (c : Choice) (cs : List Choice) (from : ℤ) (rest : LeastFrom left right cs from) where
  -- one choice more, of the same lists only if it is no cheaper
  least_as : (c.left ≡ left → c.right ≡ right → rest.cost ≤ℤ c.cost) → LeastFrom left right (c ∷ cs) from
  least_as dear = record {
    cost = rest.cost;
    comes = elim rest.comes [ inl is ↦ inl is | inr m ↦ inr (contains_later c cs (record { left = left; right = right; cost = rest.cost }) m) ];
    least = λ e m same_left same_right. elim (contains_cases c cs e m) [
      | inl is ↦ subst (λ (z : Choice). rest.cost ≤ℤ z.cost) is (dear (ap (λ (z : Choice). z.left) is ∙ same_left) (ap (λ (z : Choice). z.right) is ∙ same_right))
      | inr later ↦ rest.least e later same_left same_right
    ];
  }

  -- one that is cheaper
  least_now : c.left ≡ left → c.right ≡ right → c.cost ≤ℤ rest.cost → LeastFrom left right (c ∷ cs) from
  least_now same_left same_right cheap = record {
    cost = c.cost;
    comes = inr (subst (Contains (c ∷ cs)) (λ i. record { left = same_left i; right = same_right i; cost = c.cost }) (contains_here c cs));
    least = λ e m e_left e_right. elim (contains_cases c cs e m) [
      | inl is ↦ subst (λ (z : Choice). c.cost ≤ℤ z.cost) is (≤ℤ_refl c.cost)
      | inr later ↦ (let more = rest.least e later e_left e_right in omega (arith, ints))
    ];
  }

  least_more : LeastFrom left right (c ∷ cs) from
  least_more = elim (list_cases c.left left) [
    | inl same_left ↦ elim (list_cases c.right right) [
      | inl same_right ↦ by_lt_z c.cost rest.cost (λ less. least_now same_left same_right (omega (arith, ints))) (λ more. least_as (λ l r. more))
      | inr other ↦ least_as (λ l r. absurd (other r))
    ]
    | inr other ↦ least_as (λ l r. absurd (other l))
  ]

least_cost : (left right : List Connector) (cs : List Choice) (from : ℤ) → LeastFrom left right cs from
least_cost left right [] from = record { cost = from; comes = inl refl; least = λ c m l r. absurd (contains_none c m) }
least_cost left right (c ∷ cs) from = least_more left right c cs from (least_cost left right cs from)

-- where a word has a choice, it has a disjunct of its lists
cheapest : (w : WordTree) (d : Disjunct) → d.word ≡ w.word → Contains (choices_of w.tree) (choice_of d)
    → (cost : ℤ) × IsDisjunctOf w.word w.tree (record { word = d.word; left = d.left; right = d.right; cost = cost })
cheapest w d named chosen =
    let found = least_cost d.left d.right (choices_of w.tree) d.cost in (
      found.cost,
      record {
        named = named;
        chosen = elim found.comes [
          | inl is ↦ subst (λ z. Contains (choices_of w.tree) (record { left = d.left; right = d.right; cost = z })) (sym is) chosen
          | inr m ↦ m
        ];
        least = found.least;
      },
    )

-- ---- linkages of words

-- what a position uses, as a list
abbrev one_of : Option Disjunct → List Disjunct
one_of None = []
one_of (Some d) = d ∷ []

one_in : (o : Option Disjunct) (d : Disjunct) → Contains (one_of o) d → o ≡ Some d
one_in None d m = absurd (contains_none d m)
one_in (Some x) d m = elim (contains_cases x [] d m) [ inl is ↦ ap (λ z. Some z) is | inr none ↦ absurd (contains_none d none) ]

one_at : (chosen : List (Option Disjunct)) (i : ℕ) → slice_index_or (map one_of chosen) i [] ≡ one_of (slice_index_or chosen i None)
one_at [] i = refl
one_at (o ∷ chosen) zero = refl
one_at (o ∷ chosen) (suc i) = one_at chosen i

-- a choice of one of these words
abbrev HasChoice : List WordTree → Disjunct → Type 0
HasChoice ws d = (w : WordTree) × Contains ws w × Contains (choices_of w.tree) (choice_of d)

-- a linkage that keeps the rules and uses choices of these words is a linkage of theirs
linkage_of : (words : List (List WordTree)) (g : Linkage) → length g.chosen ≡ length words → IsStrictlySortedBy link_cmp g.links → Rules (rights_of g) (lefts_of g) (HasLink g)
    → IsConnected (IsLinked g) (LinkFrom (HasLink g)) → ((i : ℕ) (d : Disjunct) → chosen_at g i ≡ Some d → HasChoice (slice_index_or words i []) d) → IsLinkageOf words g
linkage_of words g long rise rules connected has = record {
  positions = map one_of g.chosen;
  of = λ i d m.
      let at = one_in (chosen_at g i) d (subst (λ l. Contains l d) (one_at g.chosen i) m) in
      let (w, listed, chosen) = has i d at in
      record { words = slice_index_or words i []; word = w; here = slice_get-get_or words i [] (inside words i w listed); listed = listed; chosen = chosen };
  same_length = length-map g.chosen one_of ∙ long;
  good = record {
    belongs = record {
      same_length = sym (length-map g.chosen one_of);
      listed = λ i d at. subst (λ l. Contains l d) (sym (one_at g.chosen i ∙ ap one_of at)) (contains_here d []);
      set = rise;
    };
    rules = rules;
    connected = connected;
  };
}

-- ---- another disjunct of the same lists at a position

module _ (g : Linkage) (i : ℕ) (d e : Disjunct) (at : chosen_at g i ≡ Some d) (same_left : e.left ≡ d.left) (same_right : e.right ≡ d.right) where
  abbrev changed : Linkage
  changed = record { chosen = set g.chosen i (Some e); links = g.links }

  linked_within : i < length g.chosen
  linked_within = elim (cases_lt i (length g.chosen)) [
    | inl low ↦ low
    | inr past ↦ (let none = get_or_past g.chosen i None past in let no : ⊥ = cc in absurd no)
  ]

  at_changed : chosen_at changed i ≡ Some e
  at_changed = get_or-set_same g.chosen i (Some e) None linked_within

  changed_cases : (j : ℕ) → (j ≡ i) ⊎ (chosen_at changed j ≡ chosen_at g j)
  changed_cases j = elim (cases_eq j i) [
    | inl is ↦ inl is
    | inr other ↦ inr (get_or-set_other g.chosen i j (Some e) None other)
  ]

  -- whatever does not tell the two apart does not tell the linkages apart
  same_at : {X : Type 0} (f : Option Disjunct → X) → f (Some e) ≡ f (Some d) → (j : ℕ) → f (chosen_at g j) ≡ f (chosen_at changed j)
  same_at f same j = elim (changed_cases j) [
    | inl is ↦ subst (λ k. f (chosen_at g k) ≡ f (chosen_at changed k)) (sym is) (ap f at ∙ sym same ∙ ap f (sym at_changed))
    | inr other ↦ ap f (sym other)
  ]

  changed_rules : Rules (rights_of g) (lefts_of g) (HasLink g) → Rules (rights_of changed) (lefts_of changed) (HasLink changed)
  changed_rules rules =
      subst (λ (p : (ℕ → List Connector) × (ℕ → List Connector)). Rules p.0 p.1 (HasLink g))
      (λ k. (λ j. same_at right_list same_right j k, λ j. same_at left_list same_left j k)) rules

  changed_linked : (j : ℕ) → IsLinked changed j → IsLinked g j
  changed_linked j linked = elim (changed_cases j) [
    | inl is ↦ subst (λ k. IsSome (chosen_at g k)) (sym is) (subst IsSome (sym at) refl)
    | inr other ↦ subst IsSome other linked
  ]

  changed_choices : (words : List (List WordTree)) → ((j : ℕ) (x : Disjunct) → chosen_at g j ≡ Some x → HasChoice (slice_index_or words j []) x)
      → HasChoice (slice_index_or words i []) e → (j : ℕ) (x : Disjunct) → chosen_at changed j ≡ Some x → HasChoice (slice_index_or words j []) x
  changed_choices words has here j x is = elim (changed_cases j) [
    | inl same ↦
        let one : e ≡ x = (let h = subst (λ k. chosen_at changed k ≡ Some x) same is in let first = at_changed in cc) in
        subst (λ k. HasChoice (slice_index_or words k []) x) (sym same) (subst (HasChoice (slice_index_or words i [])) one here)
    | inr other ↦ has j x (sym other ∙ is)
  ]

-- 1 where nothing is used
abbrev unlinked_at : Option Disjunct → ℕ
unlinked_at o = cond (is_none o) 1 0

-- another disjunct in the place of one leaves as many words unlinked
changed_unlinked : (g : Linkage) (i : ℕ) (d e : Disjunct) → chosen_at g i ≡ Some d → unlinked (record { chosen = set g.chosen i (Some e); links = g.links }) ≡ unlinked g
changed_unlinked g i d e at =
    let sums = sum_by-set unlinked_at g.chosen i (Some e) None (linked_within g i d d at refl refl) in
    let linked = ap unlinked_at at in
    omega (arith, sums, linked)

-- ---- the linkages of what is left

module _ (live near : List (List WordTree)) (nulls : ℕ) (fewer : HaveFewer live near) (used : (g : Linkage) → IsLinkageOf live g → unlinked g ≤ nulls → HaveUsed g live near)
    (left : List (List Disjunct)) (exactly : (i : ℕ) (d : Disjunct) → Contains (slice_index_or left i []) d ↔ IsOfTrees (slice_index_or near i []) d)
    (rise : (i : ℕ) → IsStrictlySortedBy disjunct_cmp (slice_index_or left i [])) (long : length left ≡ length near) where
  -- a disjunct of a linkage of these words is left
  stays : (g : Linkage) → IsLinkageOf live g → unlinked g ≤ nulls → (i : ℕ) (d : Disjunct) → chosen_at g i ≡ Some d → IsOfTrees (slice_index_or live i []) d → Contains (slice_index_or left i []) d
  stays g is few i d at of =
      (exactly i d).1 (used_disjunct (Uses g i) (slice_index_or live i []) (slice_index_or near i []) (used g is few i) d of (d, at, refl))

  -- a disjunct that is left is a choice of these words
  was_choice : (i : ℕ) (d : Disjunct) → Contains (slice_index_or left i []) d
      → (w : WordTree) × Contains (slice_index_or live i []) w × (d.word ≡ w.word) × Contains (choices_of w.tree) (choice_of d)
  was_choice i d m =
      let of = (exactly i d).0 m in
      let r = fewer_in Never (slice_index_or live i []) (slice_index_or near i []) (fewer.each i) of.0 of.1 in
      (r.0, r.1, of.2.named ∙ r.2, r.3 (choice_of d) of.2.chosen)

  -- and in a good linkage it is the cheapest of its lists, as the linkage is as good with the cheapest in its place
  was_disjunct : (g : Linkage) → Good left g → unlinked g ≤ nulls → (i : ℕ) (d : Disjunct) → chosen_at g i ≡ Some d → IsOfTrees (slice_index_or live i []) d
  was_disjunct g good few i d at =
      let m = good.belongs.listed i d at in
      let (w, listed, named, chosen) = was_choice i d m in
      let (cost, is) = cheapest w d named chosen in
      let e : Disjunct = record { word = d.word; left = d.left; right = d.right; cost = cost } in
      let all : (j : ℕ) (x : Disjunct) → chosen_at g j ≡ Some x → HasChoice (slice_index_or live j []) x = λ j x here. (let r = was_choice j x (good.belongs.listed j x here) in (r.0, r.1, r.3)) in
      let other = linkage_of live (changed g i d e at refl refl) (length-set g.chosen i (Some e) ∙ good.belongs.same_length ∙ long ∙ fewer.same_length) good.belongs.set
      (changed_rules g i d e at refl refl good.rules)
      (λ j k from to. good.connected j k (changed_linked g i d e at refl refl j from) (changed_linked g i d e at refl refl k to))
      (changed_choices g i d e at refl refl live all (w, listed, is.chosen)) in
      let also = stays (changed g i d e at refl refl) other (subst (λ n. n ≤ nulls) (sym (changed_unlinked g i d e at)) few) i e (at_changed g i d e at refl refl) (w, listed, is) in
      let same : d ≡ e = one_in_rising (slice_index_or left i []) (rise i) d e m also (tied_itself disjuncts_total d) in
      subst (IsOfTrees (slice_index_or live i [])) (sym same) (w, listed, is)

-- ---- the linkages of the words

module _ (words : List (List WordTree)) (nulls : ℕ) (left : List (List Disjunct)) (within : IsWithin words nulls left) where
  at_left : (i : ℕ) (d : Disjunct) → Contains (slice_index_or left i []) d ↔ IsOfTrees (slice_index_or within.kept i []) d
  at_left i = (zip_each AreListedOf listed_none within.kept left within.listed i).exactly

  left_rise : (i : ℕ) → IsStrictlySortedBy disjunct_cmp (slice_index_or left i [])
  left_rise i = elim (cases_lt i (length left)) [
    | inl low ↦ (within.limits.each i [] low).rise
    | inr past ↦ subst (IsStrictlySortedBy disjunct_cmp) (sym (get_or_past left i [] past)) expanded_none.rise
  ]

  left_long : length left ≡ length within.kept
  left_long = AllZip-long AreListedOf within.kept left within.listed

  same_long : length left ≡ length (all_disjuncts words)
  same_long = left_long ∙ within.fewer.same_length ∙ sym (all_length words)

  words_linkage : (g : Linkage) → Good (all_disjuncts words) g → IsLinkageOf words g
  words_linkage g good = record { positions = all_disjuncts words; of = are_of words (all_disjuncts words) (all_members words); same_length = all_length words; good = good }

  -- the problem of what is left has those linkages of all choices that leave so few words unlinked
  pub reach_keeps_linkages : KeepsFew (all_disjuncts words) nulls left
  reach_keeps_linkages = record {
    same_length = same_long;
    same = λ g few. (
      λ good. record {
        belongs = record {
          same_length = good.belongs.same_length ∙ sym same_long;
          listed = λ i d at.
              stays words within.kept nulls within.fewer within.used left at_left left_rise left_long g (words_linkage g good) few i d at ((all_members words i d).0 (good.belongs.listed i d at));
          set = good.belongs.set;
        };
        rules = good.rules;
        connected = good.connected;
      },
      λ good. record {
        belongs = record {
          same_length = good.belongs.same_length ∙ same_long;
          listed = λ i d at. (all_members words i d).1 (was_disjunct words within.kept nulls within.fewer within.used left at_left left_rise left_long g good few i d at);
          set = good.belongs.set;
        };
        rules = good.rules;
        connected = good.connected;
      },
    );
  }

-- what is made of all choices has all their linkages
pub made_keeps_linkages : (words : List (List WordTree)) (nulls : ℕ) (positions : List (List Disjunct)) → AllZip AreMade words positions → KeepsFew (all_disjuncts words) nulls positions
made_keeps_linkages words nulls positions made =
    let long : length positions ≡ length (all_disjuncts words) = AllZip-long AreMade words positions made ∙ sym (all_length words) in
    let same : (i : ℕ) (d : Disjunct) → Contains (slice_index_or positions i []) d ↔ IsOfTrees (slice_index_or words i []) d =
    (λ i. (zip_each AreExpanded expanded_none words positions (are_expanded words positions made) i).exactly) in
    record {
      same_length = long;
      same = λ g few. (
        λ good. record {
          belongs = record {
            same_length = good.belongs.same_length ∙ sym long;
            listed = λ i d at. (same i d).1 ((all_members words i d).0 (good.belongs.listed i d at));
            set = good.belongs.set;
          };
          rules = good.rules;
          connected = good.connected;
        },
        λ good. record {
          belongs = record {
            same_length = good.belongs.same_length ∙ long;
            listed = λ i d at. (all_members words i d).1 ((same i d).0 (good.belongs.listed i d at));
            set = good.belongs.set;
          };
          rules = good.rules;
          connected = good.connected;
        },
      );
    }

-- and so it is as good
pub made_as_good : (words : List (List WordTree)) (positions : List (List Disjunct)) → AllZip AreMade words positions → IsAsGood (all_disjuncts words) positions
made_as_good words positions made = record {
  same_length = (made_keeps_linkages words 0 positions made).same_length;
  keeps = λ g. (made_keeps_linkages words (unlinked g) positions made).same g (omega arith);
}

-- ---- the problem of what is within reach

made_listed : (ws : List (List WordTree)) (ds : List (List Disjunct)) → AllZip AreMade ws ds → AllZip AreListedOf ws ds
made_listed [] [] all = tt
made_listed [] (e ∷ ds) all = absurd all
made_listed (w ∷ ws) [] all = absurd all
made_listed (w ∷ ws) (e ∷ ds) all = (record { exactly = all.0.expanded.exactly; fit = all.0.fit }, made_listed ws ds all.1)

-- what is made of words is a problem where it keeps the limits
pub near_problem : (near : List (List WordTree)) (positions : List (List Disjunct)) → length near ≤ POSITIONS → AllZip AreMade near positions → sum_by length positions ≤ DISJUNCTS
    → IsProblem positions
near_problem near positions few made few_disjuncts =
    record { few = (let long = AllZip-long AreMade near positions made in omega (arith, long, few)); few_disjuncts = few_disjuncts; each = made_positions near positions made }

-- and it is one within reach
pub within_made : (live near : List (List WordTree)) (nulls : ℕ) → HaveFewer live near → ((g : Linkage) → IsLinkageOf live g → unlinked g ≤ nulls → HaveUsed g live near)
    → (positions : List (List Disjunct)) → AllZip AreMade near positions → IsProblem positions → IsWithin live nulls positions
within_made live near nulls fewer used positions made limits = record { kept = near; fewer = fewer; used = used; listed = made_listed near positions made; limits = limits }

-- and so is a sharper one
pub sharpened_keeps : (positions left sharp : List (List Disjunct)) (nulls : ℕ) → KeepsFew positions nulls left → IsSharpened left nulls sharp → KeepsFew positions nulls sharp
sharpened_keeps positions left sharp nulls keeps sharpened = record {
  same_length = sharpened.same_length ∙ keeps.same_length;
  same = λ g few. (λ good. (sharpened.same g few).0 ((keeps.same g few).0 good), λ good. (keeps.same g few).1 ((sharpened.same g few).1 good));
}
