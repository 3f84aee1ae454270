-- The disjuncts of words with their formulas, in order and each once.
use Rattle.std.proofs.Common.{◌≡◌, ◌⊎◌, ◌↔◌, ℕ, ◌+◌, ◌<◌, List, [], ◌∷◌, ◌++◌, append-nil, length, get_or, take, Contains, All, arith, inl, inr, refl, sym, ap, ◌∙◌, subst, true, is_eq, Less, Equal, Greater}
use Rattle.std.specs.declared.cmp.Ordering.{Ordering}
use Rattle.std.specs.Cmp.Lexicographic.{slice_cmp}
use Rattle.std.specs.Ordering.{nat_cmp, ordering_reverse, ordering_then, eq_by_cmp}
use Rattle.std.specs.List.{AllZip, dedup}
use Rattle.std.specs.List.Sorted.{IsSorted, IsPermutation, IsStrictlySortedBy}
use Rattle.std.proofs.lemmas.Cmp.{eq_by_cmp_equiv}
use Rattle.std.proofs.lemmas.List.{take_more, get_or-take, get_or_default, length-take-le}
use Rattle.std.proofs.lemmas.List.Concat.{flat_map-append}
use Rattle.std.proofs.lemmas.List.Elements.{All-nil, All-append, All-head, All-tail, All-contains, All-contains_itself, All-weaker, recursion_from_All, Contains-append_left, Contains-append_right, Contains-append_cases}
use Rattle.std.proofs.lemmas.List.Kept.{Any-dedup, Contains-from_dedup, IsStrictlySortedBy-dedup}
use Rattle.std.proofs.lemmas.List.Sorted.{Contains-permutation, IsPermutation-sym}
use Rattle.std.proofs.lemmas.Map.Keys.{Less-from_sorted, sorted_tail}
use Rattle.std.proofs.lemmas.Map.Views.{All-after_first}
use Rattle.lg_base.proofs.Elements.{contains_here, contains_later, contains_cases, contains_none}
use Rattle.lg_gram.specs.Connectors.{connector_cmp}
use Rattle.lg_gram.specs.Problems.{FitsProblem}
use Rattle.lg_gram.specs.Disjuncts.{disjunct_cmp, AreDisjuncts, IsDisjunctOf}
use Rattle.lg_gram.specs.declared.disjunct.Disjunct.{Disjunct}
use Rattle.lg_gram.proofs.Exact.{Less≢Equal}
use Rattle.lg_gram.proofs.Orders.{disjuncts_total}
use Rattle.lg_pp.proofs.Rising.{rise_append}
use Rattle.lg_disj.specs.Outlines.{Outlined, all_in, disjuncts_in}
use Rattle.lg_disj.specs.Exist.{HasNames, ExpressionsHaveDisjuncts}
use Rattle.lg_eprune.specs.Live.{WordTree}
use Rattle.lg_answer.specs.Steps.{AreNamed, IsOfTrees, AreApart, AreToldApart, AreListedOf, AreExpanded, AreMade, word_cmp}

-- ---- one word after another

pub listed_none : AreListedOf [] []
listed_none = record { exactly = λ d. (λ h. absurd (contains_none d h), λ h. absurd (contains_none h.0 h.1)); fit = All-nil FitsProblem }

-- disjuncts of some words, and of one word more
listed_more : (ws : List WordTree) (w : WordTree) (ds es : List Disjunct) → ((d : Disjunct) → Contains ds d ↔ IsOfTrees ws d) → AreDisjuncts w.word w.tree es
    → (d : Disjunct) → Contains (ds ++ es) d ↔ IsOfTrees (ws ++ w ∷ []) d
listed_more ws w ds es old one d = (
  λ h. elim (Contains-append_cases ds es d h) [
    | inl m ↦ (let of = (old d).0 m in (of.0, Contains-append_left ws (w ∷ []) of.0 of.1, of.2))
    | inr m ↦ (w, Contains-append_right ws (w ∷ []) w (contains_here w []), (one.exactly d).0 m)
  ],
  λ h. elim (Contains-append_cases ws (w ∷ []) h.0 h.1) [
    | inl m ↦ Contains-append_left ds es d ((old d).1 (h.0, m, h.2))
    | inr m ↦ elim (contains_cases w [] h.0 m) [
      | inl same ↦ Contains-append_right ds es d ((one.exactly d).1 (subst (λ (v : WordTree). IsDisjunctOf v.word v.tree d) (sym same) h.2))
      | inr none ↦ absurd (contains_none h.0 none)
    ]
  ],
)

listed_step : (all : List WordTree) (i : ℕ) (w : WordTree) (done es : List Disjunct) → i < length all → w ≡ get_or all i w → AreDisjuncts w.word w.tree es → All FitsProblem es
    → AreListedOf (take i all) done → AreListedOf (take (i + 1) all) (done ++ es)
listed_step all i w done es within read one fit before =
    let longer : take (i + 1) all ≡ take i all ++ w ∷ [] = take_more all i w within ∙ ap (λ v. take i all ++ v ∷ []) (sym read) in
    rw longer (record {
      exactly = listed_more (take i all) w done es before.exactly one;
      fit = All-append FitsProblem done es before.fit fit;
    })

-- ---- words that increase

before_next : (all : List WordTree) (i : ℕ) (w v : WordTree) → i < length all → w ≡ get_or all i w → IsStrictlySortedBy word_cmp all → Contains (take i all) v → slice_cmp nat_cmp v.word w.word ≡ Less
before_next all i w v within read rise m =
    let short : m.0 < i = let l = length-take-le i all in let h = m.1 in omega arith in
    let at : get_or all m.0 w ≡ v = get_or_default all m.0 w v (omega arith) ∙ sym (get_or-take i all m.0 v short) ∙ m.2 in
    let here : get_or all i w ≡ w = sym read in
    sym (λ j. slice_cmp nat_cmp (at j).word (here j).word) ∙ Less-from_sorted word_cmp all m.0 i w rise short within

by_words : (x y : Disjunct) (v w : WordTree) → slice_cmp nat_cmp v.word w.word ≡ Less → x.word ≡ v.word → y.word ≡ w.word → disjunct_cmp x y ≡ Less
by_words x y v w less xv yw =
    let words : slice_cmp nat_cmp x.word y.word ≡ Less = (λ j. slice_cmp nat_cmp (xv j) (yw j)) ∙ less in
    ap (λ o. ordering_then o (ordering_then (slice_cmp connector_cmp x.left y.left) (slice_cmp connector_cmp x.right y.right))) words

-- the disjuncts of earlier words come before those of the next
listed_rise : (all : List WordTree) (i : ℕ) (w : WordTree) (done es : List Disjunct) → i < length all → w ≡ get_or all i w → AreDisjuncts w.word w.tree es → AreListedOf (take i all) done
    → IsStrictlySortedBy word_cmp all → IsStrictlySortedBy disjunct_cmp done → IsStrictlySortedBy disjunct_cmp (done ++ es)
listed_rise all i w done es within read one before up rise =
    rise_append disjunct_cmp done es rise one.rise
    (All-weaker (Contains done) (λ x. All (λ y. disjunct_cmp x y ≡ Less) es)
    (λ x m. All-weaker (Contains es) (λ y. disjunct_cmp x y ≡ Less)
    (λ y n. let of = (before.exactly x).0 m in by_words x y of.0 w (before_next all i w of.0 within read up of.1) of.2.named ((one.exactly y).0 n).named) es (All-contains_itself es))
    done (All-contains_itself done))

-- the disjuncts of the first words, which increase if the words do
pub record ListedTo (all : List WordTree) (i : ℕ) (ds : List Disjunct) : Type 0 where
  pub listed : AreListedOf (take i all) ds
  pub rise : IsStrictlySortedBy word_cmp all → IsStrictlySortedBy disjunct_cmp ds

pub none_yet : (all : List WordTree) → ListedTo all 0 []
unfolding IsStrictlySortedBy
none_yet all = record { listed = listed_none; rise = λ up. tt }

pub one_more : (all : List WordTree) (i : ℕ) (w : WordTree) (done es : List Disjunct) → i < length all → w ≡ get_or all i w → AreDisjuncts w.word w.tree es → All FitsProblem es → ListedTo all i done
    → ListedTo all (i + 1) (done ++ es)
one_more all i w done es within read one fit before = record {
  listed = listed_step all i w done es within read one fit before.listed;
  rise = λ up. listed_rise all i w done es within read one before.listed up (before.rise up);
}

-- the disjuncts of one word more
pub all_in_more : (os : List Outlined) (o : Outlined) → all_in (os ++ o ∷ []) ≡ all_in os ++ disjuncts_in o
all_in_more os o = flat_map-append disjuncts_in os (o ∷ []) ∙ ap (λ z. all_in os ++ z) (append-nil (disjuncts_in o))

-- ---- in order

pub expanded_none : AreExpanded [] []
unfolding IsStrictlySortedBy
expanded_none = record { rise = tt; exactly = listed_none.exactly }

pub apart_listed : (ws : List WordTree) (ds : List Disjunct) → AreApart ws → AreListedOf ws ds → AreToldApart ds
apart_listed ws ds apart listed d e m n alike = apart d e ((listed.exactly d).0 m) ((listed.exactly e).0 n) alike

pub made_rising : (ws : List WordTree) (ds : List Disjunct) → IsStrictlySortedBy disjunct_cmp ds → AreListedOf ws ds → AreMade ws ds
made_rising ws ds rise listed = record { expanded = record { rise = rise; exactly = listed.exactly }; fit = listed.fit }

pub made_sorted : (ws : List WordTree) (ds es : List Disjunct) → AreListedOf ws ds → IsStrictlySortedBy disjunct_cmp es → ((d : Disjunct) → Contains es d ↔ Contains ds d) → AreMade ws es
made_sorted ws ds es listed rise same = record {
  expanded = record {
    rise = rise;
    exactly = λ d. (λ m. (listed.exactly d).0 ((same d).0 m), λ of. (same d).1 ((listed.exactly d).1 of));
  };
  fit = All-weaker (Contains es) FitsProblem (λ d m. All-contains FitsProblem ds d listed.fit ((same d).0 m)) es (All-contains_itself es);
}

equal_if : (o : Ordering) → is_eq o ≡ true → o ≡ Equal
equal_if Less h = cc
equal_if Equal h = refl
equal_if Greater h = cc

-- what is kept of a sorted list rises
pub kept_rise : (sorted : List Disjunct) → IsSorted disjunct_cmp sorted → IsStrictlySortedBy disjunct_cmp (dedup (eq_by_cmp disjunct_cmp) sorted)
kept_rise sorted order = IsStrictlySortedBy-dedup disjuncts_total (λ x y. refl) sorted order

-- and has the disjuncts that there were
module _ (all sorted : List Disjunct) (moved : IsPermutation all sorted) (apart : AreToldApart all) where
  from_kept : (d : Disjunct) → Contains (dedup (eq_by_cmp disjunct_cmp) sorted) d → Contains all d
  from_kept d m = Contains-permutation sorted all d (IsPermutation-sym all sorted moved) (Contains-from_dedup (eq_by_cmp disjunct_cmp) sorted d m)

  to_kept : (d : Disjunct) → Contains all d → Contains (dedup (eq_by_cmp disjunct_cmp) sorted) d
  to_kept d m =
      let (k, other, within, at, tie) = Any-dedup (eq_by_cmp_equiv disjuncts_total) sorted d (Contains-permutation all sorted d moved m) in
      let kept : Contains (dedup (eq_by_cmp disjunct_cmp) sorted) other = (k, within, at) in
      let is = apart d other m (from_kept other kept) (equal_if (disjunct_cmp d other) tie) in
      subst (Contains (dedup (eq_by_cmp disjunct_cmp) sorted)) (sym is) kept

  pub kept_same : (d : Disjunct) → Contains (dedup (eq_by_cmp disjunct_cmp) sorted) d ↔ Contains all d
  kept_same d = (from_kept d, to_kept d)

-- ---- whether they are made or not

after : (x : Disjunct) (xs : List Disjunct) (y : Disjunct) → IsStrictlySortedBy disjunct_cmp (x ∷ xs) → Contains xs y → disjunct_cmp x y ≡ Less
after x xs y up m = All-contains (λ z. disjunct_cmp x z ≡ Less) xs y (All-after_first disjunct_cmp x xs up) m

-- two of a list that rises are one where their order does not tell them apart
pub one_in_rising : (xs : List Disjunct) → IsStrictlySortedBy disjunct_cmp xs → AreToldApart xs
one_in_rising [] up d e m n alike = absurd (contains_none d m)
one_in_rising (x ∷ xs) up d e m n alike =
    elim (contains_cases x xs d m) [
      | inl first ↦ elim (contains_cases x xs e n) [
        | inl second ↦ sym first ∙ second
        | inr later ↦ absurd (Less≢Equal (sym (subst (λ z. disjunct_cmp z e ≡ Less) first (after x xs e up later)) ∙ alike))
      ]
      | inr later ↦ elim (contains_cases x xs e n) [
        | inl second ↦
            let less : disjunct_cmp e d ≡ Less = subst (λ z. disjunct_cmp z d ≡ Less) second (after x xs d up later) in
            let back : disjunct_cmp e d ≡ Equal = disjuncts_total.antisymm e d ∙ ap ordering_reverse alike in
            absurd (Less≢Equal (sym less ∙ back))
        | inr both ↦ one_in_rising xs (sorted_tail disjunct_cmp x xs up) d e later both alike
      ]
    ]

front : (x : Disjunct) (xs : List Disjunct) → ((y : Disjunct) → Contains xs y → disjunct_cmp x y ≡ Less) → IsStrictlySortedBy disjunct_cmp xs → IsStrictlySortedBy disjunct_cmp (x ∷ xs)
unfolding IsStrictlySortedBy
front x xs less up = (recursion_from_All (λ y. disjunct_cmp x y ≡ Less) xs (All-weaker (Contains xs) (λ y. disjunct_cmp x y ≡ Less) less xs (All-contains_itself xs)), up)

nothing : IsStrictlySortedBy disjunct_cmp []
unfolding IsStrictlySortedBy
nothing = tt

-- a list that rises with the elements of a list, and one more
abbrev OneMore : Disjunct → List Disjunct → Type 0
OneMore x ys = (zs : List Disjunct) × IsStrictlySortedBy disjunct_cmp zs × ((z : Disjunct) → Contains zs z ↔ ((x ≡ z) ⊎ Contains ys z))

put : (x y : Disjunct) (ys : List Disjunct) → (disjunct_cmp x y ≡ Equal → x ≡ y) → IsStrictlySortedBy disjunct_cmp (y ∷ ys) → OneMore x ys → (o : Ordering) → disjunct_cmp x y ≡ o → OneMore x (y ∷ ys)
put x y ys exact up rest Less is = (
  x ∷ y ∷ ys,
  front x (y ∷ ys) (λ z m. elim (contains_cases y ys z m) [
    | inl e ↦ subst (λ w. disjunct_cmp x w ≡ Less) e is
    | inr later ↦ disjuncts_total.trans x y z is (after y ys z up later)
  ]) up,
  λ z. (
    λ m. contains_cases x (y ∷ ys) z m,
    λ h. elim h [
      | inl e ↦ subst (Contains (x ∷ y ∷ ys)) e (contains_here x (y ∷ ys))
      | inr m ↦ contains_later x (y ∷ ys) z m
    ],
  ),
)
put x y ys exact up rest Equal is = (
  y ∷ ys,
  up,
  λ z. (
    λ m. inr m,
    λ h. elim h [
      | inl e ↦ subst (Contains (y ∷ ys)) (sym (exact is) ∙ e) (contains_here y ys)
      | inr m ↦ m
    ],
  ),
)
put x y ys exact up (zs, rising, same) Greater is = (
  y ∷ zs,
  front y zs (λ z m. elim ((same z).0 m) [
    | inl e ↦ subst (λ w. disjunct_cmp y w ≡ Less) e (disjuncts_total.antisymm y x ∙ ap ordering_reverse is)
    | inr later ↦ after y ys z up later
  ]) rising,
  λ z. (
    λ m. elim (contains_cases y zs z m) [
      | inl e ↦ inr (subst (Contains (y ∷ ys)) e (contains_here y ys))
      | inr later ↦ elim ((same z).0 later) [
        | inl e ↦ inl e
        | inr n ↦ inr (contains_later y ys z n)
      ]
    ],
    λ h. elim h [
      | inl e ↦ contains_later y zs z ((same z).1 (inl e))
      | inr m ↦ elim (contains_cases y ys z m) [
        | inl e ↦ subst (Contains (y ∷ zs)) e (contains_here y zs)
        | inr n ↦ contains_later y zs z ((same z).1 (inr n))
      ]
    ],
  ),
)

insert : (x : Disjunct) (ys : List Disjunct) → ((y : Disjunct) → Contains ys y → disjunct_cmp x y ≡ Equal → x ≡ y) → IsStrictlySortedBy disjunct_cmp ys → OneMore x ys
insert x [] exact up = (
  x ∷ [],
  front x [] (λ z m. absurd (contains_none z m)) nothing,
  λ z. (
    λ m. contains_cases x [] z m,
    λ h. elim h [
      | inl e ↦ subst (Contains (x ∷ [])) e (contains_here x [])
      | inr m ↦ absurd (contains_none z m)
    ],
  ),
)
insert x (y ∷ ys) exact up =
    put x y ys (exact y (contains_here y ys)) up (insert x ys (λ z m. exact z (contains_later y ys z m)) (sorted_tail disjunct_cmp y ys up)) (disjunct_cmp x y) refl

-- the disjuncts of a list, rising
rising_of : (xs : List Disjunct) → AreToldApart xs → (ys : List Disjunct) × IsStrictlySortedBy disjunct_cmp ys × ((z : Disjunct) → Contains ys z ↔ Contains xs z)
rising_of [] apart = ([], nothing, λ z. (λ m. m, λ m. m))
rising_of (x ∷ xs) apart =
    let (ys, up, same) = rising_of xs (λ d e m n alike. apart d e (contains_later x xs d m) (contains_later x xs e n) alike) in
    let (zs, rising, more) = insert x ys (λ y m alike. apart x y (contains_here x xs) (contains_later x xs y ((same y).0 m)) alike) up in (
      zs,
      rising,
      λ z. (
        λ m. elim ((more z).0 m) [
          | inl e ↦ subst (Contains (x ∷ xs)) e (contains_here x xs)
          | inr n ↦ contains_later x xs z ((same z).0 n)
        ],
        λ m. elim (contains_cases x xs z m) [
          | inl e ↦ (more z).1 (inl e)
          | inr n ↦ (more z).1 (inr ((same z).1 n))
        ],
      ),
    )

-- the disjuncts of words, one word after another
have_listed : ExpressionsHaveDisjuncts → (ws : List WordTree) → AreNamed ws → (ds : List Disjunct) × ((d : Disjunct) → Contains ds d ↔ IsOfTrees ws d)
have_listed exist [] named = ([], λ d. (λ h. absurd (contains_none d h), λ h. absurd (contains_none h.0 h.1)))
have_listed exist (w ∷ ws) named =
    let one = exist w.word w.tree (All-head (λ (v : WordTree). HasNames v.tree) w ws named) in
    let rest = have_listed exist ws (All-tail (λ (v : WordTree). HasNames v.tree) w ws named) in (
      one.0 ++ rest.0,
      λ d. (
        λ h. elim (Contains-append_cases one.0 rest.0 d h) [
          | inl m ↦ (w, contains_here w ws, (one.1.exactly d).0 m)
          | inr m ↦ (let of = (rest.1 d).0 m in (of.0, contains_later w ws of.0 of.1, of.2))
        ],
        λ h. elim (contains_cases w ws h.0 h.1) [
          | inl same ↦ Contains-append_left one.0 rest.0 d ((one.1.exactly d).1 (subst (λ (v : WordTree). IsDisjunctOf v.word v.tree d) (sym same) h.2))
          | inr m ↦ Contains-append_right one.0 rest.0 d ((rest.1 d).1 (h.0, m, h.2))
        ],
      ),
    )

-- each list of words has disjuncts
pub have_expanded : ExpressionsHaveDisjuncts → (ws : List WordTree) → AreNamed ws → AreApart ws → (ds : List Disjunct) × AreExpanded ws ds
have_expanded exist ws named apart =
    let (ds, exactly) = have_listed exist ws named in
    let (es, rise, same) = rising_of ds (λ d e m n alike. apart d e ((exactly d).0 m) ((exactly e).0 n) alike) in (
      es,
      record { rise = rise; exactly = λ d. (λ m. (exactly d).0 ((same d).0 m), λ of. (same d).1 ((exactly d).1 of)) },
    )

pub are_expanded : (ws : List (List WordTree)) (ds : List (List Disjunct)) → AllZip AreMade ws ds → AllZip AreExpanded ws ds
are_expanded [] [] all = tt
are_expanded [] (e ∷ ds) all = absurd all
are_expanded (w ∷ ws) [] all = absurd all
are_expanded (w ∷ ws) (e ∷ ds) all = (all.0.expanded, are_expanded ws ds all.1)
