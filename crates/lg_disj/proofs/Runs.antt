-- What is kept of a list in order: the first of each run of choices that have the same two lists.
use Rattle.std.proofs.Common.{◌≡◌, ℕ, zero, suc, ◌+◌, ◌<◌, ◌≤◌, ℤ, ◌≤ℤ◌, ◌<ℤ◌, Bool, true, false, cond, List, [], ◌∷◌, length, get_or, refl, sym, ap, subst, ◌∙◌, arith, Less, Equal, Greater}
use Rattle.std.specs.declared.cmp.Ordering.{Ordering}
use Rattle.std.specs.Ordering.{int_cmp, is_lt, is_eq, eq_by_cmp, ordering_then, ordering_reverse}
use Rattle.std.specs.Cmp.{IsTotalOrder}
use Rattle.std.specs.List.{All, dedup, dedup_from}
use Rattle.std.specs.List.Sorted.{IsSorted}
use Rattle.std.proofs.lemmas.Bool.{false≢true}
use Rattle.std.proofs.lemmas.Int.{ints}
use Rattle.std.proofs.lemmas.Cmp.{on_total, then_total, lists_total, nat_list_cmp_total, int_cmp_total, int_ranked, tied_itself, tied_back}
use Rattle.std.proofs.lemmas.List.Elements.{All-nil, All-cons, All-head, All-tail, All-weaker}
use Rattle.std.proofs.lemmas.List.Filters.{All-dedup}
use Rattle.std.proofs.lemmas.List.MinMax.{ranks_by}
use Rattle.std.proofs.lemmas.List.Sorted.{sorted_far}
use Rattle.lg_gram.specs.Connectors.{connector_text}
use Rattle.lg_gram.specs.Measures.{Choice}
use Rattle.lg_disj.specs.Choices.{lists_cmp, choice_cmp}

pub lists_cmp_total : IsTotalOrder lists_cmp
lists_cmp_total =
    let sides = lists_total (on_total connector_text nat_list_cmp_total) in then_total (on_total (λ c. c.left) sides) (on_total (λ c. c.right) sides)

pub choice_cmp_total : IsTotalOrder choice_cmp
choice_cmp_total = then_total lists_cmp_total (on_total (λ c. c.cost) int_cmp_total)

-- what `dedup_by` counts as the same
abbrev pub same : Choice → Choice → Bool
same = eq_by_cmp lists_cmp

-- no element is less than one before it
abbrev pub Ascends : List Choice → Type 0
Ascends [] = Unit {0}
Ascends (c ∷ cs) = All (λ d. is_lt (choice_cmp d c) ≡ false) cs × Ascends cs

ascends_from : (cs : List Choice) → ((i j : ℕ) (d : Choice) → i ≤ j → j < length cs → is_lt (choice_cmp (get_or cs j d) (get_or cs i d)) ≡ false) → Ascends cs
ascends_from [] far = tt
ascends_from (c ∷ cs) far = (
  λ k d within. far zero (suc k) d (omega arith) (omega arith),
  ascends_from cs (λ i j d before within. far (suc i) (suc j) d (omega arith) (omega arith)),
)

pub ascends : (cs : List Choice) → IsSorted choice_cmp cs → Ascends cs
ascends cs sorted = ascends_from cs (sorted_far (λ x y. is_lt (choice_cmp x y)) (ranks_by choice_cmp_total (λ c. c)) cs sorted)

cost_order : (o : Ordering) (x y : ℤ) → o ≡ int_cmp y x → is_lt o ≡ false → x ≤ℤ y
cost_order Less x y e h = absurd (false≢true (sym h))
cost_order Equal x y e h = let same : y ≡ x = int_ranked y x Equal e in omega (arith, ints)
cost_order Greater x y e h = let less : x <ℤ y = int_ranked y x Greater e in omega (arith, ints)

cost_le : (x y : ℤ) → is_lt (int_cmp y x) ≡ false → x ≤ℤ y
cost_le x y h = cost_order (int_cmp y x) x y refl h

-- the second of two choices with the same lists that ascend is no cheaper
no_cheaper : (a b : Choice) → is_lt (choice_cmp b a) ≡ false → lists_cmp a b ≡ Equal → a.cost ≤ℤ b.cost
no_cheaper a b h e =
    cost_le a.cost b.cost (subst (λ o. is_lt (ordering_then o (int_cmp b.cost a.cost)) ≡ false) (tied_back lists_cmp_total a b e) h)

first_key : (o p : Ordering) → is_lt (ordering_then o p) ≡ false → is_lt o ≡ false
first_key Less p h = h
first_key Equal p h = refl
first_key Greater p h = refl

pub is_tie : (o : Ordering) → is_eq o ≡ true → o ≡ Equal
is_tie Less h = absurd (false≢true h)
is_tie Equal h = refl
is_tie Greater h = absurd (false≢true h)

turned : (o : Ordering) → is_eq o ≡ false → is_lt o ≡ false → is_lt (ordering_reverse o) ≡ true
turned Less p q = absurd (false≢true (sym q))
turned Equal p q = absurd (false≢true (sym p))
turned Greater p q = refl

-- what comes at the next run or after it has other lists than this run
later_run : (k x d : Choice) → same x k ≡ false → is_lt (lists_cmp x k) ≡ false → is_lt (lists_cmp d x) ≡ false → lists_cmp d k ≡ Equal → ⊥
later_run k x d other after from e =
    let before : is_lt (lists_cmp k x) ≡ true = ap is_lt (lists_cmp_total.antisymm k x) ∙ turned (lists_cmp x k) other after in
    false≢true (sym from ∙ ap is_lt (lists_cmp_total.congr d k x e) ∙ before)

-- d costs no more than c, if it has the same lists
abbrev pub Beats : Choice → Choice → Type 0
Beats d c = lists_cmp d c ≡ Equal → d.cost ≤ℤ c.cost

beats_itself : (d : Choice) → Beats d d
beats_itself d e = omega (arith, ints)

beats_more : (k x d : Choice) → is_lt (choice_cmp x k) ≡ false → same x k ≡ true → Beats d k → Beats d x
beats_more k x d after e beats tie =
    let tied : lists_cmp x k ≡ Equal = is_tie (lists_cmp x k) e in
    let one : d.cost ≤ℤ k.cost = beats (lists_cmp_total.congr d x k tie ∙ tied) in
    let two : k.cost ≤ℤ x.cost = no_cheaper k x after (tied_back lists_cmp_total x k tied) in
    omega (arith, ints)

one_more : (k x : Choice) (cs : List Choice) → Ascends (k ∷ x ∷ cs) →
    All (λ d. All (Beats d) (k ∷ cs)) (dedup_from same k cs) → All (λ d. All (Beats d) (x ∷ cs)) (dedup_from same x cs) →
    (b : Bool) → same x k ≡ b → All (λ d. All (Beats d) (k ∷ x ∷ cs)) (cond b (dedup_from same k cs) (k ∷ dedup_from same x cs))
one_more k x cs up kept next true e =
    let after = All-head (λ c. is_lt (choice_cmp c k) ≡ false) x cs up.0 in
    All-weaker (λ d. All (Beats d) (k ∷ cs)) (λ d. All (Beats d) (k ∷ x ∷ cs))
    (λ d h. All-cons (Beats d) k (x ∷ cs) (All-head (Beats d) k cs h)
    (All-cons (Beats d) x cs (beats_more k x d after e (All-head (Beats d) k cs h)) (All-tail (Beats d) k cs h)))
    (dedup_from same k cs) kept
one_more k x cs up kept next false e =
    let after = All-head (λ c. is_lt (choice_cmp c k) ≡ false) x cs up.0 in
    let first = All-cons (Beats k) k (x ∷ cs) (beats_itself k) (All-weaker (λ c. is_lt (choice_cmp c k) ≡ false) (Beats k) (no_cheaper k) (x ∷ cs) up.0) in
    let itself : is_lt (lists_cmp x x) ≡ false = ap is_lt (tied_itself lists_cmp_total x) in
    let from = All-dedup same (λ d. is_lt (lists_cmp d x) ≡ false) (x ∷ cs)
    (All-cons (λ d. is_lt (lists_cmp d x) ≡ false) x cs itself
    (All-weaker (λ d. is_lt (choice_cmp d x) ≡ false) (λ d. is_lt (lists_cmp d x) ≡ false) (λ d h. first_key (lists_cmp d x) _ h) cs up.1.0)) in
    All-cons (λ d. All (Beats d) (k ∷ x ∷ cs)) k (dedup_from same x cs) first
    (λ i d within. All-cons (Beats (get_or (dedup_from same x cs) i d)) k (x ∷ cs)
    (λ tie. absurd (later_run k x (get_or (dedup_from same x cs) i d) e (first_key (lists_cmp x k) _ after) (from i d within) tie)) (next i d within))

first_is_least : (k : Choice) (cs : List Choice) → Ascends (k ∷ cs) → All (λ d. All (Beats d) (k ∷ cs)) (dedup_from same k cs)
first_is_least k [] up = All-cons (λ d. All (Beats d) (k ∷ [])) k [] (All-cons (Beats k) k [] (beats_itself k) (All-nil (Beats k))) (All-nil (λ d. All (Beats d) (k ∷ [])))
first_is_least k (x ∷ cs) up =
    one_more k x cs up (first_is_least k cs (All-tail (λ c. is_lt (choice_cmp c k) ≡ false) x cs up.0, up.1.1)) (first_is_least x cs up.1) (same x k) refl

-- each that is kept is the cheapest of its lists
pub kept_least : (cs : List Choice) → IsSorted choice_cmp cs → All (λ d. All (Beats d) cs) (dedup same cs)
kept_least [] sorted = All-nil (λ d. All (Beats d) [])
kept_least (c ∷ cs) sorted = first_is_least c cs (ascends (c ∷ cs) sorted)

pub lists_sorted : (cs : List Choice) → IsSorted choice_cmp cs → IsSorted lists_cmp cs
lists_sorted cs sorted k d low within = first_key (lists_cmp (get_or cs (k + 1) d) (get_or cs k d)) _ (sorted k d low within)
