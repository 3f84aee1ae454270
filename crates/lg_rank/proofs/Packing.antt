-- Linkages in numbers: their order, and that of linkages whose parts are put together.
use Rattle.std.proofs.Common.{◌≡◌, ℕ, zero, suc, ◌+◌, ◌<◌, ◌≤◌, List, [], ◌∷◌, ◌++◌, length, take, drop, get_or, Option, Some, None, slice_get, Contains, inl, inr, refl, sym, ap, ◌∙◌, subst, arith, Less, Equal, Greater, ℤ, pos, ◌+ℤ◌}
use Rattle.std.specs.declared.cmp.Ordering.{Ordering}
use Rattle.std.specs.List.{sum_by, count_by}
use Rattle.std.specs.List.Sorted.{IsStrictlySortedBy}
use Rattle.std.specs.Ordering.{nat_cmp, int_cmp, ordering_then, ordering_reverse}
use Rattle.std.specs.Option.{option_cmp}
use Rattle.std.specs.Cmp.Lexicographic.{slice_cmp}
use Rattle.std.proofs.Math.IntN.{+ℤ_idl}
use Rattle.std.proofs.lemmas.Bool.{cases_lt}
use Rattle.std.proofs.lemmas.Bool.Decides.{nat_tests}
use Rattle.std.proofs.lemmas.Cmp.{tied_itself}
use Rattle.std.proofs.lemmas.Option.{slice_get_within, get_or_from_slice_get}
use Rattle.std.proofs.lemmas.Int.{ints}
use Rattle.std.proofs.lemmas.List.{get_or_past}
use Rattle.std.proofs.lemmas.List.Sums.{sum_by-cons, sum_by-append}
use Rattle.std.proofs.lemmas.Map.Keys.{sorted_head, sorted_tail}
use Rattle.std.proofs.lemmas.List.Elements.{All-from_recursion, All-contains}
use Rattle.lg_gram.specs.Disjuncts.{disjunct_cmp}
use Rattle.lg_gram.specs.Linkages.{Linkage, link_length, cost_of, cost_sum, unlinked, linkage_cmp, tie_cmp}
use Rattle.lg_gram.specs.Problems.{IsProblem}
use Rattle.lg_gram.specs.Rules.{chosen_at}
use Rattle.lg_gram.specs.declared.disjunct.Disjunct.{Disjunct}
use Rattle.lg_gram.specs.declared.linkage.Link.{Link}
use Rattle.lg_rank.specs.Meanings.{IsCodeOf, IsPacked, IsWord, length_of}
use Rattle.lg_rank.specs.Trees.{with_link, comes_before}
use Rattle.lg_rank.specs.Values.{Value, value_cmp, combine}
use Rattle.lg_rank.specs.declared.part.Way.{Way}
use Rattle.lg_rank.proofs.Orders.{choices_total}

-- ---- codes in one list
slice_in : {A : Type 0} (xs : List A) (i : ℕ) (x : A) → slice_get xs i ≡ Some x → Contains xs x
slice_in xs i x e = (i, slice_get_within xs i x e, get_or_from_slice_get xs i x x e)

-- in a list that rises, what stands later is greater
pub later_greater : (ds : List Disjunct) (i j : ℕ) (d e : Disjunct) → IsStrictlySortedBy disjunct_cmp ds → i < j → slice_get ds i ≡ Some d → slice_get ds j ≡ Some e → disjunct_cmp d e ≡ Less
later_greater [] i j d e up less p q = absurd cc
later_greater (x ∷ ds) zero zero d e up less p q = absurd (omega arith)
later_greater (x ∷ ds) (suc i) zero d e up less p q = absurd (omega arith)
later_greater (x ∷ ds) zero (suc j) d e up less p q =
    let same : x ≡ d = cc in
    subst (λ t. disjunct_cmp t e ≡ Less) same (All-contains (λ t. disjunct_cmp x t ≡ Less) ds e (All-from_recursion (λ t. disjunct_cmp x t ≡ Less) ds (sorted_head disjunct_cmp x ds up)) (slice_in ds j e q))
later_greater (x ∷ ds) (suc i) (suc j) d e up less p q = later_greater ds i j d e (sorted_tail disjunct_cmp x ds up) (omega arith) p q

abbrev choice_cmp : Option Disjunct → Option Disjunct → Ordering
choice_cmp = option_cmp disjunct_cmp

disjunct_back : (d e : Disjunct) → disjunct_cmp d e ≡ Less → choice_cmp (Some e) (Some d) ≡ Greater
disjunct_back d e h = choices_total.antisymm (Some e) (Some d) ∙ ap ordering_reverse h

code_order : (ds : List Disjunct) (a b : Option Disjunct) (m n : ℕ) → IsStrictlySortedBy disjunct_cmp ds → IsCodeOf ds a m → IsCodeOf ds b n → nat_cmp m n ≡ choice_cmp a b
code_order ds None None m n up p q = grind (arith, nat_tests)
code_order ds None (Some e) m n up p q = (let r = q.1 in grind (arith, nat_tests))
code_order ds (Some d) None m n up p q = (let r = p.1 in grind (arith, nat_tests))
code_order ds (Some d) (Some e) m n up p q =
    elim (cases_lt p.0 q.0) [
      | inl less ↦ (let r = p.1 in let s = q.1 in let z : nat_cmp m n ≡ Less = grind (arith, nat_tests) in z ∙ sym (later_greater ds p.0 q.0 d e up less p.2 q.2))
      | inr h ↦ elim (cases_lt q.0 p.0) [
        | inl less ↦ (let r = p.1 in let s = q.1 in let z : nat_cmp m n ≡ Greater = grind (arith, nat_tests) in z ∙ sym (disjunct_back e d (later_greater ds q.0 p.0 e d up less q.2 p.2)))
        | inr g ↦ (
            let same : p.0 ≡ q.0 = omega arith in
            let f : d ≡ e = (let t : slice_get ds q.0 ≡ Some d = ap (slice_get ds) (sym same) ∙ p.2 in let u = q.2 in cc) in
            let r = p.1 in let s = q.1 in
            let z : nat_cmp m n ≡ Equal = grind (arith, nat_tests) in
            z ∙ sym (tied_itself choices_total (Some d)) ∙ ap (λ t. choice_cmp (Some d) (Some t)) f)
      ]
    ]

pub code_apart : (ds : List Disjunct) (a b : Option Disjunct) (n : ℕ) → IsCodeOf ds a n → IsCodeOf ds b n → a ≡ b
code_apart ds None None n p q = refl
code_apart ds None (Some e) n p q = absurd (let r = q.1 in omega arith)
code_apart ds (Some d) None n p q = absurd (let r = p.1 in omega arith)
code_apart ds (Some d) (Some e) n p q =
    let r = p.1 in let s = q.1 in
    let same : p.0 ≡ q.0 = omega arith in
    let t : slice_get ds q.0 ≡ Some d = ap (slice_get ds) (sym same) ∙ p.2 in
    let u = q.2 in
    let f : d ≡ e = cc in ap Some f

abbrev pub Coded : (ℕ → List Disjunct) → List (Option Disjunct) → List ℕ → Type 0
Coded P xs ns = (i : ℕ) → IsCodeOf (P i) (get_or xs i None) (get_or ns i 0)

choices_order : (P : ℕ → List Disjunct) → ((i : ℕ) → IsStrictlySortedBy disjunct_cmp (P i)) → (xs ys : List (Option Disjunct)) (ns ms : List ℕ) → length ns ≡ length xs → length ms ≡ length ys → length xs ≡ length ys → Coded P xs ns → Coded P ys ms
    → slice_cmp nat_cmp ns ms ≡ slice_cmp choice_cmp xs ys
choices_order P up [] [] [] [] e f g p q = refl
choices_order P up [] ys (n ∷ ns) ms e f g p q = absurd (omega arith)
choices_order P up xs [] ns (m ∷ ms) e f g p q = absurd (omega arith)
choices_order P up (x ∷ xs) ys [] ms e f g p q = absurd (omega arith)
choices_order P up xs (y ∷ ys) ns [] e f g p q = absurd (omega arith)
choices_order P up [] (y ∷ ys) ns ms e f g p q = absurd (omega arith)
choices_order P up (x ∷ xs) [] ns ms e f g p q = absurd (omega arith)
choices_order P up (x ∷ xs) (y ∷ ys) (n ∷ ns) (m ∷ ms) e f g p q =
    λ k. ordering_then (code_order (P 0) x y n m (up 0) (p 0) (q 0) k) (choices_order (λ i. P (suc i)) (λ i. up (suc i)) xs ys ns ms (omega arith) (omega arith) (omega arith) (λ i. p (suc i)) (λ i. q (suc i)) k)

pub choices_apart : (P : ℕ → List Disjunct) (xs ys : List (Option Disjunct)) (ns : List ℕ) → length xs ≡ length ys → Coded P xs ns → Coded P ys ns → xs ≡ ys
choices_apart P [] [] ns e p q = refl
choices_apart P [] (y ∷ ys) ns e p q = absurd (omega arith)
choices_apart P (x ∷ xs) [] ns e p q = absurd (omega arith)
choices_apart P (x ∷ xs) (y ∷ ys) [] e p q = λ k. code_apart (P 0) x y 0 (p 0) (q 0) k ∷ choices_apart (λ i. P (suc i)) xs ys [] (omega arith) (λ i. p (suc i)) (λ i. q (suc i)) k
choices_apart P (x ∷ xs) (y ∷ ys) (n ∷ ns) e p q = λ k. code_apart (P 0) x y n (p 0) (q 0) k ∷ choices_apart (λ i. P (suc i)) xs ys ns (omega arith) (λ i. p (suc i)) (λ i. q (suc i)) k

pub rise_at : (positions : List (List Disjunct)) → IsProblem positions → (i : ℕ) → IsStrictlySortedBy disjunct_cmp (get_or positions i [])
unfolding IsStrictlySortedBy
rise_at positions problem i =
    elim (cases_lt i (length positions)) [
      | inl less ↦ (problem.each i [] less).rise
      | inr more ↦ subst (λ (t : List Disjunct). IsStrictlySortedBy disjunct_cmp t) (sym (get_or_past positions i [] more)) tt
    ]

same_then : (o p : Ordering) → o ≡ Equal → ordering_then o p ≡ p
same_then o p e = λ k. ordering_then (e k) p

-- linkages with as many unlinked positions compare as they do in numbers
pub packed_order : (positions : List (List Disjunct)) (g h : Linkage) (v w : Value) → IsProblem positions → IsPacked positions g v → IsPacked positions h w → length g.chosen ≡ length h.chosen → unlinked g ≡ unlinked h → value_cmp v w ≡ linkage_cmp g h
packed_order positions g h v w problem p q e u =
    let first : nat_cmp (unlinked g) (unlinked h) ≡ Equal = grind (arith, nat_tests) in
    let choices = choices_order (λ i. get_or positions i []) (rise_at positions problem) g.chosen h.chosen v.choices w.choices p.long q.long e p.choices q.choices in
    (λ k. ordering_then (int_cmp (p.cost k) (q.cost k)) (ordering_then (nat_cmp (p.span k) (q.span k)) (ordering_then (choices k) (slice_cmp tie_cmp (p.links k) (q.links k)))))
    ∙ sym (same_then _ _ first)

pub packed_apart : (positions : List (List Disjunct)) (g h : Linkage) (v : Value) → IsPacked positions g v → IsPacked positions h v → length g.chosen ≡ length h.chosen → g ≡ h
packed_apart positions g h v p q e =
    λ k. record { chosen = choices_apart (λ i. get_or positions i []) g.chosen h.chosen v.choices e p.choices q.choices k; links = (sym p.links ∙ q.links) k }

-- ---- parts put together
-- g is a and b with the disjunct d at W between them, and two more links
pub record IsGlued (W : ℕ) (d : Disjunct) (near far : Option Link) (a b g : Linkage) : Type 0 where
  pub long_a : length a.chosen ≡ length g.chosen
  pub long_b : length b.chosen ≡ length g.chosen
  pub within : W < length g.chosen
  pub before : (i : ℕ) → i < W → chosen_at g i ≡ chosen_at a i
  pub word : chosen_at g W ≡ Some d
  pub after : (i : ℕ) → W < i → chosen_at g i ≡ chosen_at b i
  pub none_a : (i : ℕ) → W ≤ i → chosen_at a i ≡ None
  pub none_b : (i : ℕ) → i ≤ W → chosen_at b i ≡ None
  pub links : g.links ≡ with_link near a.links ++ with_link far b.links

same_list : (xs ys : List (Option Disjunct)) → length xs ≡ length ys → ((i : ℕ) → get_or xs i None ≡ get_or ys i None) → xs ≡ ys
same_list [] [] e h = refl
same_list [] (y ∷ ys) e h = absurd (omega arith)
same_list (x ∷ xs) [] e h = absurd (omega arith)
same_list (x ∷ xs) (y ∷ ys) e h = λ k. h 0 k ∷ same_list xs ys (omega arith) (λ i. h (suc i)) k

-- the choice of what is glued, as a list
glue_list : (W : ℕ) (o : Option Disjunct) (xs ys gs : List (Option Disjunct)) → length xs ≡ length gs → length ys ≡ length gs → W < length gs → ((i : ℕ) → i < W → get_or gs i None ≡ get_or xs i None) → get_or gs W None ≡ o → ((i : ℕ) → W < i → get_or gs i None ≡ get_or ys i None)
    → gs ≡ take W xs ++ o ∷ drop (suc W) ys
glue_list W o xs ys [] e f less p q r = absurd (omega arith)
glue_list W o [] ys (t ∷ gs) e f less p q r = absurd (omega arith)
glue_list W o xs [] (t ∷ gs) e f less p q r = absurd (omega arith)
glue_list zero o (x ∷ xs) (y ∷ ys) (t ∷ gs) e f less p q r = λ k. q k ∷ same_list gs ys (omega arith) (λ i. r (suc i) (omega arith)) k
glue_list (suc W) o (x ∷ xs) (y ∷ ys) (t ∷ gs) e f less p q r = λ k. p 0 (omega arith) k ∷ glue_list W o xs ys gs (omega arith) (omega arith) (omega arith) (λ i l. p (suc i) (omega arith)) q (λ i l. r (suc i) (omega arith)) k

cost_append : (xs ys : List (Option Disjunct)) → cost_sum (xs ++ ys) ≡ cost_sum xs +ℤ cost_sum ys
cost_append [] ys = sym (+ℤ_idl (cost_sum ys))
cost_append (x ∷ xs) ys = (let r = cost_append xs ys in (λ k. cost_of x +ℤ r k) ∙ assoc (cost_of x) (cost_sum xs) (cost_sum ys))
  where
    assoc : (a b c : ℤ) → a +ℤ (b +ℤ c) ≡ (a +ℤ b) +ℤ c
    assoc a b c = omega (arith, ints)

none_cost : (xs : List (Option Disjunct)) → ((i : ℕ) → get_or xs i None ≡ None) → cost_sum xs ≡ pos 0
none_cost [] h = refl
none_cost (x ∷ xs) h = (λ k. cost_of (h 0 k) +ℤ none_cost xs (λ i. h (suc i)) k) ∙ +ℤ_idl (pos 0)

take_cost : (n : ℕ) (xs : List (Option Disjunct)) → ((i : ℕ) → n ≤ i → get_or xs i None ≡ None) → cost_sum (take n xs) ≡ cost_sum xs
take_cost zero xs h = sym (none_cost xs (λ i. h i (omega arith)))
take_cost (suc n) [] h = refl
take_cost (suc n) (x ∷ xs) h = ap (λ t. cost_of x +ℤ t) (take_cost n xs (λ i l. h (suc i) (omega arith)))

drop_cost : (n : ℕ) (xs : List (Option Disjunct)) → ((i : ℕ) → i < n → get_or xs i None ≡ None) → cost_sum (drop n xs) ≡ cost_sum xs
drop_cost zero xs h = refl
drop_cost (suc n) [] h = refl
drop_cost (suc n) (x ∷ xs) h = drop_cost n xs (λ i l. h (suc i) (omega arith)) ∙ sym (+ℤ_idl (cost_sum xs)) ∙ (λ k. cost_of (sym (h 0 (omega arith)) k) +ℤ cost_sum xs)

split_sum : (n : ℕ) (xs : List Link) → sum_by link_length (take n xs) + sum_by link_length (drop n xs) ≡ sum_by link_length xs
split_sum zero xs = omega arith
split_sum (suc n) [] = refl
split_sum (suc n) (x ∷ xs) = omega (arith, split_sum n xs, sum_by-cons link_length x (take n xs), sum_by-cons link_length x xs)

with_sum : (o : Option Link) (xs : List Link) → sum_by link_length (with_link o xs) ≡ length_of o + sum_by link_length xs
with_sum None xs = omega arith
with_sum (Some l) xs =
    let n = count_by (comes_before l) xs in
    sum_by-append link_length (take n xs) (l ∷ drop n xs) ∙ omega (arith, split_sum n xs, sum_by-cons link_length l (drop n xs))

pub glued_packed : (positions : List (List Disjunct)) (W : ℕ) (d : Disjunct) (near far : Option Link) (a b g : Linkage) (x y : Value) (w : Way) → IsGlued W d near far a b g → IsWord positions w W d near far → IsPacked positions a x → IsPacked positions b y → IsPacked positions g (combine w x y)
glued_packed positions W d near far a b g x y w u is p q =
    let chosen : g.chosen ≡ take W a.chosen ++ Some d ∷ drop (suc W) b.chosen = glue_list W (Some d) a.chosen b.chosen g.chosen u.long_a u.long_b u.within u.before u.word u.after in
    let cost : cost_sum g.chosen ≡ cost_sum a.chosen +ℤ (d.cost +ℤ cost_sum b.chosen) =
    ap cost_sum chosen ∙ cost_append (take W a.chosen) (Some d ∷ drop (suc W) b.chosen) ∙ (λ k. take_cost W a.chosen u.none_a k +ℤ (d.cost +ℤ drop_cost (suc W) b.chosen (λ i l. u.none_b i (omega arith)) k)) in
    let span : sum_by link_length g.links ≡ (length_of near + sum_by link_length a.links) + (length_of far + sum_by link_length b.links) =
    ap (sum_by link_length) u.links ∙ sum_by-append link_length (with_link near a.links) (with_link far b.links) ∙ (λ k. with_sum near a.links k + with_sum far b.links k) in
    record {
      cost = (λ k. is.cost k +ℤ (p.cost k +ℤ q.cost k)) ∙ moved d.cost (cost_sum a.chosen) (cost_sum b.chosen) ∙ sym cost;
      span = (let r = is.span in let s = p.span in let t = q.span in omega (arith, span));
      long = ap length (λ k. take (is.word_is k) x.choices ++ w.choice ∷ drop (suc (is.word_is k)) y.choices) ∙ coded_long W x.choices y.choices w.choice (length g.chosen) (p.long ∙ u.long_a) (q.long ∙ u.long_b) u.within;
      choices = λ i. subst (λ (n : ℕ). IsCodeOf (get_or positions i []) (chosen_at g i) (get_or (take n x.choices ++ w.choice ∷ drop (suc n) y.choices) i 0)) (sym is.word_is)
          (elim (cases_lt i W) [
            | inl l ↦ subst (λ (n : ℕ). IsCodeOf (get_or positions i []) (chosen_at g i) n) (sym (mixed_before W x.choices y.choices w.choice i (let s = p.long in let t = u.long_a in let v = u.within in omega arith) l)) (subst (λ (o : Option Disjunct). IsCodeOf (get_or positions i []) o (get_or x.choices i 0)) (sym (u.before i l)) (p.choices i))
            | inr l ↦ elim (cases_lt W i) [
              | inl m ↦ subst (λ (n : ℕ). IsCodeOf (get_or positions i []) (chosen_at g i) n) (sym (mixed_after W x.choices y.choices w.choice i (let s = p.long in let t = u.long_a in let v = u.within in omega arith) m)) (subst (λ (o : Option Disjunct). IsCodeOf (get_or positions i []) o (get_or y.choices i 0)) (sym (u.after i m)) (q.choices i))
              | inr m ↦ (let e : W ≡ i = omega arith in
                  subst (λ (j : ℕ). IsCodeOf (get_or positions j []) (chosen_at g j) (get_or (take W x.choices ++ w.choice ∷ drop (suc W) y.choices) j 0)) e
                  (subst (λ (n : ℕ). IsCodeOf (get_or positions W []) (chosen_at g W) n) (sym (mixed_here W x.choices y.choices w.choice (let s = p.long in let t = u.long_a in let v = u.within in omega arith)))
                  (subst (λ (o : Option Disjunct). IsCodeOf (get_or positions W []) o w.choice) (sym u.word) is.choice)))
            ]
          ]);
      links = (λ k. with_link (is.near_is k) (p.links k) ++ with_link (is.far_is k) (q.links k)) ∙ sym u.links;
    }
  where
    moved : (c a b : ℤ) → c +ℤ (a +ℤ b) ≡ a +ℤ (c +ℤ b)
    moved c a b = omega (arith, ints)

    coded_long : (n : ℕ) (xs ys : List ℕ) (c m : ℕ) → length xs ≡ m → length ys ≡ m → n < m → length (take n xs ++ c ∷ drop (suc n) ys) ≡ m
    coded_long n [] ys c m e f l = absurd (omega arith)
    coded_long n xs [] c m e f l = absurd (omega arith)
    coded_long zero (x ∷ xs) (y ∷ ys) c m e f l = f
    coded_long (suc n) (x ∷ xs) (y ∷ ys) c zero e f l = absurd (omega arith)
    coded_long (suc n) (x ∷ xs) (y ∷ ys) c (suc m) e f l = ap suc (coded_long n xs ys c m (omega arith) (omega arith) (omega arith))

    mixed_before : (n : ℕ) (xs ys : List ℕ) (c i : ℕ) → n < length xs → i < n → get_or (take n xs ++ c ∷ drop (suc n) ys) i 0 ≡ get_or xs i 0
    mixed_before zero xs ys c i l m = absurd (omega arith)
    mixed_before (suc n) [] ys c i l m = absurd (omega arith)
    mixed_before (suc n) (x ∷ xs) ys c zero l m = refl
    mixed_before (suc n) (x ∷ xs) [] c (suc i) l m = mixed_before n xs [] c i (omega arith) (omega arith)
    mixed_before (suc n) (x ∷ xs) (y ∷ ys) c (suc i) l m = mixed_before n xs ys c i (omega arith) (omega arith)

    mixed_here : (n : ℕ) (xs ys : List ℕ) (c : ℕ) → n < length xs → get_or (take n xs ++ c ∷ drop (suc n) ys) n 0 ≡ c
    mixed_here zero xs ys c l = refl
    mixed_here (suc n) [] ys c l = absurd (omega arith)
    mixed_here (suc n) (x ∷ xs) [] c l = mixed_here n xs [] c (omega arith)
    mixed_here (suc n) (x ∷ xs) (y ∷ ys) c l = mixed_here n xs ys c (omega arith)

    mixed_after : (n : ℕ) (xs ys : List ℕ) (c i : ℕ) → n < length xs → n < i → get_or (take n xs ++ c ∷ drop (suc n) ys) i 0 ≡ get_or ys i 0
    mixed_after n xs ys c zero l m = absurd (omega arith)
    mixed_after n [] ys c (suc i) l m = absurd (omega arith)
    mixed_after zero (x ∷ xs) [] c (suc i) l m = refl
    mixed_after zero (x ∷ xs) (y ∷ ys) c (suc i) l m = refl
    mixed_after (suc n) (x ∷ xs) [] c (suc i) l m = mixed_after n xs [] c i (omega arith) (omega arith)
    mixed_after (suc n) (x ∷ xs) (y ∷ ys) c (suc i) l m = mixed_after n xs ys c i (omega arith) (omega arith)

code_same : (ds : List Disjunct) (o : Option Disjunct) (m n : ℕ) → IsStrictlySortedBy disjunct_cmp ds → IsCodeOf ds o m → IsCodeOf ds o n → m ≡ n
code_same ds o m n up p q = (let e = code_order ds o o m n up p q ∙ tied_itself choices_total o in grind (arith, nat_tests))

codes_same : (P : ℕ → List Disjunct) → ((i : ℕ) → IsStrictlySortedBy disjunct_cmp (P i)) → (xs : List (Option Disjunct)) (ns ms : List ℕ) → length ns ≡ length ms → Coded P xs ns → Coded P xs ms → ns ≡ ms
codes_same P up xs [] [] e p q = refl
codes_same P up xs [] (m ∷ ms) e p q = absurd (omega arith)
codes_same P up xs (n ∷ ns) [] e p q = absurd (omega arith)
codes_same P up [] (n ∷ ns) (m ∷ ms) e p q = λ k. code_same (P 0) None n m (up 0) (p 0) (q 0) k ∷ codes_same (λ i. P (suc i)) (λ i. up (suc i)) [] ns ms (omega arith) (λ i. p (suc i)) (λ i. q (suc i)) k
codes_same P up (x ∷ xs) (n ∷ ns) (m ∷ ms) e p q = λ k. code_same (P 0) x n m (up 0) (p 0) (q 0) k ∷ codes_same (λ i. P (suc i)) (λ i. up (suc i)) xs ns ms (omega arith) (λ i. p (suc i)) (λ i. q (suc i)) k

-- a linkage is one value
pub packed_same : (positions : List (List Disjunct)) (g : Linkage) (v w : Value) → IsProblem positions → IsPacked positions g v → IsPacked positions g w → v ≡ w
packed_same positions g v w problem p q =
    let choices = codes_same (λ i. get_or positions i []) (rise_at positions problem) g.chosen v.choices w.choices (p.long ∙ sym q.long) p.choices q.choices in
    λ k. record { cost = (p.cost ∙ sym q.cost) k; span = (p.span ∙ sym q.span) k; choices = choices k; links = (p.links ∙ sym q.links) k }
