-- The numbers of linkages are far from the ends of their types.
use Rattle.std.proofs.Common.{◌≡◌, ℕ, zero, suc, ◌+◌, ◌-◌, ◌*◌, ◌^◌, ◌<◌, ◌≤◌, cond, List, [], ◌∷◌, length, get_or, Option, Some, None, is_none, Contains, inl, inr, refl, sym, ap, ◌∙◌, subst, arith, Less, ℤ, pos, neg_ℤ, ◌+ℤ◌, ◌≤ℤ◌}
use Rattle.std.specs.List.{count_by, sum_by}
use Rattle.std.proofs.lemmas.Bool.{cases_lt}
use Rattle.std.proofs.lemmas.Int.{ints}
use Rattle.std.proofs.lemmas.List.{get_or_past}
use Rattle.std.proofs.lemmas.List.Sums.{sum_by-cons}
use Rattle.std.proofs.lemmas.Map.Keys.{sorted_head, sorted_tail}
use Rattle.lg_gram.specs.Limits.{DISJUNCT_COST}
use Rattle.lg_gram.specs.Linkages.{Linkage, link_cmp, link_length, cost_sum, unlinked}
use Rattle.lg_gram.specs.Problems.{IsProblem, IsDisjunctCost}
use Rattle.lg_gram.specs.Rules.{chosen_at, HasLink, IsExclusive, Belongs}
use Rattle.lg_gram.specs.declared.disjunct.Disjunct.{Disjunct}
use Rattle.lg_gram.specs.declared.linkage.Link.{Link}
use Rattle.lg_region.specs.Parts.{Region, Under, null_at, nulls_from}
use Rattle.lg_rank.specs.Meanings.{IsPacked}
use Rattle.lg_rank.specs.Values.{Value, IsSmall}
use Rattle.lg_rank.proofs.Cuts.{not_linked}
use Rattle.lg_base.proofs.Elements.{contains_here, contains_later}
use Rattle.lg_gram.proofs.LinkSets.{IsSet, after_head, not_itself}
use Rattle.lg_rank.proofs.Ties.{cmp_less}

-- ---- unlinked positions
nulls_add : (g : Linkage) (s m n : ℕ) → nulls_from g s (m + n) ≡ nulls_from g s m + nulls_from g (s + m) n
nulls_add g s zero n = let e : 0 + n ≡ n = omega arith in let f : s + 0 ≡ s = omega arith in rw (e, f) (omega arith)
nulls_add g s (suc m) n =
    let e : suc m + n ≡ suc (m + n) = omega arith in
    let f : s + suc m ≡ suc s + m = omega arith in
    rw (e, f) (omega (arith, nulls_add g (suc s) m n))

nulls_same : (g h : Linkage) (s n : ℕ) → ((i : ℕ) → s ≤ i → i < s + n → chosen_at g i ≡ chosen_at h i) → nulls_from g s n ≡ nulls_from h s n
nulls_same g h s zero same = refl
nulls_same g h s (suc n) same =
    let e = ap null_at (same s (omega arith) (omega arith)) in
    omega (arith, nulls_same g h (suc s) n (λ i x y. same i (omega arith) (omega arith)))

null_is : (o : Option Disjunct) → null_at o ≡ cond (is_none o) 1 0
null_is None = refl
null_is (Some d) = refl

nulls_count : (g : Linkage) (s : ℕ) (os : List (Option Disjunct)) → ((i : ℕ) → i < length os → get_or g.chosen (s + i) None ≡ get_or os i None) → nulls_from g s (length os) ≡ count_by is_none os
nulls_count g s [] same = refl
nulls_count g s (o ∷ os) same =
    let here : s + 0 ≡ s = omega arith in
    let e : null_at (chosen_at g s) ≡ cond (is_none o) 1 0 = ap null_at (ap (λ t. chosen_at g t) (sym here) ∙ same 0 (omega arith)) ∙ null_is o in
    let r = nulls_count g (suc s) os (λ i l. let f : suc s + i ≡ s + suc i = omega arith in ap (λ t. chosen_at g t) f ∙ same (suc i) (omega arith)) in
    let c = sum_by-cons (λ (t : Option Disjunct). cond (is_none t) 1 0) o os in
    omega (arith, e, r, c)

all_nulls : (g : Linkage) → nulls_from g 0 (length g.chosen) ≡ unlinked g
all_nulls g = nulls_count g 0 g.chosen (λ i l. let e : 0 + i ≡ i = omega arith in ap (λ t. chosen_at g t) e)

-- linkages under one region have as many unlinked positions
pub same_unlinked : (positions : List (List Disjunct)) (k : Region) (g h : Linkage) → k.left < k.right → k.right ≤ length positions → Under positions k g → Under positions k h → unlinked g ≡ unlinked h
same_unlinked positions k g h lr within u v =
    let n = length positions in
    let none : (t : Linkage) → Under positions k t → (i : ℕ) → (k.left < i → i < k.right → ⊥) → chosen_at t i ≡ None = λ t w i f. not_linked (chosen_at t i) (λ x. let b = w.part.inside i x in f b.0 b.1) in
    let outside : (i : ℕ) → (k.left < i → i < k.right → ⊥) → chosen_at g i ≡ chosen_at h i = λ i f. none g u i f ∙ sym (none h v i f) in
    let a = nulls_same g h 0 (suc k.left) (λ i x y. outside i (λ p q. absurd (omega arith))) in
    let c = nulls_same g h k.right (n - k.right) (λ i x y. outside i (λ p q. absurd (omega arith))) in
    let whole : (t : Linkage) → nulls_from t 0 n ≡ nulls_from t 0 (suc k.left) + (nulls_from t (suc k.left) (k.right - suc k.left) + nulls_from t k.right (n - k.right)) = λ t. (
    let e : n ≡ suc k.left + ((k.right - suc k.left) + (n - k.right)) = omega arith in
    let f : suc k.left + (k.right - suc k.left) ≡ k.right = omega arith in
    let s : 0 + suc k.left ≡ suc k.left = omega arith in
    ap (nulls_from t 0) e ∙ nulls_add t 0 (suc k.left) ((k.right - suc k.left) + (n - k.right)) ∙ ap (λ x. nulls_from t 0 (suc k.left) + nulls_from t x ((k.right - suc k.left) + (n - k.right))) s
    ∙ ap (λ x. nulls_from t 0 (suc k.left) + x) (nulls_add t (suc k.left) (k.right - suc k.left) (n - k.right) ∙ ap (λ x. nulls_from t (suc k.left) (k.right - suc k.left) + nulls_from t x (n - k.right)) f)) in
    let count : (t : Linkage) → Under positions k t → nulls_from t 0 n ≡ unlinked t = λ t w. ap (nulls_from t 0) (sym w.part.belongs.same_length) ∙ all_nulls t in
    sym (count g u) ∙ whole g ∙ omega (arith, a, c, u.nulls, v.nulls) ∙ sym (whole h) ∙ count h v

-- ---- links
-- the links from a pair on are no more than the pairs that are left
pair_of : Link → ℕ
pair_of l = l.left * 256 + l.right

earlier_pair : (k l : Link) → k.right < 256 → link_cmp k l ≡ Less → (k.left ≡ l.left → k.right ≡ l.right → ⊥) → pair_of k < pair_of l
unfolding pair_of
earlier_pair k l small less apart =
    elim (cmp_less k l less) [
      | inl e ↦ elim e [ inl a ↦ omega arith | inr a ↦ omega arith ]
      | inr s ↦ absurd (apart s.0 s.1)
    ]

-- where the pairs are below 2 ^ 16 and from m on, as many links are there at most
few_links : (m : ℕ) (xs : List Link) → m ≤ 2 ^ 16 → IsSet xs → IsExclusive (Contains xs) → ((l : Link) → Contains xs l → (m ≤ pair_of l) × (pair_of l < 2 ^ 16) × (l.right < 256)) → m + length xs ≤ 2 ^ 16
few_links m [] small up one h = omega arith
few_links m (x ∷ xs) small up one h =
    let here = h x (contains_here x xs) in
    let r = few_links (suc (pair_of x)) xs (let a = here.1 in omega arith) (sorted_tail link_cmp x xs up) (λ k l p q. one k l (contains_later x xs k p) (contains_later x xs l q)) (λ l i. (
    let b = h l (contains_later x xs l i) in
    let less = after_head x xs l (sorted_head link_cmp x xs up) i in
    let e = earlier_pair x l here.2 less (λ p q. not_itself x (subst (λ w. link_cmp x w ≡ Less) (sym (one x l (contains_here x xs) (contains_later x xs l i) p q)) less)) in
    (omega arith, b.1, b.2))) in
    let a = here.0 in omega arith

long_links : (xs : List Link) → ((l : Link) → Contains xs l → l.right < 256) → sum_by link_length xs ≤ length xs * 256
long_links [] h = omega arith
long_links (x ∷ xs) h =
    let a = h x (contains_here x xs) in
    let r = long_links xs (λ l i. h l (contains_later x xs l i)) in
    let e = sum_by-cons link_length x xs in
    let f : suc (length xs) * 256 ≡ 256 + length xs * 256 = omega arith in
    omega arith

below_pair : (l : Link) → l.left < l.right → l.right < 256 → pair_of l < 2 ^ 16
unfolding pair_of
below_pair l a b = omega arith

pub count_links : (xs : List Link) → IsSet xs → IsExclusive (Contains xs) → ((l : Link) → Contains xs l → (l.left < l.right) × (l.right < 256)) → length xs ≤ 2 ^ 16
count_links xs up one h = (let few = few_links 0 xs (omega arith) up one (λ l i. (omega arith, below_pair l (h l i).0 (h l i).1, (h l i).1)) in omega arith)

pub short_links : (xs : List Link) → IsSet xs → IsExclusive (Contains xs) → ((l : Link) → Contains xs l → (l.left < l.right) × (l.right < 256)) → sum_by link_length xs ≤ 2 ^ 60
short_links xs up one h =
    let few = few_links 0 xs (omega arith) up one (λ l i. (omega arith, below_pair l (h l i).0 (h l i).1, (h l i).1)) in
    let long = long_links xs (λ l i. (h l i).1) in
    omega arith

-- ---- costs
add_costs : (m n : ℕ) (a b : ℤ) → neg_ℤ (pos m) ≤ℤ a → a ≤ℤ pos m → neg_ℤ (pos n) ≤ℤ b → b ≤ℤ pos n → (neg_ℤ (pos (m + n)) ≤ℤ (a +ℤ b)) × ((a +ℤ b) ≤ℤ pos (m + n))
add_costs m n a b p q r s = (omega (arith, ints), omega (arith, ints))

small_costs : (xs : List (Option Disjunct)) → ((i : ℕ) (d : Disjunct) → get_or xs i None ≡ Some d → IsDisjunctCost d.cost) → (neg_ℤ (pos (DISJUNCT_COST * length xs)) ≤ℤ cost_sum xs) × (cost_sum xs ≤ℤ pos (DISJUNCT_COST * length xs))
small_costs [] h = (omega (arith, ints), omega (arith, ints))
small_costs (None ∷ xs) h =
    let r = small_costs xs (λ i d e. h (suc i) d e) in
    let f : DISJUNCT_COST * suc (length xs) ≡ DISJUNCT_COST + DISJUNCT_COST * length xs = omega arith in
    let s = add_costs DISJUNCT_COST (DISJUNCT_COST * length xs) (pos 0) (cost_sum xs) (omega (arith, ints)) (omega (arith, ints)) r.0 r.1 in
    subst (λ (n : ℕ). (neg_ℤ (pos n) ≤ℤ (pos 0 +ℤ cost_sum xs)) × ((pos 0 +ℤ cost_sum xs) ≤ℤ pos n)) (sym f) s
small_costs (Some d ∷ xs) h =
    let r = small_costs xs (λ i e f. h (suc i) e f) in
    let c = h 0 d refl in
    let f : DISJUNCT_COST * suc (length xs) ≡ DISJUNCT_COST + DISJUNCT_COST * length xs = omega arith in
    let s = add_costs DISJUNCT_COST (DISJUNCT_COST * length xs) d.cost (cost_sum xs) c.0 c.1 r.0 r.1 in
    subst (λ (n : ℕ). (neg_ℤ (pos n) ≤ℤ (d.cost +ℤ cost_sum xs)) × ((d.cost +ℤ cost_sum xs) ≤ℤ pos n)) (sym f) s

pub disjunct_cost : (positions : List (List Disjunct)) → IsProblem positions → (i : ℕ) (d : Disjunct) → Contains (get_or positions i []) d → IsDisjunctCost d.cost
disjunct_cost positions problem i d (j, l, e) =
    elim (cases_lt i (length positions)) [
      | inl less ↦ subst (λ (t : Disjunct). IsDisjunctCost t.cost) e ((problem.each i [] less).fit j d l).cost
      | inr more ↦ absurd (let f = ap length (get_or_past positions i [] more) in omega arith)
    ]

pub small_packed : (positions : List (List Disjunct)) (g : Linkage) (v : Value) → IsProblem positions → Belongs positions g → IsExclusive (HasLink g) → ((l : Link) → HasLink g l → (l.left < l.right) × (l.right < 256)) → IsPacked positions g v → IsSmall (length positions) v
small_packed positions g v problem b one links p =
    let c = small_costs g.chosen (λ i d e. disjunct_cost positions problem i d (b.listed i d e)) in
    let few = problem.few in
    let len = b.same_length in
    let bound : DISJUNCT_COST * length g.chosen ≤ 2 ^ 60 = omega arith in
    record {
      above = subst (λ (t : ℤ). neg_ℤ (pos (2 ^ 60)) ≤ℤ t) (sym p.cost) (wider_below (DISJUNCT_COST * length g.chosen) (2 ^ 60) (cost_sum g.chosen) bound c.0);
      below = subst (λ (t : ℤ). t ≤ℤ pos (2 ^ 60)) (sym p.cost) (wider_above (DISJUNCT_COST * length g.chosen) (2 ^ 60) (cost_sum g.chosen) bound c.1);
      span = subst (λ (t : ℕ). t ≤ 2 ^ 60) (sym p.span) (short_links g.links b.set one links);
      long = p.long ∙ len;
    }
  where
    wider_below : (m n : ℕ) (a : ℤ) → m ≤ n → neg_ℤ (pos m) ≤ℤ a → neg_ℤ (pos n) ≤ℤ a
    wider_below m n a l p = omega (arith, ints)

    wider_above : (m n : ℕ) (a : ℤ) → m ≤ n → a ≤ℤ pos m → a ≤ℤ pos n
    wider_above m n a l p = omega (arith, ints)
