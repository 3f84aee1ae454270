-- Linkages of one problem that compare alike are one.
use Rattle.std.proofs.Common.{◌≡◌, ℕ, suc, List, [], ◌∷◌, length, get_or, Option, Some, None, refl, sym, ap, ◌∙◌, subst, arith, inl, inr, Less, Equal, Greater}
use Rattle.std.specs.declared.cmp.Ordering.{Ordering}
use Rattle.std.specs.List.{Contains}
use Rattle.std.specs.List.Sorted.{IsStrictlySortedBy}
use Rattle.std.specs.Option.{option_cmp}
use Rattle.std.specs.Ordering.{nat_cmp, int_cmp, ordering_then, ordering_reverse}
use Rattle.std.specs.Cmp.{IsTotalOrder}
use Rattle.std.specs.Cmp.Lexicographic.{slice_cmp}
use Rattle.std.proofs.lemmas.Bool.{cases_lt}
use Rattle.std.proofs.lemmas.List.{get_or_default, get_or_past}
use Rattle.std.proofs.lemmas.Map.Keys.{Less-from_sorted}
use Rattle.std.proofs.lemmas.Map.Lookups.{CmpEqualImpliesEq, exact_unsigned}
use Rattle.lg_gram.specs.declared.disjunct.Disjunct.{Disjunct}
use Rattle.lg_gram.specs.Disjuncts.{disjunct_cmp}
use Rattle.lg_gram.specs.Linkages.{Linkage, link_cmp, linkage_cmp, tie_cmp, unlinked, total_cost, total_length}
use Rattle.lg_gram.specs.Problems.{IsProblem}
use Rattle.lg_gram.specs.Rules.{Belongs}
use Rattle.lg_gram.proofs.Orders.{disjuncts_total}

pub Less≢Equal : Less ≡ Equal → ⊥
Less≢Equal h = let e : ◌≡◌ {A = ℕ} 0 1 = cc in omega (arith, e)

pub Greater≢Equal : Greater ≡ Equal → ⊥
Greater≢Equal h = let e : ◌≡◌ {A = ℕ} 0 1 = cc in omega (arith, e)

pub first_equal : (o p : Ordering) → ordering_then o p ≡ Equal → o ≡ Equal
first_equal Less p h = h
first_equal Equal p h = refl
first_equal Greater p h = h

pub second_equal : (o p : Ordering) → ordering_then o p ≡ Equal → p ≡ Equal
second_equal Less p h = absurd (Less≢Equal h)
second_equal Equal p h = h
second_equal Greater p h = absurd (Greater≢Equal h)

-- elements of a list that rises are one where they compare alike
same_in_rising : {A : Type 0} {R : A → A → Ordering} → IsTotalOrder R → (xs : List A) (x y : A) →
    IsStrictlySortedBy R xs → Contains xs x → Contains xs y → R x y ≡ Equal → x ≡ y
same_in_rising {A} {R} total xs x y rise (k, k_in, at_k) (m, m_in, at_m) alike =
    let x_at : get_or xs k y ≡ x = get_or_default xs k y x k_in ∙ at_k in
    let y_at : get_or xs m x ≡ y = get_or_default xs m x y m_in ∙ at_m in
    elim (cases_lt k m) [
      | inl less ↦
          let below : R x y ≡ Less = sym (λ i. R (at_k i) (y_at i)) ∙ Less-from_sorted R xs k m x rise less m_in in
          absurd (Less≢Equal (sym below ∙ alike))
      | inr more ↦ elim (cases_lt m k) [
        | inl less ↦
            let below : R y x ≡ Less = sym (λ i. R (at_m i) (x_at i)) ∙ Less-from_sorted R xs m k y rise less k_in in
            absurd (Greater≢Equal (sym (total.antisymm x y ∙ ap ordering_reverse below) ∙ alike))
        | inr least ↦
            let same : k ≡ m = omega arith in
            sym x_at ∙ ap (λ n. get_or xs n y) same ∙ at_m
      ]
    ]

pub exact_lists : {A : Type 0} (R : A → A → Ordering) → CmpEqualImpliesEq R → CmpEqualImpliesEq (slice_cmp R)
exact_lists R exact [] [] h = refl
exact_lists R exact [] (y ∷ ys) h = absurd (Less≢Equal h)
exact_lists R exact (x ∷ xs) [] h = absurd (Greater≢Equal h)
exact_lists R exact (x ∷ xs) (y ∷ ys) h =
    (λ i. exact x y (first_equal (R x y) (slice_cmp R xs ys) h) i ∷ exact_lists R exact xs ys (second_equal (R x y) (slice_cmp R xs ys) h) i)

exact_links : CmpEqualImpliesEq tie_cmp
exact_links k l h =
    let pairs = first_equal (ordering_then (nat_cmp l.left k.left) (nat_cmp l.right k.right)) _ h in
    let places = second_equal (ordering_then (nat_cmp l.left k.left) (nat_cmp l.right k.right)) _ h in
    let left = exact_unsigned l.left k.left (first_equal (nat_cmp l.left k.left) _ pairs) in
    let right = exact_unsigned l.right k.right (second_equal (nat_cmp l.left k.left) _ pairs) in
    let lplace = exact_unsigned k.lplace l.lplace (first_equal (nat_cmp k.lplace l.lplace) _ places) in
    let rplace = exact_unsigned k.rplace l.rplace (second_equal (nat_cmp k.lplace l.lplace) _ places) in
    λ i. record { left = sym left i; lplace = lplace i; right = sym right i; rplace = rplace i }

-- links that compare alike are one
pub same_link : CmpEqualImpliesEq link_cmp
same_link k l h =
    let later = second_equal (nat_cmp k.left l.left) _ h in
    let last = second_equal (nat_cmp k.right l.right) _ later in
    let left = exact_unsigned k.left l.left (first_equal (nat_cmp k.left l.left) _ h) in
    let right = exact_unsigned k.right l.right (first_equal (nat_cmp k.right l.right) _ later) in
    let lplace = exact_unsigned k.lplace l.lplace (first_equal (nat_cmp k.lplace l.lplace) _ last) in
    let rplace = exact_unsigned k.rplace l.rplace (second_equal (nat_cmp k.lplace l.lplace) _ last) in
    λ i. record { left = left i; lplace = lplace i; right = right i; rplace = rplace i }

same_choice : (ds : List Disjunct) (x y : Option Disjunct) → IsStrictlySortedBy disjunct_cmp ds →
    ((d : Disjunct) → x ≡ Some d → Contains ds d) → ((d : Disjunct) → y ≡ Some d → Contains ds d) → option_cmp disjunct_cmp x y ≡ Equal → x ≡ y
same_choice ds None None rise p q h = refl
same_choice ds None (Some e) rise p q h = absurd (Less≢Equal h)
same_choice ds (Some d) None rise p q h = absurd (Greater≢Equal h)
same_choice ds (Some d) (Some e) rise p q h = ap Some (same_in_rising disjuncts_total ds d e rise (p d refl) (q e refl) h)

same_choices : (at : ℕ → List Disjunct) (xs ys : List (Option Disjunct)) → ((i : ℕ) → IsStrictlySortedBy disjunct_cmp (at i)) →
    ((i : ℕ) (d : Disjunct) → get_or xs i None ≡ Some d → Contains (at i) d) →
    ((i : ℕ) (d : Disjunct) → get_or ys i None ≡ Some d → Contains (at i) d) →
    slice_cmp (option_cmp disjunct_cmp) xs ys ≡ Equal → xs ≡ ys
same_choices at [] [] rise p q h = refl
same_choices at [] (y ∷ ys) rise p q h = absurd (Less≢Equal h)
same_choices at (x ∷ xs) [] rise p q h = absurd (Greater≢Equal h)
same_choices at (x ∷ xs) (y ∷ ys) rise p q h =
    let first = same_choice (at 0) x y (rise 0) (p 0) (q 0) (first_equal (option_cmp disjunct_cmp x y) _ h) in
    let others = same_choices (λ (i : ℕ). at (suc i)) xs ys (λ i. rise (suc i)) (λ i. p (suc i)) (λ i. q (suc i)) (second_equal (option_cmp disjunct_cmp x y) _ h) in
    λ i. first i ∷ others i

rising_at : (positions : List (List Disjunct)) → IsProblem positions → (i : ℕ) → IsStrictlySortedBy disjunct_cmp (get_or positions i [])
unfolding IsStrictlySortedBy
rising_at positions fine i =
    elim (cases_lt i (length positions)) [
      | inl within ↦ (fine.each i [] within).rise
      | inr past ↦ subst (IsStrictlySortedBy disjunct_cmp) (sym (get_or_past positions i [] past)) tt
    ]

pub same_linkage : (positions : List (List Disjunct)) (a b : Linkage) → IsProblem positions → Belongs positions a → Belongs positions b →
    linkage_cmp a b ≡ Equal → a ≡ b
same_linkage positions a b fine p q h =
    let after_unlinked = second_equal (nat_cmp (unlinked a) (unlinked b)) _ h in
    let after_cost = second_equal (int_cmp (total_cost a) (total_cost b)) _ after_unlinked in
    let after_length = second_equal (nat_cmp (total_length a) (total_length b)) _ after_cost in
    let by_chosen = slice_cmp (option_cmp disjunct_cmp) a.chosen b.chosen in
    let chosen = same_choices (λ (i : ℕ). get_or positions i []) a.chosen b.chosen (rising_at positions fine) p.listed q.listed (first_equal by_chosen _ after_length) in
    let links = exact_lists tie_cmp exact_links a.links b.links (second_equal by_chosen _ after_length) in
    λ i. record { chosen = chosen i; links = links i }
