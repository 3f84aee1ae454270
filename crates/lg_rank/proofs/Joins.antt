-- The order of a linkage follows that of each of its parts.
use Rattle.std.proofs.Common.{◌≡◌, ℕ, suc, ◌+◌, cond, List, [], ◌∷◌, length, get_or, Option, None, is_none, inl, inr, refl, sym, ap, ◌∙◌, arith, Less, Equal, Greater, ℤ, ◌+ℤ◌}
use Rattle.std.specs.declared.cmp.Ordering.{Ordering}
use Rattle.std.specs.List.{count_by, sum_by}
use Rattle.std.specs.Option.{option_cmp}
use Rattle.std.specs.Ordering.{nat_cmp, int_cmp, ordering_then}
use Rattle.std.specs.Cmp.Lexicographic.{slice_cmp}
use Rattle.std.proofs.Math.IntN.{+ℤ_idl, +ℤ_idr}
use Rattle.std.proofs.lemmas.Bool.Decides.{nat_tests}
use Rattle.std.proofs.lemmas.Cmp.{tied_itself}
use Rattle.std.proofs.lemmas.Int.{ints}
use Rattle.std.proofs.lemmas.List.Sums.{sum_by-cons}
use Rattle.lg_gram.specs.Disjuncts.{disjunct_cmp}
use Rattle.lg_gram.specs.Linkages.{Linkage, link_length, cost_of, cost_sum, unlinked, total_cost, total_length, tie_cmp}
use Rattle.lg_gram.specs.Rules.{HasLink}
use Rattle.lg_gram.specs.declared.disjunct.Disjunct.{Disjunct}
use Rattle.lg_rank.specs.Joins.{IsTidy, IsEitherOf, IsJoin, JoinsGrow}
use Rattle.lg_rank.proofs.Orders.{choices_total}
use Rattle.lg_gram.proofs.LinkSets.{insert_all, same_set, union_set, union_left, union_right, union_out}
use Rattle.lg_rank.proofs.Sums.{union_sum}
use Rattle.lg_rank.proofs.Ties.{SetLess, less_set, set_less}

-- at each place one of the two is none, and the third is the other
abbrev EachIsEitherOf : List (Option Disjunct) → List (Option Disjunct) → List (Option Disjunct) → Type 0
EachIsEitherOf xs bs gs = (i : ℕ) → IsEitherOf (get_or xs i None) (get_or bs i None) (get_or gs i None)

abbrev none_count : Option Disjunct → ℕ
none_count o = cond (is_none o) 1 0

count_one : (a b x : Option Disjunct) → IsEitherOf a b x → none_count x + 1 ≡ none_count a + none_count b
count_one a b x (inl h) = (λ i. none_count (h.1 i) + 1) ∙ omega (arith, ap none_count h.0)
count_one a b x (inr h) = (λ i. none_count (h.1 i) + 1) ∙ omega (arith, ap none_count h.0)

counts : (xs bs gs : List (Option Disjunct)) → length xs ≡ length gs → length bs ≡ length gs → EachIsEitherOf xs bs gs → count_by is_none gs + length gs ≡ count_by is_none xs + count_by is_none bs
counts [] [] [] p q h = refl
counts (a ∷ xs) bs [] p q h = absurd (omega arith)
counts [] (b ∷ bs) [] p q h = absurd (omega arith)
counts [] bs (x ∷ gs) p q h = absurd (omega arith)
counts (a ∷ xs) [] (x ∷ gs) p q h = absurd (omega arith)
counts (a ∷ xs) (b ∷ bs) (x ∷ gs) p q h =
    let r = counts xs bs gs (omega arith) (omega arith) (λ i. h (suc i)) in
    omega (arith, r, count_one a b x (h 0), sum_by-cons none_count a xs, sum_by-cons none_count b bs, sum_by-cons none_count x gs)

cost_one : (a b x : Option Disjunct) → IsEitherOf a b x → cost_of x ≡ cost_of a +ℤ cost_of b
cost_one a b x (inl h) = ap cost_of h.1 ∙ sym (+ℤ_idl (cost_of b)) ∙ (λ i. cost_of (sym h.0 i) +ℤ cost_of b)
cost_one a b x (inr h) = ap cost_of h.1 ∙ sym (+ℤ_idr (cost_of a)) ∙ (λ i. cost_of a +ℤ cost_of (sym h.0 i))

four : (k l m n : ℤ) → (k +ℤ l) +ℤ (m +ℤ n) ≡ (k +ℤ m) +ℤ (l +ℤ n)
four k l m n = omega (arith, ints)

costs : (xs bs gs : List (Option Disjunct)) → length xs ≡ length gs → length bs ≡ length gs → EachIsEitherOf xs bs gs → cost_sum gs ≡ cost_sum xs +ℤ cost_sum bs
costs [] [] [] p q h = refl
costs (a ∷ xs) bs [] p q h = absurd (omega arith)
costs [] (b ∷ bs) [] p q h = absurd (omega arith)
costs [] bs (x ∷ gs) p q h = absurd (omega arith)
costs (a ∷ xs) [] (x ∷ gs) p q h = absurd (omega arith)
costs (a ∷ xs) (b ∷ bs) (x ∷ gs) p q h =
    let r = costs xs bs gs (omega arith) (omega arith) (λ i. h (suc i)) in
    (λ i. cost_one a b x (h 0) i +ℤ r i) ∙ four (cost_of a) (cost_of b) (cost_sum xs) (cost_sum bs)

abbrev choice_cmp : Option Disjunct → Option Disjunct → Ordering
choice_cmp = option_cmp disjunct_cmp

choice_one : (a c b x y : Option Disjunct) → IsEitherOf a b x → IsEitherOf c b y → choice_cmp x y ≡ choice_cmp a c
choice_one a c b x y (inl h) (inl g) = (λ i. choice_cmp (h.1 i) (g.1 i)) ∙ tied_itself choices_total b ∙ (λ i. choice_cmp (sym h.0 i) (sym g.0 i))
choice_one a c b x y (inl h) (inr g) = λ i. choice_cmp ((h.1 ∙ g.0 ∙ sym h.0) i) (g.1 i)
choice_one a c b x y (inr h) (inl g) = λ i. choice_cmp (h.1 i) ((g.1 ∙ h.0 ∙ sym g.0) i)
choice_one a c b x y (inr h) (inr g) = λ i. choice_cmp (h.1 i) (g.1 i)

choices : (xs cs bs gs hs : List (Option Disjunct)) → length xs ≡ length gs → length bs ≡ length gs → length cs ≡ length hs → length bs ≡ length hs → EachIsEitherOf xs bs gs → EachIsEitherOf cs bs hs → slice_cmp choice_cmp gs hs ≡ slice_cmp choice_cmp xs cs
choices [] [] bs [] [] p q r s h k = refl
choices (a ∷ xs) cs bs [] hs p q r s h k = absurd (omega arith)
choices [] cs bs (x ∷ gs) hs p q r s h k = absurd (omega arith)
choices xs (c ∷ cs) bs gs [] p q r s h k = absurd (omega arith)
choices xs [] bs gs (y ∷ hs) p q r s h k = absurd (omega arith)
choices (a ∷ xs) (c ∷ cs) [] (x ∷ gs) (y ∷ hs) p q r s h k = absurd (omega arith)
choices [] (c ∷ cs) bs [] (y ∷ hs) p q r s h k = absurd (omega arith)
choices (a ∷ xs) [] bs (x ∷ gs) [] p q r s h k = absurd (omega arith)
choices (a ∷ xs) (c ∷ cs) (b ∷ bs) (x ∷ gs) (y ∷ hs) p q r s h k =
    λ i. ordering_then (choice_one a c b x y (h 0) (k 0) i) (choices xs cs bs gs hs (omega arith) (omega arith) (omega arith) (omega arith) (λ (j : ℕ). h (suc j)) (λ (j : ℕ). k (suc j)) i)

lengths : (a b g : Linkage) → IsTidy a → IsTidy b → IsTidy g → IsJoin a b g → total_length g ≡ total_length a + total_length b
lengths a b g ta tb tg j =
    let same : g.links ≡ insert_all a.links b.links = same_set g.links (insert_all a.links b.links) tg.set (union_set a.links b.links tb.set)
    (λ z i. elim (j.out z i) [ inl m ↦ union_left a.links b.links z m | inr m ↦ union_right a.links b.links z m ])
    (λ z i. elim (union_out a.links b.links z i) [ inl m ↦ j.in_first z m | inr m ↦ j.in_second z m ]) in
    ap (sum_by link_length) same ∙ union_sum link_length a.links b.links ta.set (λ z p q. j.apart z z p q refl refl)

sets : (a c b g h : Linkage) → IsJoin a b g → IsJoin c b h → SetLess (HasLink a) (HasLink c) → SetLess (HasLink g) (HasLink h)
sets a c b g h x y s = record {
  at = s.at;
  here = y.in_first s.at s.here;
  absent = λ i. elim (x.out s.at i) [ inl m ↦ s.absent m | inr m ↦ y.apart s.at s.at s.here m refl refl ];
  before = λ z e. (
    (λ i. elim (x.out z i) [ inl m ↦ y.in_first z ((s.before z e).0 m) | inr m ↦ y.in_second z m ]),
    (λ i. elim (y.out z i) [ inl m ↦ x.in_first z ((s.before z e).1 m) | inr m ↦ x.in_second z m ]),
  );
  same = λ z i p. elim (x.out z i) [ inl m ↦ s.same z m p | inr m ↦ absurd (y.apart s.at z s.here m (sym p.0) (sym p.1)) ];
}

links : (a c b g h : Linkage) → IsTidy a → IsTidy c → IsTidy b → IsTidy g → IsTidy h → IsJoin a b g → IsJoin c b h → slice_cmp tie_cmp a.links c.links ≡ Less → slice_cmp tie_cmp g.links h.links ≡ Less
links a c b g h ta tc tb tg th x y e = set_less g.links h.links tg.set th.set tg.exclusive th.exclusive (sets a c b g h x y (less_set a.links c.links ta.set tc.set ta.exclusive tc.exclusive e))

nat_moved : (k l m n u : ℕ) → k + u ≡ m → l + u ≡ n → nat_cmp k l ≡ nat_cmp m n
nat_moved k l m n u e f = grind (arith, nat_tests)

int_moved : (k l u : ℤ) → int_cmp (k +ℤ u) (l +ℤ u) ≡ int_cmp k l
int_moved k l u = grind (arith, ints)

then_less : (o o' p p' : Ordering) → o' ≡ o → (p ≡ Less → p' ≡ Less) → ordering_then o p ≡ Less → ordering_then o' p' ≡ Less
then_less Less o' p p' e f h = (λ i. ordering_then (e i) p')
then_less Equal o' p p' e f h = (λ i. ordering_then (e i) p') ∙ f h
then_less Greater o' p p' e f h = absurd (let z : Greater ≡ Less = h in cc)

pub joins_grow : JoinsGrow
joins_grow a c b g h ta tc tb tg th x y less =
    let ug = counts a.chosen b.chosen g.chosen x.first_length x.second_length x.chosen in
    let uh = counts c.chosen b.chosen h.chosen y.first_length y.second_length y.chosen in
    let n : length g.chosen ≡ length h.chosen = sym x.second_length ∙ y.second_length in
    let by_unlinked : nat_cmp (unlinked g) (unlinked h) ≡ nat_cmp (unlinked a) (unlinked c) =
    nat_moved (unlinked g) (unlinked h) (unlinked a + unlinked b) (unlinked c + unlinked b) (length g.chosen) ug (omega arith)
    ∙ sym (nat_moved (unlinked a) (unlinked c) (unlinked a + unlinked b) (unlinked c + unlinked b) (unlinked b) refl refl) in
    let by_cost : int_cmp (total_cost g) (total_cost h) ≡ int_cmp (total_cost a) (total_cost c) =
    (λ i. int_cmp (costs a.chosen b.chosen g.chosen x.first_length x.second_length x.chosen i) (costs c.chosen b.chosen h.chosen y.first_length y.second_length y.chosen i))
    ∙ int_moved (total_cost a) (total_cost c) (total_cost b) in
    let by_length : nat_cmp (total_length g) (total_length h) ≡ nat_cmp (total_length a) (total_length c) =
    (λ i. nat_cmp (lengths a b g ta tb tg x i) (lengths c b h tc tb th y i))
    ∙ sym (nat_moved (total_length a) (total_length c) (total_length a + total_length b) (total_length c + total_length b) (total_length b) refl refl) in
    let by_choice = choices a.chosen c.chosen b.chosen g.chosen h.chosen x.first_length x.second_length y.first_length y.second_length x.chosen y.chosen in
    then_less _ _ _ _ by_unlinked (then_less _ _ _ _ by_cost (then_less _ _ _ _ by_length (then_less _ _ _ _ by_choice (links a c b g h ta tc tb tg th x y)))) less
