-- A good linkage of a problem is within the limits of linkages.
use Rattle.std.proofs.Common.{◌≡◌, ℕ, suc, ◌<◌, ◌≤◌, ◌+◌, ◌*◌, ◌⊎◌, inl, inr, refl, sym, ◌∙◌, subst, List, [], ◌∷◌, length, get_or, Option, Some, None, Contains, slice_get, Ordering, Less, Equal, Greater, arith}
use Rattle.std.specs.Cmp.{IsTotalOrder}
use Rattle.std.specs.Ordering.{nat_cmp, ordering_then, MatchOrdering}
use Rattle.std.specs.List.Sorted.{IsStrictlySortedBy}
use Rattle.std.proofs.lemmas.Bool.{cases_lt}
use Rattle.std.proofs.lemmas.Cmp.{tied_itself, ranked}
use Rattle.std.proofs.lemmas.List.{get_or_past}
use Rattle.std.proofs.lemmas.List.Elements.{All-contains, All-from_recursion, Contains-get_or}
use Rattle.std.proofs.lemmas.Map.Keys.{sorted_head, sorted_tail}
use Rattle.std.proofs.lemmas.Option.{get_or_from_slice_get, slice_get-get_or}
use Rattle.lg_gram.specs.Connectors.{Connector}
use Rattle.lg_gram.specs.Linkages.{Linkage, IsLinkage, HasSmallCost, link_cmp}
use Rattle.lg_gram.specs.Problems.{IsProblem, FitsProblem}
use Rattle.lg_gram.specs.Rules.{Good, Belongs, chosen_at, left_list, right_list, IsExclusive}
use Rattle.lg_gram.specs.declared.disjunct.Disjunct.{Disjunct}
use Rattle.lg_gram.specs.declared.linkage.Link.{Link}
use Rattle.lg_forest.proofs.Once.{contains_here, contains_later, contains_none}

less_of : (a b : ℕ) (o rest : Ordering) → MatchOrdering o (a < b) (a ≡ b) (b < a) → ordering_then o rest ≡ Less → (a < b) ⊎ ((a ≡ b) × (rest ≡ Less))
less_of a b Less rest at e = inl at
less_of a b Equal rest at e = inr (at, e)
less_of a b Greater rest at e = absurd cc

-- the first number is less, or it is the same and the rest decides
less_then : (a b : ℕ) (rest : Ordering) → ordering_then (nat_cmp a b) rest ≡ Less → (a < b) ⊎ ((a ≡ b) × (rest ≡ Less))
less_then a b rest e = less_of a b (nat_cmp a b) rest (ranked a b (nat_cmp a b) refl) e

-- both ends of a link are positions
record IsSmall (l : Link) : Type 0 where
  left : l.left < 252
  right : l.right < 252

pair_of : Link → ℕ
pair_of l = l.left * 252 + l.right

pair_small : (l : Link) → IsSmall l → pair_of l < 63504
unfolding pair_of
pair_small l h = let a = h.left in let b = h.right in omega arith

-- two links in order that join different pairs
pair_rises : (k l : Link) → IsSmall k → IsSmall l → link_cmp k l ≡ Less → (k.left ≡ l.left → k.right ≡ l.right → ⊥) → pair_of k < pair_of l
unfolding pair_of
pair_rises k l small_k small_l e apart =
    let a = small_k.right in
    let b = small_l.right in
    elim (less_then k.left l.left _ e) [
      | inl x ↦ omega arith
      | inr x ↦ elim (less_then k.right l.right _ x.1) [
        | inl y ↦ omega (arith, x.0)
        | inr y ↦ absurd (apart x.0 y.0)
      ]
    ]

-- a rising list of links of different pairs has no more links than there are pairs
length_rising : (total : IsTotalOrder link_cmp) (xs : List Link) (low : ℕ) → low ≤ 63504 → IsStrictlySortedBy link_cmp xs → ((l : Link) → Contains xs l → IsSmall l)
    → IsExclusive (Contains xs) → ((l : Link) → Contains xs l → low ≤ pair_of l) → length xs + low ≤ 63504
length_rising total [] low bound rise small apart above = omega arith
length_rising total (x ∷ xs) low bound rise small apart above =
    let here = small x (contains_here x xs) in
    let first = above x (contains_here x xs) in
    let last = pair_small x here in
    let less : (l : Link) → Contains xs l → link_cmp x l ≡ Less = λ l has. All-contains (λ y. link_cmp x y ≡ Less) xs l (All-from_recursion (λ y. link_cmp x y ≡ Less) xs (sorted_head link_cmp x xs rise)) has in
    let rest = length_rising total xs (suc (pair_of x)) last (sorted_tail link_cmp x xs rise) (λ l has. small l (contains_later x xs l has))
    (λ k l hk hl e f. apart k l (contains_later x xs k hk) (contains_later x xs l hl) e f)
    (λ l has. pair_rises x l here (small l (contains_later x xs l has)) (less l has)
    (λ e f. let same = apart x l (contains_here x xs) (contains_later x xs l has) e f in
    let tie = tied_itself total x in let lt = subst (λ z. link_cmp x z ≡ Less) (sym same) (less l has) in absurd cc)) in
    omega arith

-- where a side has a connector, the position is one
right_within : (g : Linkage) (i p : ℕ) (a : Connector) → slice_get (right_list (chosen_at g i)) p ≡ Some a → i < length g.chosen
right_within g i p a e = elim (cases_lt i (length g.chosen)) [
  | inl lt ↦ lt
  | inr past ↦ (let f = subst (λ z. slice_get (right_list z) p ≡ Some a) (get_or_past g.chosen i None past) e in absurd cc)
]

left_within : (g : Linkage) (i p : ℕ) (a : Connector) → slice_get (left_list (chosen_at g i)) p ≡ Some a → i < length g.chosen
left_within g i p a e = elim (cases_lt i (length g.chosen)) [
  | inl lt ↦ lt
  | inr past ↦ (let f = subst (λ z. slice_get (left_list z) p ≡ Some a) (get_or_past g.chosen i None past) e in absurd cc)
]

-- a chosen disjunct is one of the problem
fits : (positions : List (List Disjunct)) (g : Linkage) → IsProblem positions → Belongs positions g → (i : ℕ) (d : Disjunct) → chosen_at g i ≡ Some d → FitsProblem d
fits positions g limits b i d e = elim (cases_lt i (length positions)) [
  | inl lt ↦ All-contains FitsProblem (get_or positions i []) d ((limits.each i [] lt).fit) (b.listed i d e)
  | inr past ↦ absurd (contains_none d (subst (λ z. Contains z d) (get_or_past positions i [] past) (b.listed i d e)))
]

small_cost : (o : Option Disjunct) → ((d : Disjunct) → o ≡ Some d → FitsProblem d) → HasSmallCost o
small_cost None h = tt
small_cost (Some d) h = (h d refl).cost

pub good_linkage : (positions : List (List Disjunct)) (g : Linkage) → IsTotalOrder link_cmp → IsProblem positions → Good positions g → IsLinkage g
good_linkage positions g total limits good =
    let b = good.belongs in
    let few = limits.few in
    let same = b.same_length in
    let small : (l : Link) → Contains g.links l → IsSmall l = λ l has. let j = good.rules.matched.joins l has in
    let x = right_within g l.left l.lplace j.0 j.2 in let y = left_within g l.right l.rplace j.1 j.3 in
    record { left = omega arith; right = omega arith } in
    let count = length_rising total g.links 0 (omega arith) b.set small good.rules.exclusive (λ l has. omega arith) in
    record {
      few = omega arith;
      few_links = omega arith;
      forward = λ k d lt. good.rules.matched.forward (get_or g.links k d) (Contains-get_or g.links k d lt);
      rise = b.set;
      costs = λ k d lt. small_cost (get_or g.chosen k d) (λ x e. fits positions g limits b k x (get_or_from_slice_get g.chosen k (get_or g.chosen k d) None (slice_get-get_or g.chosen k d lt) ∙ e));
    }
