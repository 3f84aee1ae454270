-- A good linkage has at most one link for each two positions.
use Rattle.std.proofs.Common.{◌≡◌, ℕ, zero, suc, ◌+◌, ◌*◌, ◌<◌, ◌≤◌, List, [], ◌∷◌, length, map, Some, None, ◌⊎◌, inl, inr, refl, sym, ap, subst, arith, Less, Equal, Greater}
use Rattle.std.specs.Prelude.{slice_get, Contains}
use Rattle.std.specs.declared.cmp.Ordering.{Ordering}
use Rattle.std.specs.Ordering.{nat_cmp, ordering_then}
use Rattle.std.specs.Cmp.{nat_cmp_is}
use Rattle.std.specs.List.{AllByRecursion}
use Rattle.std.specs.List.Sorted.{IsStrictlySortedBy}
use Rattle.std.proofs.lemmas.Bool.{cases_lt}
use Rattle.std.proofs.lemmas.Bool.Decides.{nat_tests}
use Rattle.std.proofs.lemmas.List.{get_or_past, length-map}
use Rattle.std.proofs.lemmas.List.Elements.{All-from_recursion}
use Rattle.std.proofs.lemmas.Map.Views.{length-le_from_below}
use Rattle.lg_gram.specs.Connectors.{Connector}
use Rattle.lg_gram.specs.Linkages.{Linkage, IsLinkage, link_cmp}
use Rattle.lg_gram.specs.Rules.{HasLink, lefts_of, left_list}
use Rattle.lg_gram.specs.declared.linkage.Link.{Link}
use Rattle.lg_usage.specs.Totals.{IsGood}

-- the right end of a link is a position
left_chosen : (g : Linkage) (i p : ℕ) (c : Connector) → slice_get (lefts_of g i) p ≡ Some c → length g.chosen ≤ i → ⊥
left_chosen g i p c here past =
    let e = get_or_past g.chosen i None past in
    let h : slice_get (left_list None) p ≡ Some c = subst (λ o. slice_get (left_list o) p ≡ Some c) e here in
    cc

ends_within : (g : Linkage) → IsGood g → (l : Link) → HasLink g l → l.right < length g.chosen
ends_within g good l has =
    let j = good.good.rules.matched.joins l has in
    elim (cases_lt l.right (length g.chosen)) [ inl less ↦ less | inr past ↦ absurd (left_chosen g l.right l.rplace j.1 j.3 past) ]

-- the two positions of a link as one number
abbrev code : Link → ℕ
code l = 252 * l.left + l.right

by_first : (o rest : Ordering) → ordering_then o rest ≡ Less → (o ≡ Less) ⊎ ((o ≡ Equal) × (rest ≡ Less))
by_first Less rest h = inl refl
by_first Equal rest h = inr (refl, h)
by_first Greater rest h = absurd cc

is_less : (m n : ℕ) → nat_cmp m n ≡ Less → m < n
is_less m n h = grind (arith, nat_tests)

is_equal : (m n : ℕ) → nat_cmp m n ≡ Equal → m ≡ n
is_equal m n h = grind (arith, nat_tests)

not_below : (m n : ℕ) → m ≡ n → nat_cmp m n ≡ Less → ⊥
not_below m n e h = let less = is_less m n h in absurd (omega (arith, e, less))

-- two links in their order, which do not join the same two positions
code_less : (k l : Link) → k.right < 252 → l.right < 252 → link_cmp k l ≡ Less → (k.left ≡ l.left → k.right ≡ l.right → k ≡ l) → code k < code l
code_less k l near far order one =
    elim (by_first (nat_cmp k.left l.left) _ order) [
      | inl less ↦ let first = is_less k.left l.left less in omega (arith, first, near)
      | inr same ↦
          let left = is_equal k.left l.left same.0 in
          elim (by_first (nat_cmp k.right l.right) _ same.1) [
            | inl less ↦ let second = is_less k.right l.right less in omega (arith, left, second)
            | inr both ↦
                let right = is_equal k.right l.right both.0 in
                let is : k ≡ l = one left right in
                elim (by_first (nat_cmp k.lplace l.lplace) _ both.1) [
                  | inl less ↦ absurd (not_below k.lplace l.lplace (ap (λ m. m.lplace) is) less)
                  | inr rest ↦ absurd (not_below k.rplace l.rplace (ap (λ m. m.rplace) is) rest.1)
                ]
          ]
    ]

head_in : (y : Link) (ys : List Link) → Contains (y ∷ ys) y
head_in y ys = (zero, omega arith, refl)

tail_in : (y z : Link) (ys : List Link) → Contains ys z → Contains (y ∷ ys) z
tail_in y z ys c = (suc c.0, omega (arith, c.1), c.2)

-- no two of some links join the same two positions, and each ends within a sentence
abbrev AreApart : List Link → Type 0
AreApart xs = (k l : Link) → Contains xs k → Contains xs l → k.left ≡ l.left → k.right ≡ l.right → k ≡ l

abbrev AreWithin : List Link → Type 0
AreWithin xs = (l : Link) → Contains xs l → l.right < 252

behind_head : (x : Link) (ys : List Link) → x.right < 252 → AllByRecursion (λ y. link_cmp x y ≡ Less) ys → ((y : Link) → Contains ys y → x.left ≡ y.left → x.right ≡ y.right → x ≡ y) → AreWithin ys
    → AllByRecursion (λ c. nat_cmp (code x) c ≡ Less) (map code ys)
behind_head x [] near all one within = tt
behind_head x (y ∷ ys) near all one within =
    let less = code_less x y near (within y (head_in y ys)) all.0 (one y (head_in y ys)) in
    (sym (nat_cmp_is (code x) (code y) Less less), behind_head x ys near all.1 (λ z c. one z (tail_in y z ys c)) (λ z c. within z (tail_in y z ys c)))

codes_rise : (xs : List Link) → IsStrictlySortedBy link_cmp xs → AreApart xs → AreWithin xs → IsStrictlySortedBy nat_cmp (map code xs)
unfolding IsStrictlySortedBy
codes_rise [] h one within = tt
codes_rise (x ∷ xs) h one within = (
  behind_head x xs (within x (head_in x xs)) h.0 (λ y c. one x y (head_in x xs) (tail_in x y xs c)) (λ l c. within l (tail_in x l xs c)),
  codes_rise xs h.1 (λ k l c d. one k l (tail_in x k xs c) (tail_in x l xs d)) (λ l c. within l (tail_in x l xs c)),
)

codes_below : (xs : List Link) → ((l : Link) → Contains xs l → (l.left < l.right) × (l.right < 252)) → AllByRecursion (λ c. c < 252 * 252) (map code xs)
codes_below [] h = tt
codes_below (x ∷ xs) h =
    let here = h x (head_in x xs) in
    (omega (arith, here.0, here.1), codes_below xs (λ l c. h l (tail_in x l xs c)))

pub links_are_few : (g : Linkage) → IsLinkage g → IsGood g → length g.links ≤ 252 * 252
links_are_few g is good =
    let within : AreWithin g.links = λ l c. let e = ends_within g good l c in omega (arith, e, is.few) in
    let rise = codes_rise g.links is.rise (λ k l c d. good.good.rules.exclusive k l c d) within in
    let below = codes_below g.links (λ l c. (good.good.rules.matched.forward l c, within l c)) in
    let few = length-le_from_below (252 * 252) (map code g.links) rise (All-from_recursion (λ c. c < 252 * 252) (map code g.links) below) in
    omega (arith, few, length-map g.links code)
