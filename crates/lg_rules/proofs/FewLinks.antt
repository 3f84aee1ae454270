-- A linkage has fewer than 2^32 links, since there are so few places.
use Rattle.std.proofs.Common.{◌≡◌, ℕ, suc, ◌<◌, ◌≤◌, ◌+◌, ◌*◌, ◌^◌, List, [], ◌∷◌, length, true, false, inl, inr, ◌⊎◌, Contains, Less, arith}
use Rattle.std.specs.Ordering.{nat_cmp}
use Rattle.std.specs.List.Sorted.{IsStrictlySortedBy}
use Rattle.std.proofs.lemmas.List.Elements.{All-contains, All-from_recursion}
use Rattle.std.proofs.lemmas.Map.Keys.{sorted_head, sorted_tail}
use Rattle.lg_gram.specs.Linkages.{Linkage, link_cmp}
use Rattle.lg_gram.specs.Limits.{LINKAGE_POSITIONS}
use Rattle.lg_gram.specs.declared.linkage.Link.{Link}
use Rattle.lg_rules.specs.Places.{ArePlaced, HasShortSides}
use Rattle.lg_rules.proofs.Counts.{contains_here, contains_later}
use Rattle.lg_rules.proofs.Keys.{less_then, less_number}

-- positions below 252 and places below 255
record IsSmall (l : Link) : Type 0 where
  left : l.left < 252
  right : l.right < 252
  lplace : l.lplace < 255
  rplace : l.rplace < 255

-- the four numbers of a small link as one
number_of : Link → ℕ
number_of l = ((l.left * 252 + l.right) * 255 + l.lplace) * 255 + l.rplace

number_small : (l : Link) → IsSmall l → number_of l < 4129347600
unfolding number_of
number_small l h = let a = h.left in let b = h.right in let c = h.lplace in let d = h.rplace in omega arith

-- the order of links, number by number
less_cases : (k l : Link) → link_cmp k l ≡ Less → (k.left < l.left) ⊎ ((k.left ≡ l.left) × ((k.right < l.right) ⊎ ((k.right ≡ l.right) × ((k.lplace < l.lplace) ⊎ ((k.lplace ≡ l.lplace) × (nat_cmp k.rplace l.rplace ≡ Less))))))
less_cases k l e =
    elim (less_then k.left l.left _ e) [
      | inl a ↦ inl a
      | inr a ↦ inr (
        a.0,
        elim (less_then k.right l.right _ a.1) [
          | inl b ↦ inl b
          | inr b ↦ inr (b.0, elim (less_then k.lplace l.lplace _ b.1) [ inl c ↦ inl c | inr c ↦ inr c ])
        ],
      )
    ]

number_rises : (k l : Link) → IsSmall k → IsSmall l → link_cmp k l ≡ Less → number_of k < number_of l
unfolding number_of
number_rises k l small_k small_l e =
    let right = small_k.right in
    let lplace = small_k.lplace in
    let rplace = small_k.rplace in
    elim (less_cases k l e) [
      | inl a ↦ omega arith
      | inr a ↦ elim a.1 [
        | inl b ↦ omega (arith, a.0)
        | inr b ↦ elim b.1 [
          | inl c ↦ omega (arith, a.0, b.0)
          | inr c ↦ (let d = less_number k.rplace l.rplace c.1 in omega (arith, a.0, b.0, c.0))
        ]
      ]
    ]

-- a rising list of small links has no more links than there are numbers from its first one's
length_rising : (xs : List Link) (low : ℕ) → low ≤ 4129347600 → IsStrictlySortedBy link_cmp xs → ((l : Link) → Contains xs l → IsSmall l) →
    ((l : Link) → Contains xs l → low ≤ number_of l) → length xs + low ≤ 4129347600
length_rising [] low bound rise small above = omega arith
length_rising (x ∷ xs) low bound rise small above =
    let here = small x (contains_here x xs) in
    let first = above x (contains_here x xs) in
    let last = number_small x here in
    let rest = length_rising xs (suc (number_of x)) last (sorted_tail link_cmp x xs rise) (λ l has. small l (contains_later x xs l has))
    (λ l has. number_rises x l here (small l (contains_later x xs l has))
    (All-contains (λ y. link_cmp x y ≡ Less) xs l (All-from_recursion (λ y. link_cmp x y ≡ Less) xs (sorted_head link_cmp x xs rise)) has)) in
    omega arith

placed_small : (g : Linkage) → length g.chosen ≤ LINKAGE_POSITIONS → HasShortSides g → ArePlaced g → (l : Link) → Contains g.links l → IsSmall l
placed_small g few short placed l has =
    let at = placed l has in
    let forward = at.forward in
    let within = at.within in
    let lplace = at.lplace in
    let rplace = at.rplace in
    let rights = short true l.left in
    let lefts = short false l.right in
    record { left = omega arith; right = omega arith; lplace = omega arith; rplace = omega arith }

pub few_links : (g : Linkage) → length g.chosen ≤ LINKAGE_POSITIONS → HasShortSides g → ArePlaced g → IsStrictlySortedBy link_cmp g.links → length g.links < 2 ^ 32
few_links g few short placed rise =
    let h = length_rising g.links 0 (omega arith) rise (placed_small g few short placed) (λ l has. omega arith) in
    omega arith
