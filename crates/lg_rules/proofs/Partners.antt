-- The loops over positions and places find all links that a choice allows, in order.
use Rattle.std.proofs.Common.{◌≡◌, ℕ, lt_of_lt_of_le, ◌<◌, ◌≤◌, ◌+◌, List, [], ◌∷◌, ◌++◌, length, sym, subst, inl, inr, ◌⊎◌, arith, Less, Option}
use Rattle.std.specs.List.{All, Contains}
use Rattle.std.specs.List.Sorted.{IsStrictlySortedBy}
use Rattle.std.proofs.lemmas.List.Elements.{All-from_recursion, recursion_from_All, All-push, All-weaker, All-nil, All-head, All-tail, Contains-append_left, Contains-push}
use Rattle.std.proofs.lemmas.Bool.Decides.{nat_tests}
use Rattle.lg_gram.specs.Linkages.{link_cmp}
use Rattle.lg_gram.specs.declared.disjunct.Disjunct.{Disjunct}
use Rattle.lg_gram.specs.declared.linkage.Link.{Link}
use Rattle.lg_rules.specs.Partners.{right_at, left_at, CanLink, IsBefore, HasThoseBefore}
use Rattle.lg_rules.proofs.Allowed.{right_within, lplace_within, rplace_within}

less_if_before : (k m : Link) → IsBefore k m.left m.right m.lplace m.rplace → link_cmp k m ≡ Less
less_if_before k m h = grind (arith, nat_tests)

rise_push : (xs : List Link) (m : Link) → IsStrictlySortedBy link_cmp xs → All (λ k. link_cmp k m ≡ Less) xs → IsStrictlySortedBy link_cmp (xs ++ m ∷ [])
unfolding IsStrictlySortedBy
rise_push [] m up h = (tt, tt)
rise_push (x ∷ xs) m up h = (
  recursion_from_All (λ y. link_cmp x y ≡ Less) (xs ++ m ∷ []) (All-push (λ y. link_cmp x y ≡ Less) xs m (All-from_recursion (λ y. link_cmp x y ≡ Less) xs up.0) (All-head (λ k. link_cmp k m ≡ Less) x xs h)),
  rise_push xs m up.1 (All-tail (λ k. link_cmp k m ≡ Less) x xs h),
)

-- the next place, where no allowed link stands between
has_next : (chosen : List (Option Disjunct)) (out : List Link) (l r p q l' r' p' q' : ℕ) → HasThoseBefore chosen out l r p q →
    ((k : Link) → IsBefore k l r p q → IsBefore k l' r' p' q') → ((k : Link) → CanLink chosen k → IsBefore k l' r' p' q' → IsBefore k l r p q) →
    HasThoseBefore chosen out l' r' p' q'
has_next chosen out l r p q l' r' p' q' h up down = record {
  are = h.are;
  before = All-weaker (λ k. IsBefore k l r p q) (λ k. IsBefore k l' r' p' q') up out h.before;
  every = λ k can b. h.every k can (down k can b);
}

link_of : ℕ → ℕ → ℕ → ℕ → Link
link_of a b c d = record { left = a; lplace = c; right = b; rplace = d }

link_of-same : (a b c d i j k l : ℕ) → a ≡ i → b ≡ j → c ≡ k → d ≡ l → link_of i j k l ≡ link_of a b c d
link_of-same a b c d i j k l e f g h = cc

same_link : (k m : Link) → k.left ≡ m.left → k.right ≡ m.right → k.lplace ≡ m.lplace → k.rplace ≡ m.rplace → m ≡ k
unfolding link_of
same_link k m a b c d = link_of-same k.left k.right k.lplace k.rplace m.left m.right m.lplace m.rplace a b c d

below_or_at : (a b : ℕ) → a < b + 1 → (a < b) ⊎ (a ≡ b)
below_or_at a b h = grind arith

before_or_here : (k m : Link) → IsBefore k m.left m.right m.lplace (m.rplace + 1) → IsBefore k m.left m.right m.lplace m.rplace ⊎ (m ≡ k)
before_or_here k m (inl h) = inl (inl h)
before_or_here k m (inr (e, inl h)) = inl (inr (e, inl h))
before_or_here k m (inr (e, inr (f, inl h))) = inl (inr (e, inr (f, inl h)))
before_or_here k m (inr (e, inr (f, inr (i, h)))) =
    elim (below_or_at k.rplace m.rplace h) [ inl j ↦ inl (inr (e, inr (f, inr (i, j)))) | inr j ↦ inr (same_link k m e f i j) ]

-- the link at the place is allowed, and is pushed
pub has_pushed : (chosen : List (Option Disjunct)) (out : List Link) (m : Link) → CanLink chosen m →
    HasThoseBefore chosen out m.left m.right m.lplace m.rplace → HasThoseBefore chosen (out ++ m ∷ []) m.left m.right m.lplace (m.rplace + 1)
has_pushed chosen out m can h = record {
  are = record {
    allowed = All-push (CanLink chosen) out m h.are.allowed can;
    rise = rise_push out m h.are.rise (All-weaker (λ k. IsBefore k m.left m.right m.lplace m.rplace) (λ k. link_cmp k m ≡ Less) (λ k. less_if_before k m) out h.before);
  };
  before = All-push (λ k. IsBefore k m.left m.right m.lplace (m.rplace + 1)) out m (All-weaker (λ k. IsBefore k m.left m.right m.lplace m.rplace) (λ k. IsBefore k m.left m.right m.lplace (m.rplace + 1)) (λ k b. grind arith) out h.before) (grind arith);
  every = λ k i b. elim (before_or_here k m b) [ inl c ↦ Contains-append_left out (m ∷ []) k (h.every k i c) | inr e ↦ subst (λ z. Contains (out ++ m ∷ []) z) e (Contains-push out m) ];
}

-- the link at the place is not allowed
pub has_skipped : (chosen : List (Option Disjunct)) (out : List Link) (m : Link) → (CanLink chosen m → ⊥) →
    HasThoseBefore chosen out m.left m.right m.lplace m.rplace → HasThoseBefore chosen out m.left m.right m.lplace (m.rplace + 1)
has_skipped chosen out m bad h =
    has_next chosen out m.left m.right m.lplace m.rplace m.left m.right m.lplace (m.rplace + 1) h (λ k b. grind arith)
    (λ k j b. elim (before_or_here k m b) [ inl c ↦ c | inr e ↦ absurd (bad (subst (λ z. CanLink chosen z) (sym e) j)) ])

not_before : (k : Link) → IsBefore k 0 0 0 0 → ⊥
not_before k b = grind arith

-- a list of partners, a list of places, or a position is done
down_partners : (k : Link) (l r p q : ℕ) → (k.right ≡ r → k.rplace < q) → IsBefore k l r (p + 1) 0 → IsBefore k l r p q
down_partners k l r p q f (inl h) = inl h
down_partners k l r p q f (inr (e, inl h)) = inr (e, inl h)
down_partners k l r p q f (inr (e, inr (i, inl h))) = elim (below_or_at k.lplace p h) [ inl j ↦ inr (e, inr (i, inl j)) | inr j ↦ inr (e, inr (i, inr (j, f i))) ]
down_partners k l r p q f (inr (e, inr (i, inr (j, h)))) = absurd (omega arith)

down_places : (k : Link) (l r p : ℕ) → (k.left ≡ l → k.lplace < p) → IsBefore k l (r + 1) 0 0 → IsBefore k l r p 0
down_places k l r p f (inl h) = inl h
down_places k l r p f (inr (e, inl h)) = elim (below_or_at k.right r h) [ inl j ↦ inr (e, inl j) | inr j ↦ inr (e, inr (j, inl (f e))) ]
down_places k l r p f (inr (e, inr (i, inl h))) = absurd (omega arith)
down_places k l r p f (inr (e, inr (i, inr (j, h)))) = absurd (omega arith)

down_from : (k : Link) (l r : ℕ) → k.right < r → IsBefore k (l + 1) 0 0 0 → IsBefore k l r 0 0
down_from k l r f (inl h) = elim (below_or_at k.left l h) [ inl j ↦ inl j | inr j ↦ inr (j, inl f) ]
down_from k l r f (inr (e, inl h)) = absurd (omega arith)
down_from k l r f (inr (e, inr (i, inl h))) = absurd (omega arith)
down_from k l r f (inr (e, inr (i, inr (j, h)))) = absurd (omega arith)

down_start : (k : Link) (l : ℕ) → k.left < k.right → IsBefore k l (l + 1) 0 0 → IsBefore k l 0 0 0
down_start k l f (inl h) = inl h
down_start k l f (inr (e, inl h)) = absurd (omega arith)
down_start k l f (inr (e, inr (i, inl h))) = absurd (omega arith)
down_start k l f (inr (e, inr (i, inr (j, h)))) = absurd (omega arith)

pub has_all_partners : (chosen : List (Option Disjunct)) (out : List Link) (l r p q : ℕ) → length (left_at chosen r) ≤ q → HasThoseBefore chosen out l r p q → HasThoseBefore chosen out l r (p + 1) 0
has_all_partners chosen out l r p q full h =
    has_next chosen out l r p q l r (p + 1) 0 h (λ k b. grind arith)
    (λ k can b. down_partners k l r p q (λ e. lt_of_lt_of_le (rplace_within chosen k can) (rw e full)) b)

pub has_all_places : (chosen : List (Option Disjunct)) (out : List Link) (l r p : ℕ) → length (right_at chosen l) ≤ p → HasThoseBefore chosen out l r p 0 → HasThoseBefore chosen out l (r + 1) 0 0
has_all_places chosen out l r p full h =
    has_next chosen out l r p 0 l (r + 1) 0 0 h (λ k b. grind arith)
    (λ k can b. down_places k l r p (λ e. lt_of_lt_of_le (lplace_within chosen k can) (rw e full)) b)

pub has_all_from : (chosen : List (Option Disjunct)) (out : List Link) (l r : ℕ) → length chosen ≤ r → HasThoseBefore chosen out l r 0 0 → HasThoseBefore chosen out (l + 1) 0 0 0
has_all_from chosen out l r full h =
    has_next chosen out l r 0 0 (l + 1) 0 0 0 h (λ k b. grind arith)
    (λ k can b. down_from k l r (lt_of_lt_of_le (right_within chosen k can) full) b)

-- no link goes from a position to one before it
pub has_start : (chosen : List (Option Disjunct)) (out : List Link) (l : ℕ) → HasThoseBefore chosen out l 0 0 0 → HasThoseBefore chosen out l (l + 1) 0 0
has_start chosen out l h =
    has_next chosen out l 0 0 0 l (l + 1) 0 0 h (λ k b. grind arith) (λ k can b. down_start k l can.forward b)

pub has_none : (chosen : List (Option Disjunct)) → HasThoseBefore chosen [] 0 0 0 0
unfolding IsStrictlySortedBy
has_none chosen = record {
  are = record { allowed = All-nil (CanLink chosen); rise = tt };
  before = All-nil (λ k. IsBefore k 0 0 0 0);
  every = λ k can b. absurd (not_before k b);
}

pub has_all : (chosen : List (Option Disjunct)) (out : List Link) (l : ℕ) → length chosen ≤ l → HasThoseBefore chosen out l 0 0 0 → (k : Link) → CanLink chosen k → Contains out k
has_all chosen out l full h k can = let r = right_within chosen k can in let f = can.forward in h.every k can (inl (omega arith))
