-- Sets of links, written in order, as parts of the list of all.
use Rattle.std.proofs.Common.{◌≡◌, suc, zero, List, [], ◌∷◌, ◌++◌, Option, refl, sym, ap, ◌∙◌, subst, inl, inr, ◌⊎◌, arith, Less}
use Rattle.std.specs.List.{AllByRecursion, Contains}
use Rattle.std.specs.List.Sorted.{IsStrictlySortedBy}
use Rattle.std.proofs.lemmas.Map.Keys.{sorted_head, sorted_tail}
use Rattle.std.proofs.lemmas.Cmp.{tied_itself}
use Rattle.std.proofs.lemmas.List.Elements.{All-from_recursion, recursion_from_All, All-contains}
use Rattle.std.specs.Cmp.{IsTotalOrder}
use Rattle.lg_gram.specs.Linkages.{link_cmp}
use Rattle.lg_gram.specs.declared.disjunct.Disjunct.{Disjunct}
use Rattle.lg_gram.specs.declared.linkage.Link.{Link}
use Rattle.lg_rules.specs.Partners.{CanLink, AreLinks}
use Rattle.lg_rules.specs.Steps.{IsSublist}

abbrev Rises : List Link → Type 0
Rises links = IsStrictlySortedBy link_cmp links

contains_cases : (y : Link) (ys : List Link) (x : Link) → Contains (y ∷ ys) x → (y ≡ x) ⊎ Contains ys x
contains_cases y ys x (zero, lt, e) = inl e
contains_cases y ys x (suc k, lt, e) = inr (k, omega arith, e)

pub contains_head : (y : Link) (ys : List Link) → Contains (y ∷ ys) y
contains_head y ys = (0, omega arith, refl)

pub contains_tail : (y : Link) (ys : List Link) (x : Link) → Contains ys x → Contains (y ∷ ys) x
contains_tail y ys x (k, lt, e) = (suc k, omega arith, e)

not_itself : IsTotalOrder link_cmp → (x : Link) → link_cmp x x ≡ Less → ⊥
not_itself total x h = let e = tied_itself total x in cc

not_both : IsTotalOrder link_cmp → (x y : Link) → link_cmp x y ≡ Less → link_cmp y x ≡ Less → ⊥
not_both total x y h i = let e = total.antisymm x y in let f = rw i at e in cc

after_head : (x : Link) (xs : List Link) (y : Link) → AllByRecursion (λ y. link_cmp x y ≡ Less) xs → Contains xs y → link_cmp x y ≡ Less
after_head x xs y h i = All-contains (λ y. link_cmp x y ≡ Less) xs y (All-from_recursion (λ y. link_cmp x y ≡ Less) xs h) i

-- each of these is one of those
abbrev pub AreAmong : List Link → List Link → Type 0
AreAmong xs ys = (z : Link) → Contains xs z → Contains ys z

-- z is an element of x ∷ xs, and x is behind c
in_later : IsTotalOrder link_cmp → (c : Link) (cs : List Link) (x : Link) (xs : List Link) → AllByRecursion (λ y. link_cmp x y ≡ Less) xs → link_cmp c x ≡ Less →
    (z : Link) → (x ≡ z) ⊎ Contains xs z → (c ≡ z) ⊎ Contains cs z → Contains cs z
in_later total c cs x xs up h z i (inr m) = m
in_later total c cs x xs up h z (inl e) (inl f) = absurd (not_itself total c (subst (λ y. link_cmp c y ≡ Less) (e ∙ sym f) h))
in_later total c cs x xs up h z (inr i) (inl f) = absurd (not_both total x c (subst (λ y. link_cmp x y ≡ Less) (sym f) (after_head x xs z up i)) h)

-- the same where x is c
in_later_same : IsTotalOrder link_cmp → (c : Link) (cs : List Link) (x : Link) (xs : List Link) → AllByRecursion (λ y. link_cmp x y ≡ Less) xs → c ≡ x →
    (z : Link) → Contains xs z → (c ≡ z) ⊎ Contains cs z → Contains cs z
in_later_same total c cs x xs up h z i (inr m) = m
in_later_same total c cs x xs up h z i (inl f) = absurd (not_itself total x (subst (λ y. link_cmp x y ≡ Less) (sym f ∙ h) (after_head x xs z up i)))

sublist_step : IsTotalOrder link_cmp → (x : Link) (xs : List Link) (c : Link) (cs : List Link) → Rises (x ∷ xs) → AreAmong (x ∷ xs) (c ∷ cs) → AllByRecursion (λ y. link_cmp c y ≡ Less) cs →
    (AreAmong xs cs → IsSublist xs cs) → (AreAmong (x ∷ xs) cs → IsSublist (x ∷ xs) cs) → (c ≡ x) ⊎ Contains cs x → IsSublist (x ∷ xs) (c ∷ cs)
unfolding IsSublist
sublist_step total x xs c cs up w upc both skip (inl e) =
    inr (xs, ap (λ y. y ∷ xs) (sym e), both (λ z i. in_later_same total c cs x xs (sorted_head link_cmp x xs up) e z i (contains_cases c cs z (w z (contains_tail x xs z i)))))
sublist_step total x xs c cs up w upc both skip (inr m) =
    inl (skip (λ z i. in_later total c cs x xs (sorted_head link_cmp x xs up) (after_head c cs x upc m) z (contains_cases x xs z i) (contains_cases c cs z (w z i))))

-- a set of links, written in order, whose elements are all among those of another is a part of it
pub sublist_of : IsTotalOrder link_cmp → (xs cs : List Link) → Rises xs → Rises cs → AreAmong xs cs → IsSublist xs cs
unfolding IsSublist
sublist_of total [] [] up upc w = refl
sublist_of total (x ∷ xs) [] up upc w = let m = w x (contains_head x xs) in absurd (omega arith)
sublist_of total [] (c ∷ cs) up upc w = inl (sublist_of total [] cs up (sorted_tail link_cmp c cs upc) (λ z m. absurd (omega (arith, m.1))))
sublist_of total (x ∷ xs) (c ∷ cs) up upc w =
    sublist_step total x xs c cs up w (sorted_head link_cmp c cs upc)
    (λ v. sublist_of total xs cs (sorted_tail link_cmp x xs up) (sorted_tail link_cmp c cs upc) v)
    (λ v. sublist_of total (x ∷ xs) cs up (sorted_tail link_cmp c cs upc) v)
    (contains_cases c cs x (w x (contains_head x xs)))

sublist_all : (P : Link → Type 0) (xs ys : List Link) → IsSublist xs ys → AllByRecursion P ys → AllByRecursion P xs
unfolding IsSublist
sublist_all P xs [] s h = rw s tt
sublist_all P xs (y ∷ ys) (inl s) h = sublist_all P xs ys s h.1
sublist_all P xs (y ∷ ys) (inr s) h = rw s.1 (h.0, sublist_all P s.0 ys s.2 h.1)

pub sublist_rises : (xs ys : List Link) → IsSublist xs ys → Rises ys → Rises xs
unfolding IsSublist IsStrictlySortedBy
sublist_rises xs [] s h = rw s tt
sublist_rises xs (y ∷ ys) (inl s) h = sublist_rises xs ys s h.1
sublist_rises xs (y ∷ ys) (inr s) h = rw s.1 (sublist_all (λ z. link_cmp y z ≡ Less) s.0 ys s.2 h.0, sublist_rises s.0 ys s.2 h.1)

sublist_contains_cons : (y : Link) (ys zs : List Link) (x : Link) → (Contains zs x → Contains ys x) → (y ≡ x) ⊎ Contains zs x → Contains (y ∷ ys) x
sublist_contains_cons y ys zs x more (inl e) = (0, omega arith, e)
sublist_contains_cons y ys zs x more (inr m) = contains_tail y ys x (more m)

pub sublist_contains : (xs ys : List Link) → IsSublist xs ys → AreAmong xs ys
unfolding IsSublist
sublist_contains xs [] s z m = rw s at m
sublist_contains xs (y ∷ ys) (inl s) z m = contains_tail y ys z (sublist_contains xs ys s z m)
sublist_contains xs (y ∷ ys) (inr s) z m = sublist_contains_cons y ys s.0 z (sublist_contains s.0 ys s.2 z) (contains_cases y s.0 z (rw s.1 at m))

pub sublist_itself : (xs : List Link) → IsSublist xs xs
unfolding IsSublist
sublist_itself [] = refl
sublist_itself (x ∷ xs) = inr (xs, refl, sublist_itself xs)

-- a list without one of its elements
pub sublist_without : (xs : List Link) (y : Link) (ys : List Link) → IsSublist (xs ++ ys) (xs ++ y ∷ ys)
unfolding IsSublist
sublist_without [] y ys = inl (sublist_itself ys)
sublist_without (x ∷ xs) y ys = inr (xs ++ ys, refl, sublist_without xs y ys)

-- what a choice allows of a list, it allows of a part of it
pub sublist_links : (chosen : List (Option Disjunct)) (xs ys : List Link) → IsSublist xs ys → AreLinks chosen ys → AreLinks chosen xs
sublist_links chosen xs ys s are = record {
  allowed = All-from_recursion (CanLink chosen) xs (sublist_all (CanLink chosen) xs ys s (recursion_from_All (CanLink chosen) ys are.allowed));
  rise = sublist_rises xs ys s are.rise;
}
