-- Strictly increasing lists of links, as sets.
use Rattle.std.proofs.Common.{◌≡◌, ℕ, List, [], ◌∷◌, get_or, refl, sym, ap, ◌∙◌, subst, inl, inr, ◌⊎◌, Contains, arith, Ordering, Less, Equal, Greater}
use Rattle.std.specs.List.{AllByRecursion}
use Rattle.std.specs.List.Sorted.{IsStrictlySortedBy}
use Rattle.std.proofs.lemmas.Map.Keys.{sorted_head, sorted_tail}
use Rattle.std.proofs.lemmas.Cmp.{tied_itself}
use Rattle.std.proofs.lemmas.Bool.Decides.{nat_tests}
use Rattle.std.proofs.lemmas.List.Elements.{All-from_recursion, recursion_from_All, All-contains, Contains-get_or}
use Rattle.lg_gram.specs.declared.linkage.Link.{Link}
use Rattle.lg_gram.specs.Linkages.{link_cmp}
use Rattle.lg_base.proofs.Elements.{contains_here, contains_later, contains_cases, contains_none}
use Rattle.lg_gram.proofs.Orders.{links_total}

pub not_itself : (x : Link) → link_cmp x x ≡ Less → ⊥
not_itself x h = let e = tied_itself links_total x in cc

not_both : (x y : Link) → link_cmp x y ≡ Less → link_cmp y x ≡ Less → ⊥
not_both x y h i = let e = links_total.antisymm x y in let f = rw i at e in cc

pub after_head : (x : Link) (xs : List Link) (y : Link) → AllByRecursion (λ y. link_cmp x y ≡ Less) xs → Contains xs y → link_cmp x y ≡ Less
after_head x xs y h i = All-contains (λ y. link_cmp x y ≡ Less) xs y (All-from_recursion (λ y. link_cmp x y ≡ Less) xs h) i

pub before_all : (x : Link) (xs : List Link) → ((y : Link) → Contains xs y → link_cmp x y ≡ Less) → AllByRecursion (λ y. link_cmp x y ≡ Less) xs
before_all x xs h = recursion_from_All (λ y. link_cmp x y ≡ Less) xs (λ k d l. h (get_or xs k d) (Contains-get_or xs k d l))

abbrev pub IsSet : List Link → Type 0
IsSet xs = IsStrictlySortedBy link_cmp xs

tail_in : (x : Link) (xs : List Link) (y : Link) (ys : List Link) → IsSet (x ∷ xs) → x ≡ y → ((z : Link) → Contains (x ∷ xs) z → Contains (y ∷ ys) z) → (z : Link) → Contains xs z → Contains ys z
tail_in x xs y ys up e h z i =
    elim (contains_cases y ys z (h z (contains_later x xs z i))) [
      | inl f ↦ absurd (not_itself x (subst (λ w. link_cmp x w ≡ Less) (sym (e ∙ f)) (after_head x xs z (sorted_head link_cmp x xs up) i)))
      | inr g ↦ g
    ]

-- two sets with the same links are one
pub same_set : (xs ys : List Link) → IsSet xs → IsSet ys → ((z : Link) → Contains xs z → Contains ys z) → ((z : Link) → Contains ys z → Contains xs z) → xs ≡ ys
same_set [] [] up vp h i = refl
same_set [] (y ∷ ys) up vp h i = absurd (contains_none y (i y (contains_here y ys)))
same_set (x ∷ xs) [] up vp h i = absurd (contains_none x (h x (contains_here x xs)))
same_set (x ∷ xs) (y ∷ ys) up vp h i =
    let e : x ≡ y = elim (contains_cases y ys x (h x (contains_here x xs))) [
      | inl f ↦ sym f
      | inr m ↦ elim (contains_cases x xs y (i y (contains_here y ys))) [
        | inl f ↦ f
        | inr n ↦ absurd (not_both x y (after_head x xs y (sorted_head link_cmp x xs up) n) (after_head y ys x (sorted_head link_cmp y ys vp) m))
      ]
    ] in
    let t : xs ≡ ys = same_set xs ys (sorted_tail link_cmp x xs up) (sorted_tail link_cmp y ys vp) (tail_in x xs y ys up e h) (tail_in y ys x xs vp (sym e) i) in
    subst (λ w. x ∷ xs ≡ w ∷ ys) e (ap (λ w. x ∷ w) t)

link_of : ℕ → ℕ → ℕ → ℕ → Link
link_of a b c d = record { left = a; lplace = c; right = b; rplace = d }

link_of-same : (a b c d i j k l : ℕ) → a ≡ i → b ≡ j → c ≡ k → d ≡ l → link_of a b c d ≡ link_of i j k l
link_of-same a b c d i j k l e f g h = cc

pub equal_links : (x y : Link) → link_cmp x y ≡ Equal → x ≡ y
unfolding link_of
equal_links x y h =
    link_of-same x.left x.right x.lplace x.rplace y.left y.right y.lplace y.rplace (grind (arith, nat_tests)) (grind (arith, nat_tests)) (grind (arith, nat_tests)) (grind (arith, nat_tests))

-- with one more link
abbrev pub insert_step : Ordering → Link → Link → List Link → List Link → List Link
insert_step Less x y ys longer = x ∷ y ∷ ys
insert_step Equal x y ys longer = y ∷ ys
insert_step Greater x y ys longer = y ∷ longer

abbrev pub insert : Link → List Link → List Link
insert x [] = x ∷ []
insert x (y ∷ ys) = insert_step (link_cmp x y) x y ys (insert x ys)

-- all of two sets
abbrev pub insert_all : List Link → List Link → List Link
insert_all [] ys = ys
insert_all (x ∷ xs) ys = insert x (insert_all xs ys)

step_in : (o : Ordering) (x y : Link) (ys longer : List Link) (z : Link) → (Contains ys z → Contains longer z) → Contains (y ∷ ys) z → Contains (insert_step o x y ys longer) z
step_in Less x y ys longer z h i = contains_later x (y ∷ ys) z i
step_in Equal x y ys longer z h i = i
step_in Greater x y ys longer z h i = elim (contains_cases y ys z i) [ inl e ↦ subst (λ w. Contains (y ∷ longer) w) e (contains_here y longer) | inr j ↦ contains_later y longer z (h j) ]

pub insert_in : (x : Link) (xs : List Link) (z : Link) → Contains xs z → Contains (insert x xs) z
insert_in x [] z i = absurd (contains_none z i)
insert_in x (y ∷ ys) z i = step_in (link_cmp x y) x y ys (insert x ys) z (insert_in x ys z) i

step_new : (o : Ordering) (x y : Link) (ys longer : List Link) → link_cmp x y ≡ o → Contains longer x → Contains (insert_step o x y ys longer) x
step_new Less x y ys longer e h = contains_here x (y ∷ ys)
step_new Equal x y ys longer e h = subst (λ w. Contains (y ∷ ys) w) (sym (equal_links x y e)) (contains_here y ys)
step_new Greater x y ys longer e h = contains_later y longer x h

pub insert_new : (x : Link) (xs : List Link) → Contains (insert x xs) x
insert_new x [] = contains_here x []
insert_new x (y ∷ ys) = step_new (link_cmp x y) x y ys (insert x ys) refl (insert_new x ys)

step_out : (o : Ordering) (x y : Link) (ys longer : List Link) (z : Link) → (Contains longer z → (x ≡ z) ⊎ Contains ys z) → Contains (insert_step o x y ys longer) z → (x ≡ z) ⊎ Contains (y ∷ ys) z
step_out Less x y ys longer z h i = contains_cases x (y ∷ ys) z i
step_out Equal x y ys longer z h i = inr i
step_out Greater x y ys longer z h i =
    elim (contains_cases y longer z i) [
      | inl e ↦ inr (subst (λ w. Contains (y ∷ ys) w) e (contains_here y ys))
      | inr j ↦ elim (h j) [ inl e ↦ inl e | inr k ↦ inr (contains_later y ys z k) ]
    ]

pub insert_out : (x : Link) (xs : List Link) (z : Link) → Contains (insert x xs) z → (x ≡ z) ⊎ Contains xs z
insert_out x [] z i = contains_cases x [] z i
insert_out x (y ∷ ys) z i = step_out (link_cmp x y) x y ys (insert x ys) z (insert_out x ys z) i

step_set : (o : Ordering) (x y : Link) (ys : List Link) → link_cmp x y ≡ o → IsSet (y ∷ ys) → IsSet (insert x ys) → IsSet (insert_step o x y ys (insert x ys))
unfolding IsStrictlySortedBy
step_set Less x y ys e up s =
    (before_all x (y ∷ ys) (λ z i. elim (contains_cases y ys z i) [ inl f ↦ subst (λ w. link_cmp x w ≡ Less) f e | inr j ↦ links_total.trans x y z e (after_head y ys z up.0 j) ]), up)
step_set Equal x y ys e up s = up
step_set Greater x y ys e up s =
    (before_all y (insert x ys) (λ z i. elim (insert_out x ys z i) [ inl f ↦ subst (λ w. link_cmp y w ≡ Less) f (let a = links_total.antisymm y x in let b = rw e at a in b) | inr j ↦ after_head y ys z up.0 j ]), s)

pub insert_set : (x : Link) (xs : List Link) → IsSet xs → IsSet (insert x xs)
unfolding IsStrictlySortedBy
insert_set x [] up = (tt, tt)
insert_set x (y ∷ ys) up = step_set (link_cmp x y) x y ys refl up (insert_set x ys up.1)

pub union_set : (xs ys : List Link) → IsSet ys → IsSet (insert_all xs ys)
union_set [] ys up = up
union_set (x ∷ xs) ys up = insert_set x (insert_all xs ys) (union_set xs ys up)

pub union_left : (xs ys : List Link) (z : Link) → Contains xs z → Contains (insert_all xs ys) z
union_left [] ys z i = absurd (contains_none z i)
union_left (x ∷ xs) ys z i =
    elim (contains_cases x xs z i) [
      | inl e ↦ subst (λ w. Contains (insert x (insert_all xs ys)) w) e (insert_new x (insert_all xs ys))
      | inr j ↦ insert_in x (insert_all xs ys) z (union_left xs ys z j)
    ]

pub union_right : (xs ys : List Link) (z : Link) → Contains ys z → Contains (insert_all xs ys) z
union_right [] ys z i = i
union_right (x ∷ xs) ys z i = insert_in x (insert_all xs ys) z (union_right xs ys z i)

pub union_out : (xs ys : List Link) (z : Link) → Contains (insert_all xs ys) z → Contains xs z ⊎ Contains ys z
union_out [] ys z i = inr i
union_out (x ∷ xs) ys z i =
    elim (insert_out x (insert_all xs ys) z i) [
      | inl e ↦ inl (subst (λ w. Contains (x ∷ xs) w) e (contains_here x xs))
      | inr j ↦ elim (union_out xs ys z j) [ inl k ↦ inl (contains_later x xs z k) | inr k ↦ inr k ]
    ]
