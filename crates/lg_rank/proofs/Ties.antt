-- The order by links, of sets, and of the linkages that a cut makes.
use Rattle.std.proofs.Common.{◌≡◌, ◌<◌, List, [], ◌∷◌, refl, sym, ap, ◌∙◌, subst, inl, inr, ◌⊎◌, Contains, arith, Ordering, Less, Equal, Greater}
use Rattle.std.specs.Ordering.{ordering_reverse, ordering_then}
use Rattle.std.specs.Cmp.Lexicographic.{slice_cmp}
use Rattle.std.proofs.lemmas.Map.Keys.{sorted_head, sorted_tail}
use Rattle.std.proofs.lemmas.Cmp.{lists_total}
use Rattle.std.proofs.lemmas.Bool.{cases_lt}
use Rattle.std.proofs.lemmas.Bool.Decides.{nat_tests}
use Rattle.lg_gram.specs.declared.linkage.Link.{Link}
use Rattle.lg_gram.specs.Linkages.{link_cmp, tie_cmp}
use Rattle.lg_base.proofs.Elements.{contains_here, contains_later, contains_cases, contains_none}
use Rattle.lg_gram.proofs.LinkSets.{IsSet, after_head, not_itself, equal_links}
use Rattle.lg_rank.proofs.Orders.{ties_total}

-- the pair of k stands before that of l
abbrev pub Earlier : Link → Link → Type 0
Earlier k l = (k.left < l.left) ⊎ ((k.left ≡ l.left) × (k.right < l.right))

abbrev pub SamePair : Link → Link → Type 0
SamePair k l = (k.left ≡ l.left) × (k.right ≡ l.right)

abbrev pub PlacesBefore : Link → Link → Type 0
PlacesBefore k l = (k.lplace < l.lplace) ⊎ ((k.lplace ≡ l.lplace) × (k.rplace < l.rplace))

-- at the first pair at which two sets differ, B has a link, and A has none or one with earlier places
pub record SetLess (A B : Link → Type 0) : Type 0 where
  pub at : Link
  pub here : B at
  pub absent : A at → ⊥
  pub before : (z : Link) → Earlier z at → (A z → B z) × (B z → A z)
  pub same : (x : Link) → A x → SamePair x at → PlacesBefore x at

pub pair_cases : (k l : Link) → Earlier k l ⊎ (Earlier l k ⊎ SamePair k l)
pair_cases k l =
    elim (cases_lt k.left l.left) [
      | inl h ↦ inl (inl h)
      | inr h ↦ elim (cases_lt l.left k.left) [
        | inl i ↦ inr (inl (inl i))
        | inr i ↦ elim (cases_lt k.right l.right) [
          | inl j ↦ inl (inr (omega arith, j))
          | inr j ↦ elim (cases_lt l.right k.right) [ inl m ↦ inr (inl (inr (omega arith, m))) | inr m ↦ inr (inr (omega arith, omega arith)) ]
        ]
      ]
    ]

places_not : (k l : Link) → PlacesBefore k l → PlacesBefore l k → ⊥
places_not k l (inl a) (inl b) = omega arith
places_not k l (inl a) (inr b) = omega arith
places_not k l (inr a) (inl b) = omega arith
places_not k l (inr a) (inr b) = omega arith

earlier_not : (k l : Link) → Earlier k l → Earlier l k → ⊥
earlier_not k l (inl a) (inl b) = omega arith
earlier_not k l (inl a) (inr b) = omega arith
earlier_not k l (inr a) (inl b) = omega arith
earlier_not k l (inr a) (inr b) = omega arith

earlier_not_same : (k l : Link) → Earlier k l → SamePair k l → ⊥
earlier_not_same k l (inl a) s = omega arith
earlier_not_same k l (inr a) s = omega arith

pub earlier_trans : (k l m : Link) → Earlier k l → Earlier l m → Earlier k m
earlier_trans k l m (inl a) (inl b) = inl (omega arith)
earlier_trans k l m (inl a) (inr b) = inl (omega arith)
earlier_trans k l m (inr a) (inl b) = inl (omega arith)
earlier_trans k l m (inr a) (inr b) = inr (omega arith, omega arith)

pub set_less_not : (A B : Link → Type 0) → SetLess A B → SetLess B A → ⊥
set_less_not A B p q =
    elim (pair_cases p.at q.at) [
      | inl e ↦ p.absent ((q.before p.at e).0 p.here)
      | inr r ↦ elim r [
        | inl e ↦ q.absent ((p.before q.at e).0 q.here)
        | inr s ↦ places_not q.at p.at (p.same q.at q.here (sym s.0, sym s.1)) (q.same p.at p.here s)
      ]
    ]

pub cmp_less : (x z : Link) → link_cmp x z ≡ Less → Earlier x z ⊎ SamePair x z
cmp_less x z h = elim (pair_cases x z) [
  | inl e ↦ inl e
  | inr r ↦ elim r [ inl e ↦ elim e [ inl a ↦ absurd (grind (arith, nat_tests)) | inr a ↦ absurd (grind (arith, nat_tests)) ] | inr s ↦ inr s ]
]

order_less : (x y : Link) → tie_cmp x y ≡ Less → Earlier y x ⊎ (SamePair x y × PlacesBefore x y)
order_less x y h = grind (arith, nat_tests)

order_equal : (x y : Link) → tie_cmp x y ≡ Equal → x ≡ y
order_equal x y h = equal_links x y (grind (arith, nat_tests))

abbrev pub OnePair : (Link → Type 0) → Type 0
OnePair A = (k l : Link) → A k → A l → k.left ≡ l.left → k.right ≡ l.right → k ≡ l

-- the links behind the head are of later pairs
later : (x : Link) (xs : List Link) → IsSet (x ∷ xs) → OnePair (Contains (x ∷ xs)) → (z : Link) → Contains xs z → Earlier x z
later x xs up one z i =
    let h = after_head x xs z (sorted_head link_cmp x xs up) i in
    elim (cmp_less x z h) [
      | inl e ↦ e
      | inr s ↦ (let e : x ≡ z = one x z (contains_here x xs) (contains_later x xs z i) s.0 s.1 in absurd (not_itself x (subst (λ w. link_cmp x w ≡ Less) (sym e) h)))
    ]

one_tail : (x : Link) (xs : List Link) → OnePair (Contains (x ∷ xs)) → OnePair (Contains xs)
one_tail x xs one k l i j = one k l (contains_later x xs k i) (contains_later x xs l j)

then_less : (a b : Ordering) → ordering_then a b ≡ Less → (a ≡ Less) ⊎ ((a ≡ Equal) × (b ≡ Less))
then_less Less b h = inl refl
then_less Equal b h = inr (refl, h)
then_less Greater b h = absurd cc

first_later : (x : Link) (xs : List Link) (y : Link) (ys : List Link) → IsSet (x ∷ xs) → IsSet (y ∷ ys) → OnePair (Contains (x ∷ xs)) → OnePair (Contains (y ∷ ys)) → Earlier y x → SetLess (Contains (x ∷ xs)) (Contains (y ∷ ys))
first_later x xs y ys up vp one two e =
    let after : (z : Link) → Contains (x ∷ xs) z → Earlier y z = λ z i. elim (contains_cases x xs z i) [
      | inl f ↦ subst (λ w. Earlier y w) f e
      | inr j ↦ earlier_trans y x z e (later x xs up one z j)
    ] in
    record {
      at = y;
      here = contains_here y ys;
      absent = λ i. earlier_not_same y y (after y i) (refl, refl);
      before = λ z b. ((λ i. absurd (earlier_not z y b (after z i))), (λ i. elim (contains_cases y ys z i) [ inl f ↦ absurd (earlier_not_same z y b (ap (λ w. w.left) (sym f), ap (λ w. w.right) (sym f))) | inr j ↦ absurd (earlier_not z y b (later y ys vp two z j)) ]));
      same = λ z i s. absurd (earlier_not_same y z (after z i) (sym s.0, sym s.1));
    }

first_same : (x : Link) (xs : List Link) (y : Link) (ys : List Link) → IsSet (x ∷ xs) → IsSet (y ∷ ys) → OnePair (Contains (x ∷ xs)) → OnePair (Contains (y ∷ ys)) → SamePair x y → PlacesBefore x y → SetLess (Contains (x ∷ xs)) (Contains (y ∷ ys))
first_same x xs y ys up vp one two s p =
    let after : (z : Link) → Contains xs z → Earlier y z = λ z j. (let l = later x xs up one z j in elim l [ inl a ↦ inl (omega arith) | inr a ↦ inr (omega arith, omega arith) ]) in
    record {
      at = y;
      here = contains_here y ys;
      absent = λ i. elim (contains_cases x xs y i) [ inl f ↦ places_not x y p (subst (λ w. PlacesBefore w x) f (subst (λ w. PlacesBefore x w) (sym f) p)) | inr j ↦ earlier_not_same y y (after y j) (refl, refl) ];
      before = λ z b. (
        (λ i. elim (contains_cases x xs z i) [ inl f ↦ absurd (earlier_not_same z y b (ap (λ w. w.left) (sym f) ∙ s.0, ap (λ w. w.right) (sym f) ∙ s.1)) | inr j ↦ absurd (earlier_not z y b (after z j)) ]),
        (λ i. elim (contains_cases y ys z i) [ inl f ↦ absurd (earlier_not_same z y b (ap (λ w. w.left) (sym f), ap (λ w. w.right) (sym f))) | inr j ↦ absurd (earlier_not z y b (later y ys vp two z j)) ]),
      );
      same = λ z i t. elim (contains_cases x xs z i) [ inl f ↦ subst (λ w. PlacesBefore w y) f p | inr j ↦ absurd (earlier_not_same y z (after z j) (sym t.0, sym t.1)) ];
    }

same_head : (x : Link) (xs ys : List Link) → IsSet (x ∷ xs) → IsSet (x ∷ ys) → OnePair (Contains (x ∷ xs)) → OnePair (Contains (x ∷ ys)) → SetLess (Contains xs) (Contains ys) → SetLess (Contains (x ∷ xs)) (Contains (x ∷ ys))
same_head x xs ys up vp one two r = record {
  at = r.at;
  here = contains_later x ys r.at r.here;
  absent = λ i. elim (contains_cases x xs r.at i) [ inl f ↦ (let e = later x ys vp two r.at r.here in earlier_not_same x r.at e (ap (λ w. w.left) f, ap (λ w. w.right) f)) | inr j ↦ r.absent j ];
  before = λ z b. (
    (λ i. elim (contains_cases x xs z i) [ inl f ↦ subst (λ w. Contains (x ∷ ys) w) f (contains_here x ys) | inr j ↦ contains_later x ys z ((r.before z b).0 j) ]),
    (λ i. elim (contains_cases x ys z i) [ inl f ↦ subst (λ w. Contains (x ∷ xs) w) f (contains_here x xs) | inr j ↦ contains_later x xs z ((r.before z b).1 j) ]),
  );
  same = λ z i s. elim (contains_cases x xs z i) [ inl f ↦ (let e = later x ys vp two r.at r.here in absurd (earlier_not_same x r.at e (ap (λ w. w.left) f ∙ s.0, ap (λ w. w.right) f ∙ s.1))) | inr j ↦ r.same z j s ];
}

pub less_set : (xs ys : List Link) → IsSet xs → IsSet ys → OnePair (Contains xs) → OnePair (Contains ys) → slice_cmp tie_cmp xs ys ≡ Less → SetLess (Contains xs) (Contains ys)
less_set [] [] up vp one two h = absurd cc
less_set [] (y ∷ ys) up vp one two h = record {
  at = y;
  here = contains_here y ys;
  absent = λ i. contains_none y i;
  before = λ z b. ((λ i. absurd (contains_none z i)), (λ i. elim (contains_cases y ys z i) [ inl f ↦ absurd (earlier_not_same z y b (ap (λ w. w.left) (sym f), ap (λ w. w.right) (sym f))) | inr j ↦ absurd (earlier_not z y b (later y ys vp two z j)) ]));
  same = λ z i s. absurd (contains_none z i);
}
less_set (x ∷ xs) [] up vp one two h = absurd cc
less_set (x ∷ xs) (y ∷ ys) up vp one two h =
    elim (then_less (tie_cmp x y) (slice_cmp tie_cmp xs ys) h) [
      | inl a ↦ elim (order_less x y a) [
        | inl e ↦ first_later x xs y ys up vp one two e
        | inr s ↦ first_same x xs y ys up vp one two s.0 s.1
      ]
      | inr a ↦ (let e : x ≡ y = order_equal x y a.0 in
          let r = less_set xs ys (sorted_tail link_cmp x xs up) (sorted_tail link_cmp y ys vp) (one_tail x xs one) (one_tail y ys two) a.1 in
          subst (λ w. SetLess (Contains (x ∷ xs)) (Contains (w ∷ ys))) e (same_head x xs ys up (subst (λ w. IsSet (w ∷ ys)) (sym e) vp) one (subst (λ w. OnePair (Contains (w ∷ ys))) (sym e) two) r))
    ]

pub then_equal : (a b : Ordering) → ordering_then a b ≡ Equal → (a ≡ Equal) × (b ≡ Equal)
then_equal Less b h = absurd cc
then_equal Equal b h = (refl, h)
then_equal Greater b h = absurd cc

pub equal_list : (xs ys : List Link) → slice_cmp tie_cmp xs ys ≡ Equal → xs ≡ ys
equal_list [] [] h = refl
equal_list [] (y ∷ ys) h = absurd cc
equal_list (x ∷ xs) [] h = absurd cc
equal_list (x ∷ xs) (y ∷ ys) h =
    let t = then_equal (tie_cmp x y) (slice_cmp tie_cmp xs ys) h in
    let e = order_equal x y t.0 in
    subst (λ w. x ∷ xs ≡ w ∷ ys) e (ap (λ w. x ∷ w) (equal_list xs ys t.1))

less_from : (o : Ordering) (xs ys : List Link) → IsSet xs → IsSet ys → OnePair (Contains xs) → OnePair (Contains ys) → slice_cmp tie_cmp xs ys ≡ o → SetLess (Contains xs) (Contains ys) → o ≡ Less
less_from Less xs ys up vp one two e s = refl
less_from Equal xs ys up vp one two e s = let f = equal_list xs ys e in absurd (s.absent (subst (λ w. Contains w s.at) (sym f) s.here))
less_from Greater xs ys up vp one two e s =
    let a = (lists_total ties_total).antisymm ys xs in
    let b : slice_cmp tie_cmp ys xs ≡ Less = a ∙ ap ordering_reverse e in
    absurd (set_less_not (Contains xs) (Contains ys) s (less_set ys xs vp up two one b))

pub set_less : (xs ys : List Link) → IsSet xs → IsSet ys → OnePair (Contains xs) → OnePair (Contains ys) → SetLess (Contains xs) (Contains ys) → slice_cmp tie_cmp xs ys ≡ Less
set_less xs ys up vp one two s = less_from (slice_cmp tie_cmp xs ys) xs ys up vp one two refl s
