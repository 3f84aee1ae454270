-- What a cut spells is its two parts with a disjunct between them, and the links of the joints.
use Rattle.std.proofs.Common.{◌≡◌, ℕ, zero, suc, ◌+◌, ◌<◌, ◌≤◌, Bool, true, false, cond, not, nat_lt, nat_le, ◌&&◌, ◌==◌, List, [], ◌∷◌, ◌++◌, length, take, drop, get_or, replicate, Option, Some, None, Contains, ◌⊎◌, inl, inr, refl, sym, ap, ◌∙◌, subst, arith, Less}
use Rattle.std.specs.List.{count_by}
use Rattle.std.specs.List.Sorted.{IsStrictlySortedBy}
use Rattle.std.proofs.lemmas.Bool.{cases_lt, cases_Bool}
use Rattle.std.proofs.lemmas.Bool.Decides.{nat_tests}
use Rattle.std.proofs.lemmas.List.{length-replicate}
use Rattle.std.proofs.lemmas.List.Kept.{IsStrictlySortedBy-filter}
use Rattle.std.proofs.lemmas.List.Sums.{sum_by-cons}
use Rattle.lg_gram.specs.Linkages.{Linkage, link_cmp}
use Rattle.lg_gram.specs.Rules.{HasLink, chosen_at}
use Rattle.lg_gram.specs.declared.disjunct.Disjunct.{Disjunct}
use Rattle.lg_gram.specs.declared.linkage.Link.{Link}
use Rattle.lg_region.specs.declared.key.Joint.{Joint}
use Rattle.lg_region.specs.Cuts.{IsJoint, Split, IsCut, IsValid, Spells, split}
use Rattle.lg_region.specs.Laws.{RegionsAreCutOnce}
use Rattle.lg_region.specs.Parts.{Region, part_of, choice_within, is_within}
use Rattle.lg_region.specs.Whole.{First, IsFirst, SpellsFirst}
use Rattle.lg_rank.specs.Meanings.{joint_link, unlinked_of}
use Rattle.lg_rank.specs.Trees.{comes_before, with_link}
use Rattle.lg_base.proofs.Elements.{contains_here, contains_later, contains_cases, contains_none, filter_out}
use Rattle.lg_rank.proofs.Orders.{links_total}
use Rattle.lg_gram.proofs.LinkSets.{IsSet, after_head, before_all, same_set}
use Rattle.lg_rank.proofs.Ties.{Earlier, SamePair, earlier_trans, cmp_less, pair_cases}
use Rattle.lg_rank.proofs.Cuts.{choice_in, within_length, not_linked, beyond}
use Rattle.lg_rank.proofs.Packing.{IsGlued}

-- ---- one more link in a set
put_out : (n : ℕ) (xs : List Link) (l z : Link) → Contains (take n xs ++ l ∷ drop n xs) z → (l ≡ z) ⊎ Contains xs z
put_out zero xs l z i = contains_cases l xs z i
put_out (suc n) [] l z i = contains_cases l [] z i
put_out (suc n) (x ∷ xs) l z i =
    elim (contains_cases x (take n xs ++ l ∷ drop n xs) z i) [
      | inl e ↦ inr (subst (λ w. Contains (x ∷ xs) w) e (contains_here x xs))
      | inr j ↦ elim (put_out n xs l z j) [ inl e ↦ inl e | inr k ↦ inr (contains_later x xs z k) ]
    ]

put_new : (n : ℕ) (xs : List Link) (l : Link) → Contains (take n xs ++ l ∷ drop n xs) l
put_new zero xs l = contains_here l xs
put_new (suc n) [] l = contains_here l []
put_new (suc n) (x ∷ xs) l = contains_later x (take n xs ++ l ∷ drop n xs) l (put_new n xs l)

put_old : (n : ℕ) (xs : List Link) (l z : Link) → Contains xs z → Contains (take n xs ++ l ∷ drop n xs) z
put_old zero xs l z i = contains_later l xs z i
put_old (suc n) [] l z i = contains_later l [] z i
put_old (suc n) (x ∷ xs) l z i =
    elim (contains_cases x xs z i) [
      | inl e ↦ subst (λ w. Contains (x ∷ take n xs ++ l ∷ drop n xs) w) e (contains_here x (take n xs ++ l ∷ drop n xs))
      | inr j ↦ contains_later x (take n xs ++ l ∷ drop n xs) z (put_old n xs l z j)
    ]

with_out : (o : Option Link) (xs : List Link) (z : Link) → Contains (with_link o xs) z → (o ≡ Some z) ⊎ Contains xs z
with_out None xs z i = inr i
with_out (Some l) xs z i = elim (put_out (count_by (comes_before l) xs) xs l z i) [ inl e ↦ inl (ap Some e) | inr j ↦ inr j ]

with_new : (o : Option Link) (xs : List Link) (z : Link) → o ≡ Some z → Contains (with_link o xs) z
with_new o xs z e = subst (λ t. Contains (with_link t xs) z) (sym e) (put_new (count_by (comes_before z) xs) xs z)

with_old : (o : Option Link) (xs : List Link) (z : Link) → Contains xs z → Contains (with_link o xs) z
with_old None xs z i = i
with_old (Some l) xs z i = put_old (count_by (comes_before l) xs) xs l z i

before_is : (l k : Link) → comes_before l k ≡ true → Earlier k l
before_is l k e =
    elim (cases_lt k.left l.left) [
      | inl h ↦ inl h
      | inr h ↦ inr (grind (arith, nat_tests), grind (arith, nat_tests))
    ]

is_before : (l k : Link) → Earlier k l → comes_before l k ≡ true
is_before l k (inl h) = grind (arith, nat_tests)
is_before l k (inr h) = grind (arith, nat_tests)

earlier_less : (k l : Link) → Earlier k l → link_cmp k l ≡ Less
earlier_less k l (inl h) = grind (arith, nat_tests)
earlier_less k l (inr h) = grind (arith, nat_tests)

true_false : (b : Bool) → b ≡ true → b ≡ false → ⊥
true_false true e f = absurd cc
true_false false e f = absurd cc

-- what does not come before, and has another pair, comes after
after_it : (l x : Link) → comes_before l x ≡ false → (x.left ≡ l.left → x.right ≡ l.right → ⊥) → link_cmp l x ≡ Less
after_it l x e apart =
    elim (pair_cases x l) [
      | inl h ↦ absurd (true_false (comes_before l x) (is_before l x h) e)
      | inr r ↦ elim r [ inl h ↦ earlier_less l x h | inr h ↦ absurd (apart h.0 h.1) ]
    ]

none_later : (l x y : Link) → comes_before l x ≡ false → link_cmp x y ≡ Less → comes_before l y ≡ false
none_later l x y e h =
    elim (cases_Bool (comes_before l y)) [
      | inr f ↦ f
      | inl f ↦ absurd (let b = before_is l y f in elim (cmp_less x y h) [
        | inl a ↦ true_false (comes_before l x) (is_before l x (earlier_trans x y l a b)) e
        | inr a ↦ true_false (comes_before l x) (is_before l x (same_earlier x y l a b)) e
      ])
    ]
  where
    same_earlier : (x y l : Link) → SamePair x y → Earlier y l → Earlier x l
    same_earlier x y l s (inl a) = inl (let p = s.0 in omega arith)
    same_earlier x y l s (inr a) = inr (let p = s.0 in omega arith, let p = s.1 in omega arith)

none_count : (l : Link) (xs : List Link) → ((z : Link) → Contains xs z → comes_before l z ≡ false) → count_by (comes_before l) xs ≡ 0
none_count l [] h = refl
none_count l (x ∷ xs) h =
    let r = none_count l xs (λ z i. h z (contains_later x xs z i)) in
    let e = ap {B = ℕ} (λ (b : Bool). cond b 1 0) (h x (contains_here x xs)) in
    sum_by-cons (λ z. cond (comes_before l z) 1 0) x xs ∙ omega (arith, r, e)

one_count : (l x : Link) (xs : List Link) → comes_before l x ≡ true → count_by (comes_before l) (x ∷ xs) ≡ suc (count_by (comes_before l) xs)
one_count l x xs e = let f = ap {B = ℕ} (λ (b : Bool). cond b 1 0) e in sum_by-cons (λ z. cond (comes_before l z) 1 0) x xs ∙ omega (arith, f)

put_set : (l : Link) (xs : List Link) → IsSet xs → ((z : Link) → Contains xs z → z.left ≡ l.left → z.right ≡ l.right → ⊥) → IsSet (with_link (Some l) xs)
unfolding IsStrictlySortedBy
put_set l [] up apart = (tt, tt)
put_set l (x ∷ xs) up apart =
    elim (cases_Bool (comes_before l x)) [
      | inl e ↦
          let rest = put_set l xs up.1 (λ z i. apart z (contains_later x xs z i)) in
          let first = before_all x (with_link (Some l) xs) (λ z i. elim (put_out (count_by (comes_before l) xs) xs l z i) [
            | inl f ↦ subst (λ w. link_cmp x w ≡ Less) f (earlier_less x l (before_is l x e))
            | inr j ↦ after_head x xs z up.0 j
          ]) in
          subst (λ (n : ℕ). IsSet (take n (x ∷ xs) ++ l ∷ drop n (x ∷ xs))) (sym (one_count l x xs e)) (first, rest)
      | inr e ↦
          let none = none_count l (x ∷ xs) (λ z i. elim (contains_cases x xs z i) [ inl f ↦ subst (λ w. comes_before l w ≡ false) f e | inr j ↦ none_later l x z e (after_head x xs z up.0 j) ]) in
          let here = after_it l x e (apart x (contains_here x xs)) in
          let first = before_all l (x ∷ xs) (λ z i. elim (contains_cases x xs z i) [ inl f ↦ subst (λ w. link_cmp l w ≡ Less) f here | inr j ↦ links_total.trans l x z here (after_head x xs z up.0 j) ]) in
          subst (λ (n : ℕ). IsSet (take n (x ∷ xs) ++ l ∷ drop n (x ∷ xs))) (sym none) (first, up)
    ]

with_set : (o : Option Link) (xs : List Link) → IsSet xs → ((l z : Link) → o ≡ Some l → Contains xs z → z.left ≡ l.left → z.right ≡ l.right → ⊥) → IsSet (with_link o xs)
with_set None xs up apart = up
with_set (Some l) xs up apart = put_set l xs up (λ z i. apart l z refl i)

append_out : (xs ys : List Link) (z : Link) → Contains (xs ++ ys) z → Contains xs z ⊎ Contains ys z
append_out [] ys z i = inr i
append_out (x ∷ xs) ys z i =
    elim (contains_cases x (xs ++ ys) z i) [
      | inl e ↦ inl (subst (λ w. Contains (x ∷ xs) w) e (contains_here x xs))
      | inr j ↦ elim (append_out xs ys z j) [ inl k ↦ inl (contains_later x xs z k) | inr k ↦ inr k ]
    ]

append_first : (xs ys : List Link) (z : Link) → Contains xs z → Contains (xs ++ ys) z
append_first [] ys z i = absurd (contains_none z i)
append_first (x ∷ xs) ys z i = elim (contains_cases x xs z i) [ inl e ↦ subst (λ w. Contains (x ∷ xs ++ ys) w) e (contains_here x (xs ++ ys)) | inr j ↦ contains_later x (xs ++ ys) z (append_first xs ys z j) ]

append_second : (xs ys : List Link) (z : Link) → Contains ys z → Contains (xs ++ ys) z
append_second [] ys z i = i
append_second (x ∷ xs) ys z i = contains_later x (xs ++ ys) z (append_second xs ys z i)

append_set : (xs ys : List Link) → IsSet xs → IsSet ys → ((a b : Link) → Contains xs a → Contains ys b → link_cmp a b ≡ Less) → IsSet (xs ++ ys)
unfolding IsStrictlySortedBy
append_set [] ys up vp h = vp
append_set (x ∷ xs) ys up vp h =
    (before_all x (xs ++ ys) (λ z i. elim (append_out xs ys z i) [ inl j ↦ after_head x xs z up.0 j | inr j ↦ h x z (contains_here x xs) j ]), append_set xs ys up.1 vp (λ a b i j. h a b (contains_later x xs a i) j))

-- ---- the parts of what a cut spells
within_from : (a b c d : ℕ) → (nat_le a b && (nat_le c d && not ((b == a) && (c == d)))) ≡ true → a ≤ b
within_from a b c d x = grind (arith, nat_tests)

within_to : (a b c d : ℕ) → (nat_le a b && (nat_le c d && not ((b == a) && (c == d)))) ≡ true → c ≤ d
within_to a b c d x = grind (arith, nat_tests)

within_apart : (a b c d : ℕ) → (nat_le a b && (nat_le c d && not ((b == a) && (c == d)))) ≡ true → b ≡ a → c ≡ d → ⊥
within_apart a b c d x y z = grind (arith, nat_tests)

no_test : (L R s : ℕ) → (L < s → s < R → ⊥) → (nat_lt L s && nat_lt s R) ≡ false
no_test L R s x = grind (arith, nat_tests)

choice_out : (s L R : ℕ) (os : List (Option Disjunct)) (i : ℕ) → (L < s + i → s + i < R → ⊥) → get_or (choice_within s L R os) i None ≡ None
choice_out s L R [] i x = refl
choice_out s L R (o ∷ os) zero x = rw (no_test L R s (λ a b. x (omega arith) (omega arith))) refl
choice_out s L R (o ∷ os) (suc i) x = choice_out (suc s) L R os i (λ a b. x (omega arith) (omega arith))

in_part : (L R : ℕ) (g : Linkage) (i : ℕ) → L < i → i < R → chosen_at (part_of L R g) i ≡ chosen_at g i
in_part L R g i x y = choice_in 0 L R g.chosen i (omega arith) (omega arith)

out_part : (L R : ℕ) (g : Linkage) (i : ℕ) → (L < i → i < R → ⊥) → chosen_at (part_of L R g) i ≡ None
out_part L R g i x = choice_out 0 L R g.chosen i (λ a b. x (omega arith) (omega arith))

joint_is : (o : Option Joint) (L R : ℕ) (l : Link) → IsJoint o L R l → joint_link o L R ≡ Some l
joint_is None L R l h = absurd h
joint_is (Some j) L R l h = ap Some (sym h)

is_joint : (o : Option Joint) (L R : ℕ) (l : Link) → joint_link o L R ≡ Some l → IsJoint o L R l
is_joint None L R l h = absurd cc
is_joint (Some j) L R l h = (let e : ◌≡◌ {A = Link} (record { left = L; lplace = j.near; right = R; rplace = j.far }) l = cc in sym e)

joint_ends : (o : Option Joint) (L R : ℕ) (l : Link) → joint_link o L R ≡ Some l → (l.left ≡ L) × (l.right ≡ R)
joint_ends None L R l h = absurd cc
joint_ends (Some j) L R l h = (let e : ◌≡◌ {A = Link} (record { left = L; lplace = j.near; right = R; rplace = j.far }) l = cc in (ap (λ t. t.left) (sym e), ap (λ t. t.right) (sym e)))

pub spelled_glue : RegionsAreCutOnce → (positions : List (List Disjunct)) (k : Region) (c : Split) (g : Linkage) → IsValid positions k → IsCut positions k c → Spells positions k c g
    → IsGlued c.word c.disjunct (joint_link c.to_left k.left c.word) (joint_link c.to_right c.word k.right) (part_of k.left c.word g) (part_of c.word k.right g) g
spelled_glue law positions k c g valid cut s =
    let L = k.left in
    let W = c.word in
    let R = k.right in
    let A = part_of L W g in
    let B = part_of W R g in
    let near = joint_link c.to_left L W in
    let far = joint_link c.to_right W R in
    let lw = cut.after in
    let wr = cut.before in
    let forward = (law.sound positions k g (omega arith) (split c) cut s).rules.matched.forward in
    let none : (i : ℕ) → (L < i → i < R → ⊥) → chosen_at g i ≡ None = λ i f. not_linked (chosen_at g i) (λ x. let b = s.part.inside i x in f b.0 b.1) in
    let in_a : (z : Link) → HasLink A z → HasLink g z × (is_within L W z ≡ true) = λ z i. filter_out (is_within L W) g.links z i in
    let in_b : (z : Link) → HasLink B z → HasLink g z × (is_within W R z ≡ true) = λ z i. filter_out (is_within W R) g.links z i in
    let left_of : (z : Link) → Contains (with_link near A.links) z → z.left < W = λ z i. elim (with_out near A.links z i) [
      | inl e ↦ (let d = (joint_ends c.to_left L W z e).0 in omega arith)
      | inr j ↦ (let a = in_a z j in let f = forward z a.0 in let t = within_to L z.left z.right W a.1 in omega arith)
    ] in
    let right_of : (z : Link) → Contains (with_link far B.links) z → W ≤ z.left = λ z i. elim (with_out far B.links z i) [
      | inl e ↦ (let d = (joint_ends c.to_right W R z e).0 in omega arith)
      | inr j ↦ within_from W z.left z.right R (in_b z j).1
    ] in
    let up : IsSet (with_link near A.links ++ with_link far B.links) = append_set (with_link near A.links) (with_link far B.links)
    (with_set near A.links (IsStrictlySortedBy-filter link_cmp (is_within L W) g.links s.part.belongs.set) (λ l z e i p q. let d = joint_ends c.to_left L W l e in within_apart L z.left z.right W (in_a z i).1 (p ∙ d.0) (q ∙ d.1)))
    (with_set far B.links (IsStrictlySortedBy-filter link_cmp (is_within W R) g.links s.part.belongs.set) (λ l z e i p q. let d = joint_ends c.to_right W R l e in within_apart W z.left z.right R (in_b z i).1 (p ∙ d.0) (q ∙ d.1)))
    (λ a b i j. let x = left_of a i in let y = right_of b j in earlier_less a b (inl (omega arith))) in
    record {
      long_a = within_length 0 L W g.chosen;
      long_b = within_length 0 W R g.chosen;
      within = (let e = s.part.belongs.same_length in let w = valid.within in omega arith);
      before = λ i l. elim (cases_lt L i) [
        | inl m ↦ sym (in_part L W g i m l)
        | inr m ↦ none i (λ a b. absurd (omega arith)) ∙ sym (out_part L W g i (λ a b. absurd (omega arith)))
      ];
      word = s.chosen;
      after = λ i l. elim (cases_lt i R) [
        | inl m ↦ sym (in_part W R g i l m)
        | inr m ↦ none i (λ a b. absurd (omega arith)) ∙ sym (out_part W R g i (λ a b. absurd (omega arith)))
      ];
      none_a = λ i l. out_part L W g i (λ a b. absurd (omega arith));
      none_b = λ i l. out_part W R g i (λ a b. absurd (omega arith));
      links = same_set g.links (with_link near A.links ++ with_link far B.links) s.part.belongs.set up
          (λ z i. elim (s.rest z i) [
            | inl m ↦ append_first (with_link near A.links) (with_link far B.links) z (with_old near A.links z m)
            | inr m ↦ elim m [
              | inl n ↦ append_second (with_link near A.links) (with_link far B.links) z (with_old far B.links z n)
              | inr n ↦ elim n [
                | inl j ↦ append_first (with_link near A.links) (with_link far B.links) z (with_new near A.links z (joint_is c.to_left L W z j))
                | inr j ↦ append_second (with_link near A.links) (with_link far B.links) z (with_new far B.links z (joint_is c.to_right W R z j))
              ]
            ]
          ])
          (λ z i. elim (append_out (with_link near A.links) (with_link far B.links) z i) [
            | inl m ↦ elim (with_out near A.links z m) [ inl e ↦ s.joint_left z (is_joint c.to_left L W z e) | inr j ↦ (in_a z j).0 ]
            | inr m ↦ elim (with_out far B.links z m) [ inl e ↦ s.joint_right z (is_joint c.to_right W R z e) | inr j ↦ (in_b z j).0 ]
          ]);
    }

pub none_at : (n i : ℕ) → get_or (replicate {A = Option Disjunct} n None) i None ≡ None
none_at zero i = refl
none_at (suc n) zero = refl
none_at (suc n) (suc i) = none_at n i

pub first_glue : (positions : List (List Disjunct)) (nulls : ℕ) (c : First) (g : Linkage) → IsFirst positions nulls c → SpellsFirst positions c g
    → IsGlued c.word c.disjunct None None (unlinked_of (length positions)) (part_of c.word (length positions) g) g
first_glue positions nulls c g is s =
    let W = c.word in
    let n = length positions in
    let B = part_of W n g in
    record {
      long_a = length-replicate {A = Option Disjunct} n None ∙ sym s.belongs.same_length;
      long_b = within_length 0 W n g.chosen;
      within = (let e = s.belongs.same_length in let w = is.before in omega arith);
      before = λ i l. not_linked (chosen_at g i) (s.before i l) ∙ sym (none_at n i);
      word = s.chosen;
      after = λ i l. elim (cases_lt i n) [
        | inl m ↦ sym (in_part W n g i l m)
        | inr m ↦ (let e = s.belongs.same_length in beyond g.chosen i (omega arith)) ∙ sym (out_part W n g i (λ a b. absurd (omega arith)))
      ];
      none_a = λ i l. none_at n i;
      none_b = λ i l. out_part W n g i (λ a b. absurd (omega arith));
      links = same_set g.links B.links s.belongs.set (IsStrictlySortedBy-filter link_cmp (is_within W n) g.links s.belongs.set) s.rest (λ z i. (filter_out (is_within W n) g.links z i).0);
    }
