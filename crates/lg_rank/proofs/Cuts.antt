-- A linkage is its part between two positions and what lies outside; so what a cut spells follows the order of its parts.
use Rattle.std.proofs.Common.{◌≡◌, ℕ, zero, suc, ◌+◌, ◌<◌, ◌≤◌, Bool, true, false, cond, not, nat_lt, ◌&&◌, List, [], ◌∷◌, length, get_or, Option, Some, None, IsSome, inl, inr, refl, sym, ap, ◌∙◌, subst, arith, Less}
use Rattle.std.specs.List.{filter}
use Rattle.std.proofs.lemmas.Bool.{cases_lt, cases_Bool}
use Rattle.std.proofs.lemmas.Bool.Decides.{nat_tests}
use Rattle.std.proofs.lemmas.List.Kept.{IsStrictlySortedBy-filter}
use Rattle.lg_gram.specs.Linkages.{Linkage, link_cmp, linkage_cmp}
use Rattle.lg_gram.specs.Rules.{HasLink, chosen_at}
use Rattle.lg_gram.specs.declared.disjunct.Disjunct.{Disjunct}
use Rattle.lg_gram.specs.declared.linkage.Link.{Link}
use Rattle.lg_region.specs.Cuts.{Split, IsCut, Spells}
use Rattle.lg_region.specs.Laws.{RegionsAreCutOnce, SentencesAreCutOnce}
use Rattle.lg_region.specs.Parts.{Region, part_of, choice_within, is_within}
use Rattle.lg_region.specs.Whole.{First, IsFirst, SpellsFirst, first}
use Rattle.lg_region.specs.Cuts.{split}
use Rattle.lg_rank.specs.Joins.{IsTidy, IsEitherOf, IsJoin, CutsKeepOrder}
use Rattle.lg_base.proofs.Elements.{filter_in, filter_out}
use Rattle.lg_gram.proofs.LinkSets.{same_set}
use Rattle.lg_rank.proofs.Joins.{joins_grow}

-- the choices that are not strictly between L and R
abbrev choice_outside : ℕ → ℕ → ℕ → List (Option Disjunct) → List (Option Disjunct)
choice_outside s L R [] = []
choice_outside s L R (o ∷ os) = cond (nat_lt L s && nat_lt s R) None o ∷ choice_outside (suc s) L R os

abbrev is_outside : ℕ → ℕ → Link → Bool
is_outside L R l = not (is_within L R l)

-- what of a linkage lies outside
abbrev outside : ℕ → ℕ → Linkage → Linkage
outside L R g = record { chosen = choice_outside 0 L R g.chosen; links = filter (is_outside L R) g.links }

pub within_length : (s L R : ℕ) (os : List (Option Disjunct)) → length (choice_within s L R os) ≡ length os
within_length s L R [] = refl
within_length s L R (o ∷ os) = ap suc (within_length (suc s) L R os)

outside_length : (s L R : ℕ) (os : List (Option Disjunct)) → length (choice_outside s L R os) ≡ length os
outside_length s L R [] = refl
outside_length s L R (o ∷ os) = ap suc (outside_length (suc s) L R os)

-- a choice is in the part or outside
one_of : (b : Bool) (o : Option Disjunct) → IsEitherOf (cond b o None) (cond b None o) o
one_of true o = inr (refl, refl)
one_of false o = inl (refl, refl)

each_of : (s L R : ℕ) (os : List (Option Disjunct)) (i : ℕ) → IsEitherOf (get_or (choice_within s L R os) i None) (get_or (choice_outside s L R os) i None) (get_or os i None)
each_of s L R [] i = inl (refl, refl)
each_of s L R (o ∷ os) zero = one_of (nat_lt L s && nat_lt s R) o
each_of s L R (o ∷ os) (suc i) = each_of (suc s) L R os i

not_both : (b : Bool) → b ≡ true → not b ≡ true → ⊥
not_both true e f = absurd cc
not_both false e f = absurd cc

not_within : (L R : ℕ) (l : Link) → is_within L R l ≡ false → is_outside L R l ≡ true
not_within L R l e = ap not e

within_pair : (L R : ℕ) (k l : Link) → k.left ≡ l.left → k.right ≡ l.right → is_within L R k ≡ is_within L R l
within_pair L R k l e f = cc

-- a linkage is its part and what lies outside
parted : (L R : ℕ) (g : Linkage) → IsJoin (part_of L R g) (outside L R g) g
parted L R g = record {
  first_length = within_length 0 L R g.chosen;
  second_length = outside_length 0 L R g.chosen;
  chosen = each_of 0 L R g.chosen;
  out = λ l h. elim (cases_Bool (is_within L R l)) [
    | inl e ↦ inl (filter_in (is_within L R) g.links l h e)
    | inr e ↦ inr (filter_in (is_outside L R) g.links l h (not_within L R l e))
  ];
  in_first = λ l h. (filter_out (is_within L R) g.links l h).0;
  in_second = λ l h. (filter_out (is_outside L R) g.links l h).0;
  apart = λ k l h i e f. not_both (is_within L R l) (sym (within_pair L R k l e f) ∙ (filter_out (is_within L R) g.links k h).1) (filter_out (is_outside L R) g.links l i).1;
}

kept_tidy : (p : Link → Bool) (os : List (Option Disjunct)) (g : Linkage) → IsTidy g → IsTidy (record { chosen = os; links = filter p g.links })
kept_tidy p os g t = record {
  set = IsStrictlySortedBy-filter link_cmp p g.links t.set;
  exclusive = λ k l h i. t.exclusive k l (filter_out p g.links k h).0 (filter_out p g.links l i).0;
}

-- two linkages are the same outside
record SameOutside (L R : ℕ) (g h : Linkage) : Type 0 where
  long : length g.chosen ≡ length h.chosen
  chosen : (i : ℕ) → (L < i → i < R → ⊥) → chosen_at g i ≡ chosen_at h i
  there : (l : Link) → HasLink g l → is_within L R l ≡ false → HasLink h l
  back : (l : Link) → HasLink h l → is_within L R l ≡ false → HasLink g l

outside_choice : (s L R : ℕ) (x y : Option Disjunct) → ((L < s → s < R → ⊥) → x ≡ y) → cond (nat_lt L s && nat_lt s R) None x ≡ cond (nat_lt L s && nat_lt s R) None y
outside_choice s L R x y h =
    elim (cases_Bool (nat_lt L s && nat_lt s R)) [
      | inl e ↦ rw e refl
      | inr e ↦ rw e (h (λ a b. grind (arith, nat_tests)))
    ]

outside_choices : (s L R : ℕ) (xs ys : List (Option Disjunct)) → length xs ≡ length ys → ((i : ℕ) → (L < s + i → s + i < R → ⊥) → get_or xs i None ≡ get_or ys i None) → choice_outside s L R xs ≡ choice_outside s L R ys
outside_choices s L R [] [] e h = refl
outside_choices s L R [] (y ∷ ys) e h = absurd (omega arith)
outside_choices s L R (x ∷ xs) [] e h = absurd (omega arith)
outside_choices s L R (x ∷ xs) (y ∷ ys) e h =
    λ k. outside_choice s L R x y (λ f. h 0 (λ a b. f (omega arith) (omega arith))) k ∷ outside_choices (suc s) L R xs ys (omega arith) (λ i f. h (suc i) (λ a b. f (omega arith) (omega arith))) k

outside_false : (L R : ℕ) (l : Link) → is_outside L R l ≡ true → is_within L R l ≡ false
outside_false L R l e = elim (cases_Bool (is_within L R l)) [ inl f ↦ absurd (not_both (is_within L R l) f e) | inr f ↦ f ]

outside_same : (L R : ℕ) (g h : Linkage) → IsTidy g → IsTidy h → SameOutside L R g h → outside L R g ≡ outside L R h
outside_same L R g h tg th s =
    let there : (l : Link) → HasLink (outside L R g) l → HasLink (outside L R h) l = λ l i. (let r = filter_out (is_outside L R) g.links l i in filter_in (is_outside L R) h.links l (s.there l r.0 (outside_false L R l r.1)) r.1) in
    let back' : (l : Link) → HasLink (outside L R h) l → HasLink (outside L R g) l = λ l i. (let r = filter_out (is_outside L R) h.links l i in filter_in (is_outside L R) g.links l (s.back l r.0 (outside_false L R l r.1)) r.1) in
    let links = same_set (outside L R g).links (outside L R h).links (IsStrictlySortedBy-filter link_cmp (is_outside L R) g.links tg.set) (IsStrictlySortedBy-filter link_cmp (is_outside L R) h.links th.set) there back' in
    λ k. record { chosen = outside_choices 0 L R g.chosen h.chosen s.long (λ i f. s.chosen i (λ a b. f (omega arith) (omega arith))) k; links = links k }

-- what is the same outside follows the order of the parts
keeps_order : (L R : ℕ) (g h : Linkage) → IsTidy g → IsTidy h → SameOutside L R g h → linkage_cmp (part_of L R g) (part_of L R h) ≡ Less → linkage_cmp g h ≡ Less
keeps_order L R g h tg th s less =
    joins_grow (part_of L R g) (part_of L R h) (outside L R g) g h
    (kept_tidy (is_within L R) (part_of L R g).chosen g tg) (kept_tidy (is_within L R) (part_of L R h).chosen h th) (kept_tidy (is_outside L R) (outside L R g).chosen g tg) tg th
    (parted L R g) (subst (λ z. IsJoin (part_of L R h) z h) (sym (outside_same L R g h tg th s)) (parted L R h)) less

-- ---- what a cut, or a first word, spells
both_tests : (L R s : ℕ) → L < s → s < R → (nat_lt L s && nat_lt s R) ≡ true
both_tests L R s x y = grind (arith, nat_tests)

pub choice_in : (s L R : ℕ) (os : List (Option Disjunct)) (i : ℕ) → L < s + i → s + i < R → get_or (choice_within s L R os) i None ≡ get_or os i None
choice_in s L R [] i x y = refl
choice_in s L R (o ∷ os) zero x y = rw (both_tests L R s (omega arith) (omega arith)) refl
choice_in s L R (o ∷ os) (suc i) x y = choice_in (suc s) L R os i (omega arith) (omega arith)

-- linkages with one part choose the same in it
same_in : (L R : ℕ) (g h : Linkage) (i : ℕ) → part_of L R g ≡ part_of L R h → L < i → i < R → chosen_at g i ≡ chosen_at h i
same_in L R g h i e x y = sym (choice_in 0 L R g.chosen i (omega arith) (omega arith)) ∙ ap (λ z. chosen_at z i) e ∙ choice_in 0 L R h.chosen i (omega arith) (omega arith)

in_other : (L R : ℕ) (g h : Linkage) (l : Link) → part_of L R g ≡ part_of L R h → HasLink (part_of L R g) l → HasLink h l
in_other L R g h l e i = (filter_out (is_within L R) h.links l (subst (λ z. HasLink z l) e i)).0

pub not_linked : (o : Option Disjunct) → (IsSome o → ⊥) → o ≡ None
not_linked None h = refl
not_linked (Some d) h = absurd (h refl)

pub beyond : (os : List (Option Disjunct)) (i : ℕ) → length os ≤ i → get_or os i None ≡ None
beyond [] i x = refl
beyond (o ∷ os) zero x = absurd (omega arith)
beyond (o ∷ os) (suc i) x = beyond os i (omega arith)

-- a link that is not of the part is no link of it
part_not : (L R : ℕ) (g : Linkage) (l : Link) → HasLink (part_of L R g) l → is_within L R l ≡ false → ⊥
part_not L R g l h e = let r = (filter_out (is_within L R) g.links l h).1 in absurd (let z : true ≡ false = sym r ∙ e in cc)

record Cut (positions : List (List Disjunct)) (k : Region) (c : Split) (g h : Linkage) : Type 0 where
  cut : IsCut positions k c
  one : Spells positions k c g
  other : Spells positions k c h

outside_region : (positions : List (List Disjunct)) (k : Region) (c : Split) (g h : Linkage) → Cut positions k c g h → (i : ℕ) → (k.left < i → i < k.right → ⊥) → chosen_at g i ≡ chosen_at h i
outside_region positions k c g h t i f =
    not_linked (chosen_at g i) (λ x. let b = t.one.part.inside i x in f b.0 b.1) ∙ sym (not_linked (chosen_at h i) (λ x. let b = t.other.part.inside i x in f b.0 b.1))

at_word : (positions : List (List Disjunct)) (k : Region) (c : Split) (g h : Linkage) → Cut positions k c g h → (i : ℕ) → c.word ≡ i → chosen_at g i ≡ chosen_at h i
at_word positions k c g h t i e = subst (λ z. chosen_at g z ≡ chosen_at h z) e (t.one.chosen ∙ sym t.other.chosen)

beside_left : (positions : List (List Disjunct)) (k : Region) (c : Split) (g h : Linkage) → Cut positions k c g h → part_of c.word k.right g ≡ part_of c.word k.right h → (l : Link) → HasLink g l → is_within k.left c.word l ≡ false → HasLink h l
beside_left positions k c g h t e l i out =
    elim (t.one.rest l i) [
      | inl m ↦ absurd (part_not k.left c.word g l m out)
      | inr m ↦ elim m [ inl n ↦ in_other c.word k.right g h l e n | inr n ↦ elim n [ inl j ↦ t.other.joint_left l j | inr j ↦ t.other.joint_right l j ] ]
    ]

beside_right : (positions : List (List Disjunct)) (k : Region) (c : Split) (g h : Linkage) → Cut positions k c g h → part_of k.left c.word g ≡ part_of k.left c.word h → (l : Link) → HasLink g l → is_within c.word k.right l ≡ false → HasLink h l
beside_right positions k c g h t e l i out =
    elim (t.one.rest l i) [
      | inl m ↦ in_other k.left c.word g h l e m
      | inr m ↦ elim m [ inl n ↦ absurd (part_not c.word k.right g l n out) | inr n ↦ elim n [ inl j ↦ t.other.joint_left l j | inr j ↦ t.other.joint_right l j ] ]
    ]

swapped : (positions : List (List Disjunct)) (k : Region) (c : Split) (g h : Linkage) → Cut positions k c g h → Cut positions k c h g
swapped positions k c g h t = record { cut = t.cut; one = t.other; other = t.one }

same_left : (positions : List (List Disjunct)) (k : Region) (c : Split) (g h : Linkage) → Cut positions k c g h → part_of c.word k.right g ≡ part_of c.word k.right h → SameOutside k.left c.word g h
same_left positions k c g h t e = record {
  long = t.one.part.belongs.same_length ∙ sym t.other.part.belongs.same_length;
  chosen = λ i f. (let a = t.cut.after in let b = t.cut.before in elim (cases_lt c.word i) [
    | inl x ↦ elim (cases_lt i k.right) [ inl y ↦ same_in c.word k.right g h i e x y | inr y ↦ outside_region positions k c g h t i (λ p q. absurd (omega arith)) ]
    | inr x ↦ elim (cases_lt i c.word) [ inl y ↦ outside_region positions k c g h t i (λ p q. f p y) | inr y ↦ at_word positions k c g h t i (omega arith) ]
  ]);
  there = beside_left positions k c g h t e;
  back = beside_left positions k c h g (swapped positions k c g h t) (sym e);
}

same_right : (positions : List (List Disjunct)) (k : Region) (c : Split) (g h : Linkage) → Cut positions k c g h → part_of k.left c.word g ≡ part_of k.left c.word h → SameOutside c.word k.right g h
same_right positions k c g h t e = record {
  long = t.one.part.belongs.same_length ∙ sym t.other.part.belongs.same_length;
  chosen = λ i f. (let a = t.cut.after in let b = t.cut.before in elim (cases_lt i c.word) [
    | inl x ↦ elim (cases_lt k.left i) [ inl y ↦ same_in k.left c.word g h i e y x | inr y ↦ outside_region positions k c g h t i (λ p q. absurd (omega arith)) ]
    | inr x ↦ elim (cases_lt c.word i) [ inl y ↦ outside_region positions k c g h t i (λ p q. f y q) | inr y ↦ at_word positions k c g h t i (omega arith) ]
  ]);
  there = beside_right positions k c g h t e;
  back = beside_right positions k c h g (swapped positions k c g h t) (sym e);
}

pub cut_tidy : RegionsAreCutOnce → (positions : List (List Disjunct)) (k : Region) (c : Split) (g : Linkage) → IsCut positions k c → Spells positions k c g → IsTidy g
cut_tidy law positions k c g cut s =
    let a = cut.after in let b = cut.before in
    record { set = s.part.belongs.set; exclusive = (law.sound positions k g (omega arith) (split c) cut s).rules.exclusive }

-- before and behind the part that follows the first word nothing is chosen
pub first_outside : (positions : List (List Disjunct)) (c : First) (g : Linkage) → SpellsFirst positions c g → (i : ℕ) → (c.word < i → i < length positions → ⊥) → (c.word ≡ i → ⊥) → chosen_at g i ≡ None
first_outside positions c g s i f n =
    elim (cases_lt i c.word) [
      | inl x ↦ not_linked (chosen_at g i) (s.before i x)
      | inr x ↦ elim (cases_lt i (length positions)) [
        | inl y ↦ absurd (elim (cases_lt c.word i) [ inl z ↦ f z y | inr z ↦ n (omega arith) ])
        | inr y ↦ beyond g.chosen i (let e = s.belongs.same_length in omega arith)
      ]
    ]

same_first : (positions : List (List Disjunct)) (c : First) (g h : Linkage) → SpellsFirst positions c g → SpellsFirst positions c h → SameOutside c.word (length positions) g h
same_first positions c g h s t = record {
  long = s.belongs.same_length ∙ sym t.belongs.same_length;
  chosen = λ i f. elim (cases_lt i c.word) [
    | inl x ↦ first_outside positions c g s i f (λ e. omega arith) ∙ sym (first_outside positions c h t i f (λ e. omega arith))
    | inr x ↦ elim (cases_lt c.word i) [
      | inl y ↦ first_outside positions c g s i f (λ e. omega arith) ∙ sym (first_outside positions c h t i f (λ e. omega arith))
      | inr y ↦ subst (λ z. chosen_at g z ≡ chosen_at h z) (let q : c.word ≡ i = omega arith in q) (s.chosen ∙ sym t.chosen)
    ]
  ];
  there = λ l i out. absurd (part_not c.word (length positions) g l (s.rest l i) out);
  back = λ l i out. absurd (part_not c.word (length positions) h l (t.rest l i) out);
}

pub first_tidy : SentencesAreCutOnce → (positions : List (List Disjunct)) (nulls : ℕ) (c : First) (g : Linkage) → IsFirst positions nulls c → SpellsFirst positions c g → IsTidy g
first_tidy law positions nulls c g is s = record { set = s.belongs.set; exclusive = (law.sound positions nulls g (first c) is s).good.rules.exclusive }

pub cuts_keep_order : RegionsAreCutOnce → SentencesAreCutOnce → CutsKeepOrder
cuts_keep_order regions sentences = record {
  left = λ positions k c g h cut s t e less. keeps_order k.left c.word g h (cut_tidy regions positions k c g cut s) (cut_tidy regions positions k c h cut t)
      (same_left positions k c g h (record { cut = cut; one = s; other = t }) e) less;
  right = λ positions k c g h cut s t e less. keeps_order c.word k.right g h (cut_tidy regions positions k c g cut s) (cut_tidy regions positions k c h cut t)
      (same_right positions k c g h (record { cut = cut; one = s; other = t }) e) less;
  first = λ positions nulls c g h is s t less. keeps_order c.word (length positions) g h (first_tidy sentences positions nulls c g is s) (first_tidy sentences positions nulls c h is t)
      (same_first positions c g h s t) less;
}
