-- A region both of whose lists are empty has no linked word.
use Rattle.std.proofs.Common.{◌≡◌, ℕ, zero, suc, ◌+◌, ◌-◌, ◌<◌, ◌≤◌, ◌⊎◌, inl, inr, refl, sym, ap, ◌∙◌, subst, List, [], Option, Some, None, IsSome, slice_get, arith}
use Rattle.lg_gram.specs.Connectors.{Connector}
use Rattle.lg_gram.specs.Linkages.{Linkage}
use Rattle.lg_gram.specs.Rules.{chosen_at, left_list, right_list, HasLink, IsLinked}
use Rattle.lg_gram.specs.Walks.{Walk}
use Rattle.lg_gram.specs.Walks.Walk.{stay, forth, back}
use Rattle.lg_gram.specs.declared.disjunct.Disjunct.{Disjunct}
use Rattle.lg_gram.specs.declared.linkage.Link.{Link}
use Rattle.lg_region.specs.Parts.{EdgeWith, Region, rights_in, lefts_in, null_at, nulls_from, IsPart, Under}
use Rattle.lg_region.specs.Cuts.{IsEmpty, Alternative, IsAlternative, SpelledBy, all_null, split}
use Rattle.lg_region.proofs.Sides.{but_here}
use Rattle.lg_region.proofs.Region.{under_fits, fits_under, take_apart, put_together, find_by_llist, find_by_rlist, nil_cases, eq_or_not, rights_else, lefts_else, right_linked, left_linked}
use Rattle.lg_region.proofs.Unique.{same_cut}

-- what is kept along each edge is kept along a walk
pub walk_keeps : (E : ℕ → ℕ → Type 0) (P : ℕ → Type 0) → ((a b : ℕ) → E a b → P a → P b) → ((a b : ℕ) → E a b → P b → P a) → (a b : ℕ) → Walk E a b → P a → P b
walk_keeps E P there back' a b (stay i) h = h
walk_keeps E P there back' a b (forth i k j e w) h = walk_keeps E P there back' k j w (there i k e h)
walk_keeps E P there back' a b (back i k j e w) h = walk_keeps E P there back' k j w (back' k i e h)

none_in_nil : (cs : List Connector) (p : ℕ) (c : Connector) → cs ≡ [] → slice_get cs p ≡ Some c → ⊥
none_in_nil cs p c e h = let x = subst (λ z. slice_get z p ≡ Some c) e h in cc

pub nulls_all : (g : Linkage) (s n : ℕ) → ((i : ℕ) → s ≤ i → i < s + n → chosen_at g i ≡ None) → nulls_from g s n ≡ n
nulls_all g s zero none = refl
nulls_all g s (suc n) none =
    let e = ap null_at (none s (omega arith) (omega arith)) in
    omega (arith, nulls_all g (suc s) n (λ i x y. none i (omega arith) (omega arith)))

pub none_of : (o : Option Disjunct) → (IsSome o → ⊥) → o ≡ None
none_of None h = refl
none_of (Some d) h = absurd (h refl)

empty_under : (positions : List (List Disjunct)) (k : Region) (g : Linkage) → k.left < k.right → k.llist ≡ [] → k.rlist ≡ [] → Under positions k g → IsEmpty g
empty_under positions k g lr nl nr u =
    let L = k.left in
    let R = k.right in
    let f = under_fits positions k g lr u in
    let no_right : (l : Link) → HasLink g l → l.left ≡ L → ⊥ = λ l h e.
    (let m = f.matched l h in none_in_nil (rights_in k g l.left) l.lplace m.0 (but_here L k.llist (λ i. right_list (chosen_at g i)) l.left e ∙ nl) m.2) in
    let no_left : (l : Link) → HasLink g l → l.right ≡ R → ⊥ = λ l h e.
    (let m = f.matched l h in none_in_nil (lefts_in k g l.right) l.rplace m.1 (but_here R k.rlist (λ i. left_list (chosen_at g i)) l.right e ∙ nr) m.3) in
    let P : ℕ → Type 0 = λ x. (x ≡ L) ⊎ (x ≡ R) in
    let there : (a b : ℕ) → EdgeWith L R (HasLink g) a b → P a → P b = λ a b e h. elim e [
      | inr x ↦ inr x.1
      | inl x ↦ (let v = f.within x.0 x.1 in let el = x.2 in let er = x.3 in elim h [ inl y ↦ absurd (no_right x.0 x.1 (omega arith)) | inr y ↦ absurd (omega arith) ])
    ] in
    let back' : (a b : ℕ) → EdgeWith L R (HasLink g) a b → P b → P a = λ a b e h. elim e [
      | inr x ↦ inl x.0
      | inl x ↦ (let v = f.within x.0 x.1 in let el = x.2 in let er = x.3 in elim h [ inl y ↦ absurd (omega arith) | inr y ↦ absurd (no_left x.0 x.1 (omega arith)) ])
    ] in
    let unlinked : (i : ℕ) → IsLinked g i → ⊥ = λ i h.
    (let b = u.part.inside i h in
    let w = walk_keeps (EdgeWith L R (HasLink g)) P there back' L i (f.connected i (omega arith) (omega arith) h) (inl refl) in
    elim w [ inl x ↦ omega arith | inr x ↦ omega arith ]) in
    record {
      unlinked = unlinked;
      no_links = λ l h. elim (eq_or_not l.left L) [
        | inl e ↦ no_right l h e
        | inr n ↦ (let m = f.matched l h in unlinked l.left (right_linked (chosen_at g l.left) l.lplace m.0 (subst (λ z. slice_get z l.lplace ≡ Some m.0) (rights_else k g l.left n) m.2)))
      ];
    }

none_at : (g : Linkage) → IsEmpty g → (i : ℕ) → chosen_at g i ≡ None
none_at g e i = none_of (chosen_at g i) (e.unlinked i)

under_empty : (positions : List (List Disjunct)) (k : Region) (g : Linkage) → k.left < k.right → k.llist ≡ [] → k.rlist ≡ [] → k.nulls ≡ k.right - suc k.left → IsPart positions k.left k.right g → IsEmpty g → Under positions k g
under_empty positions k g lr nl nr nulls part e =
    fits_under positions k g lr part (λ l h el er. e.no_links l h)
    (nulls_all g (suc k.left) (k.right - suc k.left) (λ i x y. none_at g e i) ∙ sym nulls)
    (record {
      within = λ l h. absurd (e.no_links l h);
      matched = λ l h. absurd (e.no_links l h);
      served_right = λ i p c li ir at. elim (eq_or_not i k.left) [
        | inl x ↦ absurd (none_in_nil (rights_in k g i) p c (but_here k.left k.llist (λ i. right_list (chosen_at g i)) i x ∙ nl) at)
        | inr x ↦ absurd (e.unlinked i (right_linked (chosen_at g i) p c (subst (λ z. slice_get z p ≡ Some c) (rights_else k g i x) at)))
      ];
      served_left = λ j q c lj jr at. elim (eq_or_not j k.right) [
        | inl x ↦ absurd (none_in_nil (lefts_in k g j) q c (but_here k.right k.rlist (λ i. left_list (chosen_at g i)) j x ∙ nr) at)
        | inr x ↦ absurd (e.unlinked j (left_linked (chosen_at g j) q c (subst (λ z. slice_get z q ≡ Some c) (lefts_else k g j x) at)))
      ];
      planar = λ k l hk. absurd (e.no_links k hk);
      ordered_right = λ k l hk. absurd (e.no_links k hk);
      ordered_left = λ k l hk. absurd (e.no_links k hk);
      exclusive = λ k l hk. absurd (e.no_links k hk);
      connected = λ i li ir h. absurd (e.unlinked i h);
    })

-- the law of a region
pub region_complete : (positions : List (List Disjunct)) (k : Region) (g : Linkage) → k.left < k.right → Under positions k g → (a : Alternative) × IsAlternative positions k a × SpelledBy positions k a g
region_complete positions k g lr u =
    elim (nil_cases k.llist) [
      | inr p ↦ (let t = take_apart positions k g lr u (find_by_llist positions k g p.0 lr p.1 u) in (split t.0, t.1, t.2))
      | inl nl ↦ elim (nil_cases k.rlist) [
        | inr p ↦ (let t = take_apart positions k g lr u (find_by_rlist positions k g p.0 lr nl p.1 u) in (split t.0, t.1, t.2))
        | inl nr ↦ (let e = empty_under positions k g lr nl nr u in
            (all_null, (nl, nr, sym u.nulls ∙ nulls_all g (suc k.left) (k.right - suc k.left) (λ i x y. none_at g e i)), (u.part, e)))
      ]
    ]

pub region_sound : (positions : List (List Disjunct)) (k : Region) (g : Linkage) → k.left < k.right → (a : Alternative) → IsAlternative positions k a → SpelledBy positions k a g → Under positions k g
region_sound positions k g lr all_null a s = under_empty positions k g lr a.0 a.1 a.2 s.0 s.1
region_sound positions k g lr (split c) a s = put_together positions k c g lr a s

some_linked : (g : Linkage) (i : ℕ) (d : Disjunct) → chosen_at g i ≡ Some d → IsLinked g i
some_linked g i d e = subst (λ z. IsSome z) (sym e) refl

pub region_unique : (positions : List (List Disjunct)) (k : Region) (g : Linkage) (a b : Alternative) → IsAlternative positions k a → SpelledBy positions k a g → IsAlternative positions k b → SpelledBy positions k b g → a ≡ b
region_unique positions k g all_null all_null ia sa ib sb = refl
region_unique positions k g all_null (split c) ia sa ib sb = absurd (sa.1.unlinked c.word (some_linked g c.word c.disjunct sb.chosen))
region_unique positions k g (split c) all_null ia sa ib sb = absurd (sb.1.unlinked c.word (some_linked g c.word c.disjunct sa.chosen))
region_unique positions k g (split c) (split d) ia sa ib sb = ap (λ z. split z) (same_cut positions k c d g ia sa ib sb)
