-- Taking the joint of two ends off, and putting it on again.
use Rattle.std.proofs.Common.{◌≡◌, ℕ, ◌<◌, ◌≤◌, ◌⊎◌, ◌↔◌, inl, inr, refl, sym, ap, ◌∙◌, subst, Bool, true, false, ◌&&◌, not, List, take, Option, Some, None, slice_get, ◌==◌, arith}
use Rattle.std.proofs.lemmas.Bool.{cases_lt, cases_Bool}
use Rattle.std.proofs.lemmas.Bool.Decides.{nat_tests}
use Rattle.lg_gram.specs.Connectors.{Connector}
use Rattle.lg_gram.specs.Rules.{Serves}
use Rattle.lg_gram.specs.Walks.{Walk}
use Rattle.lg_gram.specs.Walks.Walk.{stay, forth}
use Rattle.lg_gram.specs.declared.linkage.Link.{Link}
use Rattle.lg_region.specs.Parts.{EdgeWith, but_at}
use Rattle.lg_region.specs.Cuts.{IsJoint, IsCutAt}
use Rattle.lg_region.specs.declared.key.Joint.{Joint as Places}
use Rattle.lg_region.proofs.Fits.{Fits}
use Rattle.lg_region.proofs.Walks.{walk_map}
use Rattle.lg_region.proofs.Joints.{Joint, GoesBy, HasMore, fits_open, fits_closed, last_right, last_left}

-- a test finds a link of G that passes, or none does
abbrev pub Searchable : (Link → Type 0) → Type 0
Searchable G = (p : Link → Bool) → ((l : Link) × G l × (p l ≡ true)) ⊎ ((l : Link) → G l → p l ≡ false)

abbrev pub OpenOf : ℕ → ℕ → (Link → Type 0) → Link → Type 0
OpenOf L R G l = G l × (l.left ≡ L → l.right ≡ R → ⊥)

pub but_here : (i : ℕ) (xs : List Connector) (f : ℕ → List Connector) (j : ℕ) → j ≡ i → but_at i xs f j ≡ xs
but_here i xs f j e = let t : (j == i) ≡ true = grind (arith, nat_tests) in rw t refl

pub but_else : (i : ℕ) (xs : List Connector) (f : ℕ → List Connector) (j : ℕ) → (j ≡ i → ⊥) → but_at i xs f j ≡ f j
but_else i xs f j e = let t : (j == i) ≡ false = grind (arith, nat_tests) in rw t refl

but_same : (i : ℕ) (f : ℕ → List Connector) (j : ℕ) → but_at i (f i) f j ≡ f j
but_same i f j =
    elim (cases_Bool (j == i)) [ inl t ↦ (let e : j ≡ i = grind (arith, nat_tests) in rw t (ap f (sym e))) | inr t ↦ rw t refl ]

-- what fits, fits by other lists and links that are the same between the ends
pub fits_same : (L R : ℕ) (rights lefts rights' lefts' : ℕ → List Connector) (Linked Linked' : ℕ → Type 0) (G H : Link → Type 0)
    → ((i : ℕ) → L ≤ i → i < R → rights' i ≡ rights i) → ((j : ℕ) → L < j → j ≤ R → lefts' j ≡ lefts j) → ((i : ℕ) → L < i → i < R → Linked' i → Linked i) → ((l : Link) → H l ↔ G l)
    → Fits L R rights lefts Linked G → Fits L R rights' lefts' Linked' H
fits_same L R rights lefts rights' lefts' Linked Linked' G H sr sl sw sg f = record {
  within = λ l h. f.within l ((sg l).0 h);
  matched = λ l h.
      let m = f.matched l ((sg l).0 h) in
      let w = f.within l ((sg l).0 h) in
      (m.0, m.1, subst (λ z. slice_get z l.lplace ≡ Some m.0) (sym (sr l.left w.0 (omega arith))) m.2, subst (λ z. slice_get z l.rplace ≡ Some m.1) (sym (sl l.right (omega arith) w.2)) m.3, m.4);
  served_right = λ i p c li ir at.
      let s = f.served_right i p c li ir (subst (λ z. slice_get z p ≡ Some c) (sr i li ir) at) in
      record { some = (s.some.0, (sg s.some.0).1 s.some.1, s.some.2, s.some.3); one = λ m k l hk hl. s.one m k l ((sg k).0 hk) ((sg l).0 hl) };
  served_left = λ j q c lj jr at.
      let s = f.served_left j q c lj jr (subst (λ z. slice_get z q ≡ Some c) (sl j lj jr) at) in
      record { some = (s.some.0, (sg s.some.0).1 s.some.1, s.some.2, s.some.3); one = λ m k l hk hl. s.one m k l ((sg k).0 hk) ((sg l).0 hl) };
  planar = λ k l hk hl. f.planar k l ((sg k).0 hk) ((sg l).0 hl);
  ordered_right = λ k l hk hl. f.ordered_right k l ((sg k).0 hk) ((sg l).0 hl);
  ordered_left = λ k l hk hl. f.ordered_left k l ((sg k).0 hk) ((sg l).0 hl);
  exclusive = λ k l hk hl. f.exclusive k l ((sg k).0 hk) ((sg l).0 hl);
  connected = λ i li ir is.
      let edge : (a b : ℕ) → EdgeWith L R G a b → Walk (EdgeWith L R H) a b = λ a b e. elim e [
        | inl x ↦ forth a b b (inl (x.0, (sg x.0).1 x.1, x.2, x.3)) (stay b)
        | inr x ↦ forth a b b (inr x) (stay b)
      ] in
      elim (cases_lt L i) [
        | inr h ↦ (let e : L ≡ i = omega arith in subst (λ z. Walk (EdgeWith L R H) L z) e (stay L))
        | inl h ↦ elim (cases_lt i R) [
          | inr g ↦ forth L i i (inr (refl, omega arith)) (stay i)
          | inl g ↦ walk_map (EdgeWith L R G) (EdgeWith L R H) (λ x. x) edge L i (f.connected i li ir (sw i h g is))
        ]
      ];
}

-- what a part is without the joint of its ends, if it has one
pub record Taken (L R : ℕ) (rights lefts : ℕ → List Connector) (Linked : ℕ → Type 0) (G : Link → Type 0) : Type 0 where
  pub joint : Option Places
  pub near : List Connector
  pub far : List Connector
  pub cut : IsCutAt joint (rights L) (lefts R) near far
  pub fits : Fits L R (but_at L near rights) (but_at R far lefts) Linked (OpenOf L R G)
  pub joined : (l : Link) → IsJoint joint L R l → G l
  pub rest : (l : Link) → G l → OpenOf L R G l ⊎ IsJoint joint L R l

joins : ℕ → ℕ → Link → Bool
joins L R l = (l.left == L) && (l.right == R)

joins_true : (L R : ℕ) (l : Link) → joins L R l ≡ true → (l.left ≡ L) × (l.right ≡ R)
unfolding joins
joins_true L R l e = (grind (arith, nat_tests), grind (arith, nat_tests))

joins_false : (L R : ℕ) (l : Link) → joins L R l ≡ false → l.left ≡ L → l.right ≡ R → ⊥
unfolding joins
joins_false L R l e f g = grind (arith, nat_tests)

taken_none : (L R : ℕ) (rights lefts : ℕ → List Connector) (Linked : ℕ → Type 0) (G : Link → Type 0) → ((l : Link) → G l → l.left ≡ L → l.right ≡ R → ⊥) → Fits L R rights lefts Linked G → Taken L R rights lefts Linked G
taken_none L R rights lefts Linked G none f = record {
  joint = None;
  near = rights L;
  far = lefts R;
  cut = (refl, refl);
  fits = fits_same L R rights lefts (but_at L (rights L) rights) (but_at R (lefts R) lefts) Linked Linked G (OpenOf L R G) (λ i a b. but_same L rights i) (λ j a b. but_same R lefts j) (λ i a b h. h) (λ l. ((λ o. o.0), (λ g. (g, none l g)))) f;
  joined = λ l h. absurd h;
  rest = λ l g. inl (g, none l g);
}

-- whether a link besides those of L and R has place p at i
more : (Link → ℕ) → (Link → ℕ) → ℕ → ℕ → ℕ → ℕ → Link → Bool
more at place i p L R l = ((at l == i) && (place l == p)) && not (joins L R l)

more_true : (a b i p : ℕ) (t : Bool) → (((a == i) && (b == p)) && not t) ≡ true → (a ≡ i) × (b ≡ p)
more_true a b i p t e = (grind (arith, nat_tests), grind (arith, nat_tests))

more_apart : (a b i p : ℕ) (t : Bool) → (((a == i) && (b == p)) && not t) ≡ true → t ≡ false
more_apart a b i p true e = grind (arith, nat_tests)
more_apart a b i p false e = refl

more_false : (a b i p : ℕ) (t : Bool) → (((a == i) && (b == p)) && not t) ≡ false → a ≡ i → b ≡ p → t ≡ true
more_false a b i p true e f g = refl
more_false a b i p false e f g = grind (arith, nat_tests)

more_cases : (L R : ℕ) (G : Link → Type 0) (at place : Link → ℕ) (i p : ℕ) → Searchable G → HasMore (OpenOf L R G) at place i p ⊎ (HasMore (OpenOf L R G) at place i p → ⊥)
unfolding more
more_cases L R G at place i p search' =
    elim (search' (more at place i p L R)) [
      | inl s ↦ (let e = more_true (at s.0) (place s.0) i p (joins L R s.0) s.2 in
          inl (s.0, (s.1, joins_false L R s.0 (more_apart (at s.0) (place s.0) i p (joins L R s.0) s.2)), e.0, e.1))
      | inr n ↦ inr (λ (l, o, e, f). let t = joins_true L R l (more_false (at l) (place l) i p (joins L R l) (n l o.0) e f) in o.1 t.0 t.1)
    ]

goes_by_of : (More : Type 0) (cs : List Connector) (p : ℕ) → More ⊎ (More → ⊥) → (cs' : List Connector) × GoesBy More cs p cs'
goes_by_of More cs p (inl m) = (cs, inr (refl, m))
goes_by_of More cs p (inr n) = (take p cs, inl (refl, n))

abbrev pub OnlyMulti : List Connector → ℕ → List Connector → Type 0
OnlyMulti cs p cs' = (cs' ≡ take p cs) ⊎ ((cs' ≡ cs) × ((c : Connector) → slice_get cs p ≡ Some c → c.multi ≡ true))

goes_multi : (More : Type 0) (cs : List Connector) (p : ℕ) (cs' : List Connector) → (More → (c : Connector) → slice_get cs p ≡ Some c → c.multi ≡ true) → GoesBy More cs p cs' → OnlyMulti cs p cs'
goes_multi More cs p cs' multi (inl e) = inl e.0
goes_multi More cs p cs' multi (inr e) = inr (e.0, multi e.1)

-- a place with the joint and one more link is multi
multi_of : (L R : ℕ) (G : Link → Type 0) (at place : Link → ℕ) (i : ℕ) (c : Connector) (l0 : Link) → G l0 → at l0 ≡ i → l0.left ≡ L → l0.right ≡ R → Serves G at place i (place l0) c
    → HasMore (OpenOf L R G) at place i (place l0) → c.multi ≡ true
multi_of L R G at place i c l0 g e from to s (l, o, el, pl) =
    elim (cases_Bool c.multi) [
      | inl t ↦ t
      | inr t ↦ (let same : l0 ≡ l = s.one t l0 l g o.0 e refl el pl in
          absurd (o.1 (ap (λ z. z.left) (sym same) ∙ from) (ap (λ z. z.right) (sym same) ∙ to)))
    ]

joint_of : (l : Link) (L R : ℕ) → l.left ≡ L → l.right ≡ R → IsJoint (Some (record { near = l.lplace; far = l.rplace })) L R l
joint_of l L R e f =
    let a : IsJoint (Some (record { near = l.lplace; far = l.rplace })) l.left l.right l = refl in
    subst (λ z. IsJoint (Some (record { near = l.lplace; far = l.rplace })) z R l) e (subst (λ z. IsJoint (Some (record { near = l.lplace; far = l.rplace })) l.left z l) f a)

taken_some : (L R : ℕ) (rights lefts : ℕ → List Connector) (Linked : ℕ → Type 0) (G : Link → Type 0) (l0 : Link) → L < R → Searchable G → G l0 → l0.left ≡ L → l0.right ≡ R → Fits L R rights lefts Linked G → Taken L R rights lefts Linked G
taken_some L R rights lefts Linked G l0 lr search' g from to f =
    let O : Link → Type 0 = OpenOf L R G in
    let rest : (l : Link) → G l → O l ⊎ (l ≡ l0) = λ l h. elim (cases_Bool (joins L R l)) [
      | inl t ↦ (let e = joins_true L R l t in inr (f.exclusive l l0 h g (e.0 ∙ sym from) (e.1 ∙ sym to)))
      | inr t ↦ inl (h, joins_false L R l t)
    ] in
    let j : Joint L R G O l0 = record { here = g; from = from; to = to; others = rest; inner = λ l o. o.0; apart = λ l o. o.1 } in
    let MoreR = HasMore O (λ l. l.left) (λ l. l.lplace) L l0.lplace in
    let MoreL = HasMore O (λ l. l.right) (λ l. l.rplace) R l0.rplace in
    let byR = goes_by_of MoreR (rights L) l0.lplace (more_cases L R G (λ l. l.left) (λ l. l.lplace) L l0.lplace search') in
    let byL = goes_by_of MoreL (lefts R) l0.rplace (more_cases L R G (λ l. l.right) (λ l. l.rplace) R l0.rplace search') in
    let lastR = last_right L R rights lefts Linked G O l0 lr f j in
    let lastL = last_left L R rights lefts Linked G O l0 lr f j in
    let m = f.matched l0 g in
    let same : IsJoint (Some (record { near = l0.lplace; far = l0.rplace })) L R l0 = joint_of l0 L R from to in
    record {
      joint = Some (record { near = l0.lplace; far = l0.rplace });
      near = byR.0;
      far = byL.0;
      cut = (
        (lastR, goes_multi MoreR (rights L) l0.lplace byR.0 (λ x c at. multi_of L R G (λ l. l.left) (λ l. l.lplace) L c l0 g from from to (f.served_right L l0.lplace c (omega arith) lr at) x) byR.1),
        (lastL, goes_multi MoreL (lefts R) l0.rplace byL.0 (λ x c at. multi_of L R G (λ l. l.right) (λ l. l.rplace) R c l0 g to from to (f.served_left R l0.rplace c lr (omega arith) at) x) byL.1),
        (m.0, m.1, subst (λ z. slice_get (rights z) l0.lplace ≡ Some m.0) from m.2, subst (λ z. slice_get (lefts z) l0.rplace ≡ Some m.1) to m.3, m.4),
      );
      fits = fits_open L R rights lefts (but_at L byR.0 rights) (but_at R byL.0 lefts) Linked G O l0 lr j
          (record {
            same_right = λ i h. but_else L byR.0 rights i (λ e. absurd (omega arith));
            same_left = λ i h. but_else R byL.0 lefts i (λ e. absurd (omega arith));
            by_right = subst (λ z. GoesBy MoreR (rights L) l0.lplace z) (sym (but_here L byR.0 rights L refl)) byR.1;
            by_left = subst (λ z. GoesBy MoreL (lefts R) l0.rplace z) (sym (but_here R byL.0 lefts R refl)) byL.1;
          }) f;
      joined = λ l e. subst G (same ∙ sym e) g;
      rest = λ l h. elim (rest l h) [ inl o ↦ inl o | inr e ↦ inr (e ∙ same) ];
    }

-- the joint off
pub take_side : (L R : ℕ) (rights lefts : ℕ → List Connector) (Linked : ℕ → Type 0) (G : Link → Type 0) → L < R → Searchable G → Fits L R rights lefts Linked G → Taken L R rights lefts Linked G
take_side L R rights lefts Linked G lr search' f =
    elim (search' (joins L R)) [
      | inl s ↦ (let e = joins_true L R s.0 s.2 in taken_some L R rights lefts Linked G s.0 lr search' s.1 e.0 e.1 f)
      | inr n ↦ taken_none L R rights lefts Linked G (λ l g. joins_false L R l (n l g)) f
    ]

-- the joint on
pub put_side : (L R : ℕ) (rights lefts : ℕ → List Connector) (Linked : ℕ → Type 0) (G O : Link → Type 0) (o : Option Places) (near far : List Connector) → L < R → IsCutAt o (rights L) (lefts R) near far
    → ((l : Link) → G l → O l ⊎ IsJoint o L R l) → ((l : Link) → O l → G l) → ((l : Link) → O l → l.left ≡ L → l.right ≡ R → ⊥) → ((l : Link) → IsJoint o L R l → G l)
    → Fits L R (but_at L near rights) (but_at R far lefts) Linked O → Fits L R rights lefts Linked G
put_side L R rights lefts Linked G O None near far lr cut rest inner apart joined f =
    fits_same L R (but_at L near rights) (but_at R far lefts) rights lefts Linked Linked O G
    (λ i a b. sym (subst (λ z. but_at L z rights i ≡ rights i) (sym cut.0) (but_same L rights i)))
    (λ i a b. sym (subst (λ z. but_at R z lefts i ≡ lefts i) (sym cut.1) (but_same R lefts i)))
    (λ i a b h. h) (λ l. ((λ g. elim (rest l g) [ inl x ↦ x | inr x ↦ absurd x ]), inner l)) f
put_side L R rights lefts Linked G O (Some j) near far lr cut rest inner apart joined f =
    let l0 : Link = record { left = L; lplace = j.near; right = R; rplace = j.far } in
    fits_closed L R rights lefts (but_at L near rights) (but_at R far lefts) Linked G O l0 lr
    (record { here = joined l0 refl; from = refl; to = refl; others = rest; inner = inner; apart = apart })
    cut.2
    (record {
      same_right = λ i h. but_else L near rights i (λ e. absurd (omega arith));
      same_left = λ i h. but_else R far lefts i (λ e. absurd (omega arith));
      on_right = subst (λ z. OnlyMulti (rights L) j.near z) (sym (but_here L near rights L refl)) cut.0.1;
      on_left = subst (λ z. OnlyMulti (lefts R) j.far z) (sym (but_here R far lefts R refl)) cut.1.1;
      last_right = cut.0.0;
      last_left = cut.1.0;
    }) f
