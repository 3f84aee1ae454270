-- A part with a link between its ends is the part without it, with the two lists at the ends shortened, or whole where their last place has one more link.
use Rattle.std.proofs.Common.{◌≡◌, ℕ, zero, suc, ◌<◌, ◌≤◌, ◌⊎◌, inl, inr, refl, sym, ap, ◌∙◌, subst, Bool, true, false, List, [], ◌∷◌, length, take, Some, slice_get, arith}
use Rattle.std.proofs.lemmas.Bool.{cases_lt}
use Rattle.std.proofs.lemmas.Option.{slice_get_within}
use Rattle.lg_gram.specs.Connectors.{Connector}
use Rattle.lg_gram.specs.Rules.{Serves, Joins}
use Rattle.lg_gram.specs.Walks.{Walk}
use Rattle.lg_gram.specs.Walks.Walk.{stay, forth}
use Rattle.lg_gram.specs.declared.linkage.Link.{Link}
use Rattle.lg_region.specs.Parts.{EdgeWith}
use Rattle.lg_region.proofs.Fits.{Fits}
use Rattle.lg_region.proofs.Walks.{walk_map}

-- l0 is the one link of G from L to R, and O has the others
pub record Joint (L R : ℕ) (G O : Link → Type 0) (l0 : Link) : Type 0 where
  pub here : G l0
  pub from : l0.left ≡ L
  pub to : l0.right ≡ R
  pub others : (l : Link) → G l → O l ⊎ (l ≡ l0)
  pub inner : (l : Link) → O l → G l
  pub apart : (l : Link) → O l → l.left ≡ L → l.right ≡ R → ⊥

-- the list cs, whose last place is p, goes on as cs': without its last connector, or whole where that is multi
abbrev pub GoesOn : List Connector → ℕ → List Connector → Type 0
GoesOn cs p cs' = (cs' ≡ take p cs) ⊎ ((cs' ≡ cs) × ((c : Connector) → slice_get cs p ≡ Some c → c.multi ≡ true))

-- the same, decided by whether the last place has another link
abbrev pub GoesBy : (More : Type 0) → List Connector → ℕ → List Connector → Type 0
GoesBy More cs p cs' = ((cs' ≡ take p cs) × (More → ⊥)) ⊎ ((cs' ≡ cs) × More)

pub take_get : (cs : List Connector) (p q : ℕ) (c : Connector) → slice_get (take p cs) q ≡ Some c → (q < p) × (slice_get cs q ≡ Some c)
take_get cs zero q c h = cc
take_get [] (suc p) q c h = cc
take_get (x ∷ cs) (suc p) zero c h = (omega arith, h)
take_get (x ∷ cs) (suc p) (suc q) c h = let r = take_get cs p q c h in (omega arith, r.1)

pub get_take : (cs : List Connector) (p q : ℕ) (c : Connector) → q < p → slice_get cs q ≡ Some c → slice_get (take p cs) q ≡ Some c
get_take cs zero q c l h = absurd (omega arith)
get_take [] (suc p) q c l h = h
get_take (x ∷ cs) (suc p) zero c l h = h
get_take (x ∷ cs) (suc p) (suc q) c l h = get_take cs p q c (omega arith) h

pub get_in : (cs : List Connector) (p : ℕ) → p < length cs → (c : Connector) × (slice_get cs p ≡ Some c)
get_in [] p h = absurd (omega arith)
get_in (x ∷ cs) zero h = (x, refl)
get_in (x ∷ cs) (suc p) h = get_in cs p (omega arith)

goes_sub : (cs : List Connector) (p : ℕ) (cs' : List Connector) → (cs' ≡ take p cs) ⊎ (cs' ≡ cs) → (q : ℕ) (c : Connector) → slice_get cs' q ≡ Some c → slice_get cs q ≡ Some c
goes_sub cs p cs' (inl e) q c h = (take_get cs p q c (subst (λ z. slice_get z q ≡ Some c) e h)).1
goes_sub cs p cs' (inr e) q c h = subst (λ z. slice_get z q ≡ Some c) e h

goes_below : (cs : List Connector) (p : ℕ) (cs' : List Connector) → (cs' ≡ take p cs) ⊎ (cs' ≡ cs) → (q : ℕ) (c : Connector) → q < p → slice_get cs q ≡ Some c → slice_get cs' q ≡ Some c
goes_below cs p cs' (inl e) q c l h = subst (λ z. slice_get z q ≡ Some c) (sym e) (get_take cs p q c l h)
goes_below cs p cs' (inr e) q c l h = subst (λ z. slice_get z q ≡ Some c) (sym e) h

goes_way : (cs : List Connector) (p : ℕ) (cs' : List Connector) → GoesOn cs p cs' → (cs' ≡ take p cs) ⊎ (cs' ≡ cs)
goes_way cs p cs' (inl e) = inl e
goes_way cs p cs' (inr e) = inr e.0

goes_way_by : (More : Type 0) (cs : List Connector) (p : ℕ) (cs' : List Connector) → GoesBy More cs p cs' → (cs' ≡ take p cs) ⊎ (cs' ≡ cs)
goes_way_by More cs p cs' (inl e) = inl e.0
goes_way_by More cs p cs' (inr e) = inr e.0

-- where the last place is still there, it is multi
goes_last : (cs : List Connector) (p : ℕ) (cs' : List Connector) → GoesOn cs p cs' → (c d : Connector) → slice_get cs p ≡ Some c → slice_get cs' p ≡ Some d → c.multi ≡ true
goes_last cs p cs' (inl e) c d h i = absurd (let r = take_get cs p p d (subst (λ z. slice_get z p ≡ Some d) e i) in omega arith)
goes_last cs p cs' (inr e) c d h i = e.1 c h

-- where the last place is still there, it has another link
goes_last_by : (More : Type 0) (cs : List Connector) (p : ℕ) (cs' : List Connector) → GoesBy More cs p cs' → (d : Connector) → slice_get cs' p ≡ Some d → More
goes_last_by More cs p cs' (inl e) d i = absurd (let r = take_get cs p p d (subst (λ z. slice_get z p ≡ Some d) (e.0) i) in omega arith)
goes_last_by More cs p cs' (inr e) d i = e.1

-- where it has another link, it is still there
goes_kept_by : (More : Type 0) (cs : List Connector) (p : ℕ) (cs' : List Connector) → GoesBy More cs p cs' → More → (q : ℕ) (c : Connector) → slice_get cs q ≡ Some c → slice_get cs' q ≡ Some c
goes_kept_by More cs p cs' (inl e) m q c i = absurd (e.1 m)
goes_kept_by More cs p cs' (inr e) m q c i = subst (λ z. slice_get z q ≡ Some c) (sym e.0) i

-- O has a link at place p of i
abbrev pub HasMore : (Link → Type 0) → (Link → ℕ) → (Link → ℕ) → ℕ → ℕ → Type 0
HasMore O at place i p = (l : Link) × O l × (at l ≡ i) × (place l ≡ p)

-- what serves goes over, at an end of the joint
serves_open : (L R : ℕ) (G O : Link → Type 0) (l0 : Link) (at place : Link → ℕ) (i : ℕ) (cs cs' : List Connector) → Joint L R G O l0 → GoesBy (HasMore O at place i (place l0)) cs (place l0) cs'
    → (q : ℕ) (c : Connector) → slice_get cs' q ≡ Some c → Serves G at place i q c → Serves O at place i q c
serves_open L R G O l0 at place i cs cs' j by q c h s = record {
  some = elim (j.others s.some.0 s.some.1) [
    | inl o ↦ (s.some.0, o, s.some.2, s.some.3)
    | inr e ↦ (let pq : place l0 ≡ q = ap place (sym e) ∙ s.some.3 in
        subst (λ z. HasMore O at place i z) pq (goes_last_by (HasMore O at place i (place l0)) cs (place l0) cs' by c (subst (λ z. slice_get cs' z ≡ Some c) (sym pq) h)))
  ];
  one = λ m k l ok ol. s.one m k l (j.inner k ok) (j.inner l ol);
}

-- and away from it
serves_open_inside : (L R : ℕ) (G O : Link → Type 0) (l0 : Link) (at place : Link → ℕ) (i : ℕ) → Joint L R G O l0 → (at l0 ≡ i → ⊥)
    → (q : ℕ) (c : Connector) → Serves G at place i q c → Serves O at place i q c
serves_open_inside L R G O l0 at place i j away q c s = record {
  some = elim (j.others s.some.0 s.some.1) [
    | inl o ↦ (s.some.0, o, s.some.2, s.some.3)
    | inr e ↦ absurd (away (ap at (sym e) ∙ s.some.2))
  ];
  one = λ m k l ok ol. s.one m k l (j.inner k ok) (j.inner l ol);
}

serves_closed_inside : (L R : ℕ) (G O : Link → Type 0) (l0 : Link) (at place : Link → ℕ) (i : ℕ) → Joint L R G O l0 → (q : ℕ) → (at l0 ≡ i → place l0 ≡ q → ⊥)
    → (c : Connector) → Serves O at place i q c → Serves G at place i q c
serves_closed_inside L R G O l0 at place i j q away c s = record {
  some = (s.some.0, j.inner s.some.0 s.some.1, s.some.2, s.some.3);
  one = λ m k l gk gl ek pk el pl. elim (j.others k gk) [
    | inr e ↦ absurd (away (ap at (sym e) ∙ ek) (ap place (sym e) ∙ pk))
    | inl ok ↦ elim (j.others l gl) [
      | inr e ↦ absurd (away (ap at (sym e) ∙ el) (ap place (sym e) ∙ pl))
      | inl ol ↦ s.one m k l ok ol ek pk el pl
    ]
  ];
}

not_both : (b : Bool) → b ≡ true → b ≡ false → ⊥
not_both b e f = let x : ◌≡◌ {A = Bool} true false = cc in absurd (cc)

-- the last place of the end has the joint
serves_closed_last : (L R : ℕ) (G O : Link → Type 0) (l0 : Link) (at place : Link → ℕ) (i : ℕ) (cs cs' : List Connector) → Joint L R G O l0 → at l0 ≡ i → GoesOn cs (place l0) cs'
    → ((k : Link) → O k → at k ≡ i → (d : Connector) × (slice_get cs' (place k) ≡ Some d))
    → (c : Connector) → slice_get cs (place l0) ≡ Some c → Serves G at place i (place l0) c
serves_closed_last L R G O l0 at place i cs cs' j e0 on has c h =
    let not : (k : Link) → O k → at k ≡ i → place k ≡ place l0 → c.multi ≡ false → ⊥ = λ k ok ek pk m.
    (let d = has k ok ek in not_both c.multi (goes_last cs (place l0) cs' on c d.0 h (subst (λ z. slice_get cs' z ≡ Some d.0) pk d.1)) m) in
    record {
      some = (l0, j.here, e0, refl);
      one = λ m k l gk gl ek pk el pl. elim (j.others k gk) [
        | inl ok ↦ absurd (not k ok ek pk m)
        | inr e ↦ elim (j.others l gl) [ inl ol ↦ absurd (not l ol el pl m) | inr f ↦ e ∙ sym f ]
      ];
    }

lt_or_eq : (q p : ℕ) → q < suc p → (q < p) ⊎ (q ≡ p)
lt_or_eq q p h = grind arith

goes_any_by : (More : Type 0) (cs : List Connector) (p : ℕ) (cs' : List Connector) → GoesBy More cs p cs' → suc p ≡ length cs → (q : ℕ) (c : Connector) → (q ≡ p → More) → slice_get cs q ≡ Some c → slice_get cs' q ≡ Some c
goes_any_by More cs p cs' by e q c more h =
    let w = slice_get_within cs q c h in
    elim (lt_or_eq q p (omega arith)) [
      | inl l ↦ goes_below cs p cs' (goes_way_by More cs p cs' by) q c l h
      | inr f ↦ goes_kept_by More cs p cs' by (more f) q c h
    ]

-- the joint is at the last place of the list at the left end: the word at a later place would be farther
pub last_right : (L R : ℕ) (rights lefts : ℕ → List Connector) (Linked : ℕ → Type 0) (G O : Link → Type 0) (l0 : Link) → L < R → Fits L R rights lefts Linked G → Joint L R G O l0 → suc l0.lplace ≡ length (rights L)
last_right L R rights lefts Linked G O l0 lr f j =
    let m = f.matched l0 j.here in
    let w = slice_get_within (rights L) l0.lplace m.0 (subst (λ z. slice_get (rights z) l0.lplace ≡ Some m.0) j.from m.2) in
    elim (cases_lt (suc l0.lplace) (length (rights L))) [
      | inl h ↦ (let c = get_in (rights L) (suc l0.lplace) h in
          let s = f.served_right L (suc l0.lplace) c.0 (omega arith) lr c.1 in
          let p : s.some.0.lplace ≡ suc l0.lplace = s.some.3 in
          let farther = f.ordered_right l0 s.some.0 j.here s.some.1 (j.from ∙ sym s.some.2) (omega arith) in
          let b = f.within s.some.0 s.some.1 in
          let to = j.to in
          absurd (omega arith))
      | inr h ↦ omega arith
    ]

pub last_left : (L R : ℕ) (rights lefts : ℕ → List Connector) (Linked : ℕ → Type 0) (G O : Link → Type 0) (l0 : Link) → L < R → Fits L R rights lefts Linked G → Joint L R G O l0 → suc l0.rplace ≡ length (lefts R)
last_left L R rights lefts Linked G O l0 lr f j =
    let m = f.matched l0 j.here in
    let w = slice_get_within (lefts R) l0.rplace m.1 (subst (λ z. slice_get (lefts z) l0.rplace ≡ Some m.1) j.to m.3) in
    elim (cases_lt (suc l0.rplace) (length (lefts R))) [
      | inl h ↦ (let c = get_in (lefts R) (suc l0.rplace) h in
          let s = f.served_left R (suc l0.rplace) c.0 lr (omega arith) c.1 in
          let p : s.some.0.rplace ≡ suc l0.rplace = s.some.3 in
          let farther = f.ordered_left l0 s.some.0 j.here s.some.1 (j.to ∙ sym s.some.2) (omega arith) in
          let b = f.within s.some.0 s.some.1 in
          let from = j.from in
          absurd (omega arith))
      | inr h ↦ omega arith
    ]

-- how the lists at the two ends go on without the joint, decided by what the others have at their last places
pub record EndsBy (L R : ℕ) (rights lefts rights' lefts' : ℕ → List Connector) (O : Link → Type 0) (l0 : Link) : Type 0 where
  pub same_right : (i : ℕ) → L < i → rights' i ≡ rights i
  pub same_left : (j : ℕ) → j < R → lefts' j ≡ lefts j
  pub by_right : GoesBy (HasMore O (λ l. l.left) (λ l. l.lplace) L l0.lplace) (rights L) l0.lplace (rights' L)
  pub by_left : GoesBy (HasMore O (λ l. l.right) (λ l. l.rplace) R l0.rplace) (lefts R) l0.rplace (lefts' R)

-- how they go on in a cut
pub record EndsOn (L R : ℕ) (rights lefts rights' lefts' : ℕ → List Connector) (l0 : Link) : Type 0 where
  pub same_right : (i : ℕ) → L < i → rights' i ≡ rights i
  pub same_left : (j : ℕ) → j < R → lefts' j ≡ lefts j
  pub on_right : GoesOn (rights L) l0.lplace (rights' L)
  pub on_left : GoesOn (lefts R) l0.rplace (lefts' R)
  pub last_right : suc l0.lplace ≡ length (rights L)
  pub last_left : suc l0.rplace ≡ length (lefts R)

edge_open : (L R : ℕ) (G O : Link → Type 0) (l0 : Link) → Joint L R G O l0 → (a b : ℕ) → EdgeWith L R G a b → Walk (EdgeWith L R O) a b
edge_open L R G O l0 j a b (inr e) = forth a b b (inr e) (stay b)
edge_open L R G O l0 j a b (inl (l, g, el, er)) =
    elim (j.others l g) [
      | inl o ↦ forth a b b (inl (l, o, el, er)) (stay b)
      | inr e ↦ forth a b b (inr (sym el ∙ ap (λ z. z.left) e ∙ j.from, sym er ∙ ap (λ z. z.right) e ∙ j.to)) (stay b)
    ]

edge_closed : (L R : ℕ) (G O : Link → Type 0) (l0 : Link) → Joint L R G O l0 → (a b : ℕ) → EdgeWith L R O a b → Walk (EdgeWith L R G) a b
edge_closed L R G O l0 j a b (inr e) = forth a b b (inr e) (stay b)
edge_closed L R G O l0 j a b (inl (l, o, el, er)) = forth a b b (inl (l, j.inner l o, el, er)) (stay b)

-- without the joint
pub fits_open : (L R : ℕ) (rights lefts rights' lefts' : ℕ → List Connector) (Linked : ℕ → Type 0) (G O : Link → Type 0) (l0 : Link) → L < R → Joint L R G O l0
    → EndsBy L R rights lefts rights' lefts' O l0 → Fits L R rights lefts Linked G → Fits L R rights' lefts' Linked O
fits_open L R rights lefts rights' lefts' Linked G O l0 lr j ends f =
    let MoreR = HasMore O (λ l. l.left) (λ l. l.lplace) L l0.lplace in
    let MoreL = HasMore O (λ l. l.right) (λ l. l.rplace) R l0.rplace in
    let lastR = last_right L R rights lefts Linked G O l0 lr f j in
    let lastL = last_left L R rights lefts Linked G O l0 lr f j in
    record {
      within = λ l o. f.within l (j.inner l o);
      matched = λ l o.
          let m = f.matched l (j.inner l o) in
          let w = f.within l (j.inner l o) in
          let a : slice_get (rights' l.left) l.lplace ≡ Some m.0 = elim (cases_lt L l.left) [
            | inl h ↦ subst (λ z. slice_get z l.lplace ≡ Some m.0) (sym (ends.same_right l.left h)) m.2
            | inr h ↦ (let e : L ≡ l.left = omega arith in
                subst (λ z. slice_get (rights' z) l.lplace ≡ Some m.0) e
                (goes_any_by MoreR (rights L) l0.lplace (rights' L) ends.by_right lastR l.lplace m.0 (λ f. (l, o, sym e, f))
                (subst (λ z. slice_get (rights z) l.lplace ≡ Some m.0) (sym e) m.2)))
          ] in
          let b : slice_get (lefts' l.right) l.rplace ≡ Some m.1 = elim (cases_lt l.right R) [
            | inl h ↦ subst (λ z. slice_get z l.rplace ≡ Some m.1) (sym (ends.same_left l.right h)) m.3
            | inr h ↦ (let e : R ≡ l.right = omega arith in
                subst (λ z. slice_get (lefts' z) l.rplace ≡ Some m.1) e
                (goes_any_by MoreL (lefts R) l0.rplace (lefts' R) ends.by_left lastL l.rplace m.1 (λ f. (l, o, sym e, f))
                (subst (λ z. slice_get (lefts z) l.rplace ≡ Some m.1) (sym e) m.3)))
          ] in
          (m.0, m.1, a, b, m.4);
      served_right = λ i p c li ir at. elim (cases_lt L i) [
        | inl h ↦ serves_open_inside L R G O l0 (λ l. l.left) (λ l. l.lplace) i j (λ e. let d = j.from in absurd (omega arith)) p c
            (f.served_right i p c li ir (subst (λ z. slice_get z p ≡ Some c) (ends.same_right i h) at))
        | inr h ↦ (let e : L ≡ i = omega arith in
            let at' : slice_get (rights' L) p ≡ Some c = subst (λ z. slice_get (rights' z) p ≡ Some c) (sym e) at in
            subst (λ z. Serves O (λ l. l.left) (λ l. l.lplace) z p c) e
            (serves_open L R G O l0 (λ l. l.left) (λ l. l.lplace) L (rights L) (rights' L) j ends.by_right p c at'
            (f.served_right L p c (omega arith) lr (goes_sub (rights L) l0.lplace (rights' L) (goes_way_by MoreR (rights L) l0.lplace (rights' L) ends.by_right) p c at'))))
      ];
      served_left = λ i p c li ir at. elim (cases_lt i R) [
        | inl h ↦ serves_open_inside L R G O l0 (λ l. l.right) (λ l. l.rplace) i j (λ e. let d = j.to in absurd (omega arith)) p c
            (f.served_left i p c li ir (subst (λ z. slice_get z p ≡ Some c) (ends.same_left i h) at))
        | inr h ↦ (let e : R ≡ i = omega arith in
            let at' : slice_get (lefts' R) p ≡ Some c = subst (λ z. slice_get (lefts' z) p ≡ Some c) (sym e) at in
            subst (λ z. Serves O (λ l. l.right) (λ l. l.rplace) z p c) e
            (serves_open L R G O l0 (λ l. l.right) (λ l. l.rplace) R (lefts R) (lefts' R) j ends.by_left p c at'
            (f.served_left R p c lr (omega arith) (goes_sub (lefts R) l0.rplace (lefts' R) (goes_way_by MoreL (lefts R) l0.rplace (lefts' R) ends.by_left) p c at'))))
      ];
      planar = λ k l ok ol. f.planar k l (j.inner k ok) (j.inner l ol);
      ordered_right = λ k l ok ol. f.ordered_right k l (j.inner k ok) (j.inner l ol);
      ordered_left = λ k l ok ol. f.ordered_left k l (j.inner k ok) (j.inner l ol);
      exclusive = λ k l ok ol. f.exclusive k l (j.inner k ok) (j.inner l ol);
      connected = λ i li ir is. walk_map (EdgeWith L R G) (EdgeWith L R O) (λ x. x) (edge_open L R G O l0 j) L i (f.connected i li ir is);
    }

sub_right : (L R : ℕ) (rights lefts rights' lefts' : ℕ → List Connector) (l0 : Link) → EndsOn L R rights lefts rights' lefts' l0 → (i p : ℕ) (c : Connector) → L ≤ i → slice_get (rights' i) p ≡ Some c → slice_get (rights i) p ≡ Some c
sub_right L R rights lefts rights' lefts' l0 ends i p c li h = elim (cases_lt L i) [
  | inl a ↦ subst (λ z. slice_get z p ≡ Some c) (ends.same_right i a) h
  | inr a ↦ (let e : L ≡ i = omega arith in
      subst (λ z. slice_get (rights z) p ≡ Some c) e
      (goes_sub (rights L) l0.lplace (rights' L) (goes_way (rights L) l0.lplace (rights' L) ends.on_right) p c (subst (λ z. slice_get (rights' z) p ≡ Some c) (sym e) h)))
]

sub_left : (L R : ℕ) (rights lefts rights' lefts' : ℕ → List Connector) (l0 : Link) → EndsOn L R rights lefts rights' lefts' l0 → (i p : ℕ) (c : Connector) → i ≤ R → slice_get (lefts' i) p ≡ Some c → slice_get (lefts i) p ≡ Some c
sub_left L R rights lefts rights' lefts' l0 ends i p c li h = elim (cases_lt i R) [
  | inl a ↦ subst (λ z. slice_get z p ≡ Some c) (ends.same_left i a) h
  | inr a ↦ (let e : R ≡ i = omega arith in
      subst (λ z. slice_get (lefts z) p ≡ Some c) e
      (goes_sub (lefts R) l0.rplace (lefts' R) (goes_way (lefts R) l0.rplace (lefts' R) ends.on_left) p c (subst (λ z. slice_get (lefts' z) p ≡ Some c) (sym e) h)))
]

-- a link of two, one of which is the joint
data Pair (O : Link → Type 0) (l0 k l : Link) : Type 0 where
  neither : O k → O l → Pair O l0 k l
  first : k ≡ l0 → O l → Pair O l0 k l
  second : O k → l ≡ l0 → Pair O l0 k l
  both : k ≡ l0 → l ≡ l0 → Pair O l0 k l

pair : (L R : ℕ) (G O : Link → Type 0) (l0 : Link) → Joint L R G O l0 → (k l : Link) → G k → G l → Pair O l0 k l
pair L R G O l0 j k l gk gl =
    elim (j.others k gk) [
      | inl x ↦ elim (j.others l gl) [ inl y ↦ neither x y | inr y ↦ second x y ]
      | inr x ↦ elim (j.others l gl) [ inl y ↦ first x y | inr y ↦ both x y ]
    ]

-- with the joint
pub fits_closed : (L R : ℕ) (rights lefts rights' lefts' : ℕ → List Connector) (Linked : ℕ → Type 0) (G O : Link → Type 0) (l0 : Link) → L < R → Joint L R G O l0 → Joins rights lefts l0
    → EndsOn L R rights lefts rights' lefts' l0 → Fits L R rights' lefts' Linked O → Fits L R rights lefts Linked G
fits_closed L R rights lefts rights' lefts' Linked G O l0 lr j m0 ends f =
    let from = j.from in
    let to = j.to in
    let lastR = ends.last_right in
    let lastL = ends.last_left in
    let subR : (i p : ℕ) (c : Connector) → L ≤ i → slice_get (rights' i) p ≡ Some c → slice_get (rights i) p ≡ Some c = sub_right L R rights lefts rights' lefts' l0 ends in
    let subL : (i p : ℕ) (c : Connector) → i ≤ R → slice_get (lefts' i) p ≡ Some c → slice_get (lefts i) p ≡ Some c = sub_left L R rights lefts rights' lefts' l0 ends in
    let two : (k l : Link) → G k → G l → Pair O l0 k l = pair L R G O l0 j in
    let matched : (l : Link) → G l → Joins rights lefts l = λ l g. elim (j.others l g) [
      | inl o ↦ (let m = f.matched l o in let w = f.within l o in (m.0, m.1, subR l.left l.lplace m.0 w.0 m.2, subL l.right l.rplace m.1 w.2 m.3, m.4))
      | inr e ↦ subst (λ z. Joins rights lefts z) (sym e) m0
    ] in
    let placeR : (l : Link) → G l → l.left ≡ L → l.lplace < suc l0.lplace = λ l g e. (let m = matched l g in
    let w = slice_get_within (rights l.left) l.lplace m.0 m.2 in let x = ap (λ z. length (rights z)) e in omega arith) in
    let placeL : (l : Link) → G l → l.right ≡ R → l.rplace < suc l0.rplace = λ l g e. (let m = matched l g in
    let w = slice_get_within (lefts l.right) l.rplace m.1 m.3 in let x = ap (λ z. length (lefts z)) e in omega arith) in
    record {
      within = λ l g. elim (j.others l g) [ inl o ↦ f.within l o | inr e ↦ (let a = ap (λ z. z.left) e in let b = ap (λ z. z.right) e in (omega arith, omega arith, omega arith)) ];
      matched = matched;
      served_right = λ i p c li ir at. elim (cases_lt L i) [
        | inl h ↦ serves_closed_inside L R G O l0 (λ l. l.left) (λ l. l.lplace) i j p (λ e g. absurd (omega arith)) c
            (f.served_right i p c li ir (subst (λ z. slice_get z p ≡ Some c) (sym (ends.same_right i h)) at))
        | inr h ↦ (let e : L ≡ i = omega arith in
            let at' : slice_get (rights L) p ≡ Some c = subst (λ z. slice_get (rights z) p ≡ Some c) (sym e) at in
            let w = slice_get_within (rights L) p c at' in
            subst (λ z. Serves G (λ l. l.left) (λ l. l.lplace) z p c) e
            (elim (lt_or_eq p l0.lplace (omega arith)) [
              | inl x ↦ serves_closed_inside L R G O l0 (λ l. l.left) (λ l. l.lplace) L j p (λ e g. absurd (omega arith)) c
                  (f.served_right L p c (omega arith) lr (goes_below (rights L) l0.lplace (rights' L) (goes_way (rights L) l0.lplace (rights' L) ends.on_right) p c x at'))
              | inr x ↦ subst (λ z. Serves G (λ l. l.left) (λ l. l.lplace) L z c) (sym x)
                  (serves_closed_last L R G O l0 (λ l. l.left) (λ l. l.lplace) L (rights L) (rights' L) j j.from ends.on_right
                  (λ k ok ek. let m = f.matched k ok in (m.0, subst (λ z. slice_get (rights' z) k.lplace ≡ Some m.0) ek m.2)) c
                  (subst (λ z. slice_get (rights L) z ≡ Some c) x at'))
            ]))
      ];
      served_left = λ i p c li ir at. elim (cases_lt i R) [
        | inl h ↦ serves_closed_inside L R G O l0 (λ l. l.right) (λ l. l.rplace) i j p (λ e g. absurd (omega arith)) c
            (f.served_left i p c li ir (subst (λ z. slice_get z p ≡ Some c) (sym (ends.same_left i h)) at))
        | inr h ↦ (let e : R ≡ i = omega arith in
            let at' : slice_get (lefts R) p ≡ Some c = subst (λ z. slice_get (lefts z) p ≡ Some c) (sym e) at in
            let w = slice_get_within (lefts R) p c at' in
            subst (λ z. Serves G (λ l. l.right) (λ l. l.rplace) z p c) e
            (elim (lt_or_eq p l0.rplace (omega arith)) [
              | inl x ↦ serves_closed_inside L R G O l0 (λ l. l.right) (λ l. l.rplace) R j p (λ e g. absurd (omega arith)) c
                  (f.served_left R p c lr (omega arith) (goes_below (lefts R) l0.rplace (lefts' R) (goes_way (lefts R) l0.rplace (lefts' R) ends.on_left) p c x at'))
              | inr x ↦ subst (λ z. Serves G (λ l. l.right) (λ l. l.rplace) R z c) (sym x)
                  (serves_closed_last L R G O l0 (λ l. l.right) (λ l. l.rplace) R (lefts R) (lefts' R) j j.to ends.on_left
                  (λ k ok ek. let m = f.matched k ok in (m.1, subst (λ z. slice_get (lefts' z) k.rplace ≡ Some m.1) ek m.3)) c
                  (subst (λ z. slice_get (lefts R) z ≡ Some c) x at'))
            ]))
      ];
      planar = λ k l gk gl a b c. elim (two k l gk gl) [
        | neither x y ↦ f.planar k l x y a b c
        | first x y ↦ (let w = f.within l y in let e = ap (λ z. z.right) x in omega arith)
        | second x y ↦ (let w = f.within k x in let e = ap (λ z. z.left) y in omega arith)
        | both x y ↦ (let e = ap (λ z. z.left) x in let g = ap (λ z. z.left) y in omega arith)
      ];
      ordered_right = λ k l gk gl e p. elim (two k l gk gl) [
        | neither x y ↦ f.ordered_right k l x y e p
        | first x y ↦ (let h = ap (λ z. z.left) x in let q = ap (λ z. z.lplace) x in let r = placeR l gl (omega arith) in absurd (omega arith))
        | second x y ↦ (let w = f.within k x in let h = ap (λ z. z.left) y in let i = ap (λ z. z.right) y in
            elim (cases_lt k.right R) [ inl z ↦ omega arith | inr z ↦ absurd (j.apart k x (omega arith) (omega arith)) ])
        | both x y ↦ (let g = ap (λ z. z.lplace) x in let h = ap (λ z. z.lplace) y in absurd (omega arith))
      ];
      ordered_left = λ k l gk gl e p. elim (two k l gk gl) [
        | neither x y ↦ f.ordered_left k l x y e p
        | first x y ↦ (let h = ap (λ z. z.right) x in let q = ap (λ z. z.rplace) x in let r = placeL l gl (omega arith) in absurd (omega arith))
        | second x y ↦ (let w = f.within k x in let h = ap (λ z. z.right) y in let i = ap (λ z. z.left) y in
            elim (cases_lt L k.left) [ inl z ↦ omega arith | inr z ↦ absurd (j.apart k x (omega arith) (omega arith)) ])
        | both x y ↦ (let g = ap (λ z. z.rplace) x in let h = ap (λ z. z.rplace) y in absurd (omega arith))
      ];
      exclusive = λ k l gk gl e h. elim (two k l gk gl) [
        | neither x y ↦ f.exclusive k l x y e h
        | first x y ↦ (let a = ap (λ z. z.left) x in let b = ap (λ z. z.right) x in absurd (j.apart l y (omega arith) (omega arith)))
        | second x y ↦ (let a = ap (λ z. z.left) y in let b = ap (λ z. z.right) y in absurd (j.apart k x (omega arith) (omega arith)))
        | both x y ↦ x ∙ sym y
      ];
      connected = λ i li ir is. walk_map (EdgeWith L R O) (EdgeWith L R G) (λ x. x) (edge_closed L R G O l0 j) L i (f.connected i li ir is);
    }
