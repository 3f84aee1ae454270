-- What is not taken yet is at least the value of some row.
use Rattle.std.proofs.Common.{◌≡◌, ℕ, ◌<◌, ◌≤◌, List, [], ◌∷◌, ◌++◌, length, Option, Some, None, slice_get, ◌⊎◌, inl, inr, refl, sym, ap, ◌∙◌, subst, arith, Less}
use Rattle.std.proofs.lemmas.Bool.{cases_lt}
use Rattle.std.proofs.lemmas.Option.{slice_get_within}
use Rattle.std.specs.declared.cmp.Ordering.{Ordering}
use Rattle.lg_rank.specs.Fronts.{IsIn, AtMost, IsFront}
use Rattle.lg_rank.specs.Merges.{Setting, Makes, Laws, Row, HasRow, Ahead, Open, Merged, PartsAre, IsBelow, IsLeast}
use Rattle.lg_rank.proofs.Elements.{most_trans, push_old, push_here, push_from}

-- an element at a place is at most those at later places, and those that are not there
pub at_most_later : {V : Type 0} {cmp : V → V → Ordering} {Has : V → Type 0} (made : List V) → IsFront cmp Has made → (h i : ℕ) (a x : V) → h ≤ i → slice_get made h ≡ Some a → slice_get made i ≡ Some x → AtMost cmp a x
at_most_later made front h i a x le p q =
    elim (cases_lt h i) [
      | inl less ↦ inl (front.rise h i a x less p q)
      | inr same ↦ inr (let e : h ≡ i = omega arith in cc)
    ]

pub grows : (s : Setting) (n : ℕ) → Laws s n → (p : ℕ) (x z y w : s.V) → p < n → s.HasL p x → s.HasL p z → s.HasR p y → s.HasR p w → AtMost s.cmp x z → AtMost s.cmp y w → AtMost s.cmp (s.combine p x y) (s.combine p z w)
grows s n laws p x z y w p_in hx hz hy hw a b =
    most_trans laws.total (s.combine p x y) (s.combine p z y) (s.combine p z w)
    (elim a [ inl h ↦ inl (laws.grows_left p x z y p_in hx hz hy h) | inr e ↦ inr (ap (λ (t : s.V). s.combine p t y) e) ])
    (elim b [ inl h ↦ inl (laws.grows_right p z y w p_in hz hy hw h) | inr e ↦ inr (ap (λ (t : s.V). s.combine p z t) e) ])

taken_at : (s : Setting) (lefts made : List s.V) (p k : ℕ) (y x : s.V) → slice_get lefts k ≡ Some x → (z : s.V) × (slice_get lefts k ≡ Some z) × IsIn made (s.combine p z y) → IsIn made (s.combine p x y)
taken_at s lefts made p k y x at t = let a = t.1 in let e : t.0 ≡ x = cc in subst (λ (z : s.V). IsIn made (s.combine p z y)) e t.2

abbrev Held : (s : Setting) → List s.V → Option s.V → s.V → Type 0
Held s made o v = IsIn made v ⊎ ((w : s.V) × (o ≡ Some w) × AtMost s.cmp w v)

in_row : (s : Setting) (n : ℕ) → Laws s n → (lefts made : List s.V) (p i : ℕ) (y : s.V) (o : Option s.V) → p < n → s.HasR p y → IsFront s.cmp (s.HasL p) lefts
    → ((k : ℕ) → k < i → (x : s.V) × (slice_get lefts k ≡ Some x) × IsIn made (s.combine p x y)) → Ahead s lefts made p i y o → (x : s.V) → s.HasL p x → Held s made o (s.combine p x y)
in_row s n laws lefts made p i y None p_in hy front taken ahead x hx = let k = ahead x hx in inl (taken_at s lefts made p k.0 y x k.2 (taken k.0 k.1))
in_row s n laws lefts made p i y (Some w) p_in hy front taken ahead x hx =
    let hz = front.sound i ahead.0 ahead.1 in
    let along : AtMost s.cmp ahead.0 x → Held s made (Some w) (s.combine p x y) = λ a. inr (w, refl, subst (λ (t : s.V). AtMost s.cmp t (s.combine p x y)) (sym ahead.2) (grows s n laws p ahead.0 x y y p_in hz hx hy hy a (inr refl))) in
    elim (front.below x hx) [
      | inl k ↦ elim (cases_lt k.0 i) [
        | inl less ↦ inl (taken_at s lefts made p k.0 y x k.1 (taken k.0 less))
        | inr more ↦ along (at_most_later lefts front i k.0 ahead.0 x more ahead.1 k.1)
      ]
      | inr before ↦ along (inl (before i ahead.0 ahead.1))
    ]

-- the row of a value of the right part that is there
at_row : (s : Setting) {R : Type 0} (view : R → Row s.V) (n : ℕ) → Laws s n → (lefts rights : ℕ → List s.V) (made : List s.V) (rows : List R) → Merged s view n lefts rights made rows → PartsAre s n lefts rights
    → (p j : ℕ) (x y : s.V) → p < n → s.HasL p x → slice_get (rights p) j ≡ Some y → HasRow view rows p j → IsIn made (s.combine p x y) ⊎ IsBelow s view rows (s.combine p x y)
at_row s {R} view n laws lefts rights made rows merged parts p j x y p_in hx y_at has =
    let is = merged.each has.place has.row has.here in
    let r : Row s.V = view has.row in
    let hx' : s.HasL r.alt x = subst (λ (q : ℕ). s.HasL q x) (sym has.alt) hx in
    let y_at' : slice_get (rights r.alt) r.at ≡ Some y = (λ i. slice_get (rights (has.alt i)) (has.at i)) ∙ y_at in
    let same : is.y ≡ y = (let e = is.y_at in cc) in
    let hy : s.HasR r.alt is.y = (parts.right r.alt is.alt_in).sound r.at is.y is.y_at in
    let held = in_row s n laws (lefts r.alt) made r.alt r.next is.y r.value is.alt_in hy (parts.left r.alt is.alt_in) is.taken is.ahead x hx' in
    let to : s.combine r.alt x is.y ≡ s.combine p x y = (λ i. s.combine (has.alt i) x (same i)) in
    elim held [
      | inl k ↦ inl (subst (λ (t : s.V). IsIn made t) to k)
      | inr w ↦ inr (record { place = has.place; row = has.row; here = has.here; value = w.0; live = w.1; least = subst (λ (t : s.V). AtMost s.cmp w.0 t) to w.2 })
    ]

-- the first element is at most each
least_first : {V : Type 0} {cmp : V → V → Ordering} {Has : V → Type 0} (made : List V) → IsFront cmp Has made → (a x : V) → slice_get made 0 ≡ Some a → Has x → AtMost cmp a x
least_first made front a x p h =
    elim (front.below x h) [
      | inl k ↦ at_most_later made front 0 k.0 a x (omega arith) p k.1
      | inr before ↦ inl (before 0 a p)
    ]

from_open : (s : Setting) {R : Type 0} (view : R → Row s.V) (n : ℕ) → Laws s n → (lefts rights : ℕ → List s.V) (made : List s.V) (rows : List R) → Merged s view n lefts rights made rows → PartsAre s n lefts rights
    → (p : ℕ) (x y : s.V) → p < n → s.HasL p x → s.HasR p y → Open view rows p → IsIn made (s.combine p x y) ⊎ IsBelow s view rows (s.combine p x y)
from_open s {R} view n laws lefts rights made rows merged parts p x y p_in hx hy open_row =
    let is = merged.each open_row.place open_row.row open_row.here in
    let r : Row s.V = view open_row.row in
    let ahead : Ahead s (lefts r.alt) made r.alt r.next is.y (Some open_row.value) = subst (λ (o : Option s.V). Ahead s (lefts r.alt) made r.alt r.next is.y o) open_row.live is.ahead in
    let y_at : slice_get (rights p) r.at ≡ Some is.y = (λ i. slice_get (rights (sym open_row.alt i)) r.at) ∙ is.y_at in
    let x_at : slice_get (lefts p) 0 ≡ Some ahead.0 = (λ i. slice_get (lefts (sym open_row.alt i)) (sym open_row.first i)) ∙ ahead.1 in
    let front_l = parts.left p p_in in
    let front_r = parts.right p p_in in
    let hx0 = front_l.sound 0 ahead.0 x_at in
    let hy0 = front_r.sound r.at is.y y_at in
    let value_is : open_row.value ≡ s.combine p ahead.0 is.y = ahead.2 ∙ (λ i. s.combine (open_row.alt i) ahead.0 is.y) in
    let along : AtMost s.cmp is.y y → IsIn made (s.combine p x y) ⊎ IsBelow s view rows (s.combine p x y) = λ a. inr (record {
      place = open_row.place;
      row = open_row.row;
      here = open_row.here;
      value = open_row.value;
      live = open_row.live;
      least = subst (λ (t : s.V). AtMost s.cmp t (s.combine p x y)) (sym value_is) (grows s n laws p ahead.0 x is.y y p_in hx0 hx hy0 hy (least_first (lefts p) front_l ahead.0 x x_at hx) a);
    }) in
    elim (front_r.below y hy) [
      | inl j ↦ elim (cases_lt j.0 r.at) [
        | inl less ↦ at_row s view n laws lefts rights made rows merged parts p j.0 x y p_in hx j.1 (open_row.filled j.0 less)
        | inr more ↦ along (at_most_later (rights p) front_r r.at j.0 is.y y more y_at j.1)
      ]
      | inr before ↦ along (inl (before r.at is.y y_at))
    ]

-- each value is taken, or some row holds one that is at most it
pub covered : (s : Setting) {R : Type 0} (view : R → Row s.V) (n : ℕ) → Laws s n → (lefts rights : ℕ → List s.V) (made : List s.V) (rows : List R) → Merged s view n lefts rights made rows → PartsAre s n lefts rights
    → (v : s.V) → Makes s n v → IsIn made v ⊎ IsBelow s view rows v
covered s {R} view n laws lefts rights made rows merged parts v m =
    let here : IsIn made (s.combine m.alt m.x m.y) ⊎ IsBelow s view rows (s.combine m.alt m.x m.y) =
    elim (merged.opened m.alt m.alt_in) [
      | inl o ↦ from_open s view n laws lefts rights made rows merged parts m.alt m.x m.y m.alt_in m.left m.right o
      | inr c ↦ elim c [
        | inl closed ↦ (let j = closed m.y m.right in at_row s view n laws lefts rights made rows merged parts m.alt j.0 m.x m.y m.alt_in m.left j.1 j.2)
        | inr none ↦ absurd (none m.x m.left)
      ]
    ] in
    subst (λ (t : s.V). IsIn made t ⊎ IsBelow s view rows t) (sym m.is) here

-- where no row holds a value, all is taken
pub finished : (s : Setting) {R : Type 0} (view : R → Row s.V) (n : ℕ) → Laws s n → (lefts rights : ℕ → List s.V) (made : List s.V) (rows : List R) → Merged s view n lefts rights made rows → PartsAre s n lefts rights
    → ((k : ℕ) (t : R) → slice_get rows k ≡ Some t → (view t).value ≡ None) → (v : s.V) → Makes s n v → IsIn made v
finished s {R} view n laws lefts rights made rows merged parts none v m =
    elim (covered s view n laws lefts rights made rows merged parts v m) [
      | inl i ↦ i
      | inr b ↦ absurd (let e = none b.place b.row b.here in let f = b.live in cc)
    ]

-- the value of a row is one of those that are made, and is not taken
pub value_makes : (s : Setting) {R : Type 0} (view : R → Row s.V) (n : ℕ) (lefts rights : ℕ → List s.V) (made : List s.V) (rows : List R) → Merged s view n lefts rights made rows → PartsAre s n lefts rights
    → (m : ℕ) (r : R) (w : s.V) → slice_get rows m ≡ Some r → (view r).value ≡ Some w → Makes s n w × (IsIn made w → ⊥)
value_makes s {R} view n lefts rights made rows merged parts m r w here live =
    let is = merged.each m r here in
    let v : Row s.V = view r in
    let ahead : Ahead s (lefts v.alt) made v.alt v.next is.y (Some w) = subst (λ (o : Option s.V). Ahead s (lefts v.alt) made v.alt v.next is.y o) live is.ahead in
    (record { alt = v.alt; alt_in = is.alt_in; x = ahead.0; y = is.y; left = (parts.left v.alt is.alt_in).sound v.next ahead.0 ahead.1; right = (parts.right v.alt is.alt_in).sound v.at is.y is.y_at; is = ahead.2 }, ahead.3)

-- the least value of the rows is the next
pub front_more : (s : Setting) {R : Type 0} (view : R → Row s.V) (n : ℕ) → Laws s n → (lefts rights : ℕ → List s.V) (made : List s.V) (rows : List R) → Merged s view n lefts rights made rows → PartsAre s n lefts rights
    → (m : ℕ) (r : R) (w : s.V) → IsLeast s view rows m r w → IsFront s.cmp (Makes s n) (made ++ w ∷ [])
front_more s {R} view n laws lefts rights made rows merged parts m r w least =
    let f = merged.front in
    let fresh = value_makes s view n lefts rights made rows merged parts m r w least.here least.live in
    let before : (i : ℕ) (a : s.V) → slice_get made i ≡ Some a → s.cmp a w ≡ Less = elim (f.below w fresh.0) [ inl k ↦ absurd (fresh.1 k) | inr b ↦ b ] in
    record {
      rise = λ i j a b less p q. elim (push_from made w j b q) [
        | inl q' ↦ elim (push_from made w i a p) [
          | inl p' ↦ f.rise i j a b less p' q'
          | inr p' ↦ absurd (let z = slice_get_within made j b q' in omega arith)
        ]
        | inr q' ↦ elim (push_from made w i a p) [
          | inl p' ↦ subst (λ (t : s.V). s.cmp a t ≡ Less) (sym q'.1) (before i a p')
          | inr p' ↦ absurd (omega arith)
        ]
      ];
      sound = λ i a p. elim (push_from made w i a p) [ inl p' ↦ f.sound i a p' | inr p' ↦ subst (λ (t : s.V). Makes s n t) (sym p'.1) fresh.0 ];
      below = λ v h. elim (covered s view n laws lefts rights made rows merged parts v h) [
        | inl k ↦ inl (k.0, push_old made w k.0 v k.1)
        | inr b ↦ (let le : AtMost s.cmp w v = most_trans laws.total w b.value v (least.least b.place b.row b.value b.here b.live) b.least in elim le [
          | inl less ↦ inr (λ i a p. elim (push_from made w i a p) [ inl p' ↦ laws.total.trans a w v (before i a p') less | inr p' ↦ subst (λ (t : s.V). s.cmp t v ≡ Less) (sym p'.1) less ])
          | inr e ↦ inl (length made, push_here made w ∙ ap Some e)
        ])
      ];
    }
