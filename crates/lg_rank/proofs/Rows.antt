-- The rows after the least value was taken keep all that is said of rows.
use Rattle.std.proofs.Common.{◌≡◌, ◌≢◌, ℕ, suc, ◌<◌, ◌≤◌, List, [], ◌∷◌, ◌++◌, length, Option, Some, None, slice_get, get_or, inl, inr, refl, sym, ap, ◌∙◌, subst, arith}
use Rattle.std.proofs.lemmas.Bool.{cases_lt}
use Rattle.std.proofs.lemmas.Option.{slice_get_within, slice_get-get_or}
use Rattle.lg_rank.specs.Merges.{Setting, Laws, Row, HasRow, Ahead, Open, Opened, Merged, PartsAre, Advanced, Turn}
use Rattle.lg_rank.proofs.Taking.{same_or, one_place, Taken, each_after}
use Rattle.lg_rank.proofs.Covering.{front_more}

-- where a row came from, by its alternative and place
data Came {V R : Type 0} (view : R → Row V) (rows : List R) (m : ℕ) (r : R) (k : ℕ) (z : R) : Type 0 where
  taken : k ≡ m → (view z).alt ≡ (view r).alt → (view z).at ≡ (view r).at → (view z).next ≡ suc (view r).next → Came view rows m r k z
  kept : k ≢ m → slice_get rows k ≡ Some z → Came view rows m r k z
  new : k ≡ length rows → (view z).alt ≡ (view r).alt → (view z).at ≡ suc (view r).at → (view r).next ≡ 0 → Came view rows m r k z

came : (s : Setting) {R : Type 0} (view : R → Row s.V) (lefts rights : ℕ → List s.V) (rows : List R) (m : ℕ) (r : R) (w : s.V) (after : R) (begun : Option R) (rows' : List R)
    → Turn s view lefts rights rows m r w after begun → Advanced rows m after begun rows' → (k : ℕ) (z : R) → slice_get rows' k ≡ Some z → Came view rows m r k z
came s {R} view lefts rights rows m r w after begun rows' turn moved k z at =
    elim (moved.from k z at) [
      | inl h ↦ taken h.0 (ap (λ (q : R). (view q).alt) h.1 ∙ turn.alt) (ap (λ (q : R). (view q).at) h.1 ∙ turn.at) (ap (λ (q : R). (view q).next) h.1 ∙ turn.next)
      | inr h ↦ elim h [
        | inl g ↦ kept g.0 g.1
        | inr g ↦ (let b = turn.begins z g.1 in new g.0 b.1.alt b.1.at b.0)
      ]
    ]

-- no row comes after one that is not begun
beyond : (s : Setting) {R : Type 0} (view : R → Row s.V) (n : ℕ) (lefts rights : ℕ → List s.V) (made : List s.V) (rows : List R) → Merged s view n lefts rights made rows → (m : ℕ) (r : R) → slice_get rows m ≡ Some r → (view r).next ≡ 0
    → (k : ℕ) (z : R) → slice_get rows k ≡ Some z → (view z).alt ≡ (view r).alt → (view z).at ≤ (view r).at
beyond s view n lefts rights made rows merged m r here first k z at same = merged.begins m k r z here at (sym same) first

begins_after : (s : Setting) {R : Type 0} (view : R → Row s.V) (n : ℕ) (lefts rights : ℕ → List s.V) (made : List s.V) (rows : List R) → Merged s view n lefts rights made rows → (m : ℕ) (r : R) → slice_get rows m ≡ Some r
    → (k l : ℕ) (z t : R) → Came view rows m r k z → Came view rows m r l t → (view z).alt ≡ (view t).alt → (view z).next ≡ 0 → (view t).at ≤ (view z).at
begins_after s view n lefts rights made rows merged m r here k l z t (taken e a b c) y same first = absurd (omega arith)
begins_after s view n lefts rights made rows merged m r here k l z t (kept e a) (taken f b c d) same first = (let h = merged.begins k m z r a here (same ∙ b) first in omega arith)
begins_after s view n lefts rights made rows merged m r here k l z t (kept e a) (kept f b) same first = merged.begins k l z t a b same first
begins_after s view n lefts rights made rows merged m r here k l z t (kept e a) (new f b c d) same first =
    let h = merged.begins k m z r a here (same ∙ b) first in
    let g = merged.begins m k r z here a (sym (same ∙ b)) d in
    absurd (e (merged.apart k m z r a here (same ∙ b) (omega arith)))
begins_after s view n lefts rights made rows merged m r here k l z t (new e a b c) (taken f g h i) same first = omega arith
begins_after s view n lefts rights made rows merged m r here k l z t (new e a b c) (kept f g) same first =
    let h = merged.begins m l r t here g (sym a ∙ same) c in omega arith
begins_after s view n lefts rights made rows merged m r here k l z t (new e a b c) (new f g h i) same first = omega arith

apart_after : (s : Setting) {R : Type 0} (view : R → Row s.V) (n : ℕ) (lefts rights : ℕ → List s.V) (made : List s.V) (rows : List R) → Merged s view n lefts rights made rows → (m : ℕ) (r : R) → slice_get rows m ≡ Some r
    → (k l : ℕ) (z t : R) → Came view rows m r k z → Came view rows m r l t → (view z).alt ≡ (view t).alt → (view z).at ≡ (view t).at → k ≡ l
apart_after s view n lefts rights made rows merged m r here k l z t (taken e a b c) (taken f g h i) p q = e ∙ sym f
apart_after s view n lefts rights made rows merged m r here k l z t (taken e a b c) (kept f g) p q = absurd (f (sym (merged.apart m l r t here g (sym a ∙ p) (sym b ∙ q))))
apart_after s view n lefts rights made rows merged m r here k l z t (taken e a b c) (new f g h i) p q = absurd (omega arith)
apart_after s view n lefts rights made rows merged m r here k l z t (kept e a) (taken f g h i) p q = absurd (e (merged.apart k m z r a here (p ∙ g) (q ∙ h)))
apart_after s view n lefts rights made rows merged m r here k l z t (kept e a) (kept f g) p q = merged.apart k l z t a g p q
apart_after s view n lefts rights made rows merged m r here k l z t (kept e a) (new f g h i) p q = absurd (let u = merged.begins m k r z here a (sym (p ∙ g)) i in omega arith)
apart_after s view n lefts rights made rows merged m r here k l z t (new e a b c) (taken f g h i) p q = absurd (omega arith)
apart_after s view n lefts rights made rows merged m r here k l z t (new e a b c) (kept f g) p q = absurd (let u = merged.begins m l r t here g (sym a ∙ p) c in omega arith)
apart_after s view n lefts rights made rows merged m r here k l z t (new e a b c) (new f g h i) p q = e ∙ sym f

-- each row is still there
has_after : (s : Setting) {R : Type 0} (view : R → Row s.V) (lefts rights : ℕ → List s.V) (rows : List R) (m : ℕ) (r : R) (w : s.V) (after : R) (begun : Option R) (rows' : List R)
    → Turn s view lefts rights rows m r w after begun → Advanced rows m after begun rows' → (p j : ℕ) → HasRow view rows p j → HasRow view rows' p j
has_after s {R} view lefts rights rows m r w after begun rows' turn moved p j h =
    elim (same_or h.place m) [
      | inl e ↦
          let same : h.row ≡ r = (let a = h.here in let b = turn.least.here in let c : slice_get rows m ≡ Some h.row = (λ i. slice_get rows (sym e i)) ∙ a in cc) in
          record { place = m; row = after; here = moved.here; alt = turn.alt ∙ ap (λ (q : R). (view q).alt) (sym same) ∙ h.alt; at = turn.at ∙ ap (λ (q : R). (view q).at) (sym same) ∙ h.at }
      | inr e ↦ record { place = h.place; row = h.row; here = moved.kept h.place h.row h.here e; alt = h.alt; at = h.at }
    ]

-- before a row that is not begun all rows are there
filled_before : (s : Setting) {R : Type 0} (view : R → Row s.V) (n : ℕ) (lefts rights : ℕ → List s.V) (made : List s.V) (rows : List R) → Laws s n → Merged s view n lefts rights made rows → PartsAre s n lefts rights
    → (m : ℕ) (r : R) (w : s.V) → slice_get rows m ≡ Some r → (view r).value ≡ Some w → (view r).next ≡ 0 → (j : ℕ) → j < (view r).at → HasRow view rows (view r).alt j
filled_before s {R} view n lefts rights made rows laws merged parts m r w here live first j less =
    let v : Row s.V = view r in
    let is = merged.each m r here in
    let front_r = parts.right v.alt is.alt_in in
    elim (merged.opened v.alt is.alt_in) [
      | inl o ↦
          let le : v.at ≤ (view o.row).at = merged.begins o.place m o.row r o.here here o.alt o.first in
          o.filled j (omega arith)
      | inr c ↦ elim c [
        | inl closed ↦
            let within = slice_get_within (rights v.alt) v.at is.y is.y_at in
            let at : slice_get (rights v.alt) j ≡ Some (get_or (rights v.alt) j is.y) = slice_get-get_or (rights v.alt) j is.y (omega arith) in
            let h = closed (get_or (rights v.alt) j is.y) (front_r.sound j (get_or (rights v.alt) j is.y) at) in
            subst (λ (k : ℕ). HasRow view rows v.alt k) (one_place laws.total (rights v.alt) front_r h.0 j (get_or (rights v.alt) j is.y) h.1 at) h.2
        | inr none ↦
            let ahead : Ahead s (lefts v.alt) made v.alt v.next is.y (Some w) = subst (λ (o : Option s.V). Ahead s (lefts v.alt) made v.alt v.next is.y o) live is.ahead in
            absurd (none ahead.0 ((parts.left v.alt is.alt_in).sound v.next ahead.0 ahead.1))
      ]
    ]

-- an alternative whose open row was not taken
opened_kept : (s : Setting) {R : Type 0} (view : R → Row s.V) (n : ℕ) (lefts rights : ℕ → List s.V) (made : List s.V) (rows : List R) (m : ℕ) (r : R) (w : s.V) (after : R) (begun : Option R) (rows' : List R)
    → Taken s view n lefts rights made rows m r w after begun rows' → (p : ℕ) → ((o : Open view rows p) → o.place ≢ m) → Opened s view (rights p) rows p → Opened s view (rights p) rows' p
opened_kept s view n lefts rights made rows m r w after begun rows' t p other (inl o) =
    inl (record { place = o.place; row = o.row; here = t.moved.kept o.place o.row o.here (other o); alt = o.alt; first = o.first; value = o.value; live = o.live; filled = λ j less. has_after s view lefts rights rows m r w after begun rows' t.turn t.moved p j (o.filled j less) })
opened_kept s view n lefts rights made rows m r w after begun rows' t p other (inr (inl c)) =
    inr (inl (λ y hy. let h = c y hy in (h.0, h.1, has_after s view lefts rights rows m r w after begun rows' t.turn t.moved p h.0 h.2)))
opened_kept s view n lefts rights made rows m r w after begun rows' t p other (inr (inr c)) = inr (inr c)

-- the alternative whose open row was taken
opened_taken : (s : Setting) {R : Type 0} (view : R → Row s.V) (n : ℕ) (lefts rights : ℕ → List s.V) (made : List s.V) (rows : List R) (m : ℕ) (r : R) (w : s.V) (after : R) (begun o : Option R) (rows' : List R)
    → Taken s view n lefts rights made rows m r w after begun rows' → (view r).next ≡ 0 → begun ≡ o → Opened s view (rights (view r).alt) rows' (view r).alt
opened_taken s {R} view n lefts rights made rows m r w after begun None rows' t first e =
    let v : Row s.V = view r in
    inr (inl (λ y hy. let h = t.turn.ends e first y hy in (
      h.0,
      h.2,
      elim (cases_lt h.0 v.at) [
        | inl less ↦ has_after s view lefts rights rows m r w after begun rows' t.turn t.moved v.alt h.0 (filled_before s view n lefts rights made rows t.laws t.merged t.parts m r w t.turn.least.here t.turn.least.live first h.0 less)
        | inr more ↦ (let a = h.1 in record { place = m; row = after; here = t.moved.here; alt = t.turn.alt; at = t.turn.at ∙ omega arith })
      ],
    )))
opened_taken s {R} view n lefts rights made rows m r w after begun (Some b) rows' t first e =
    let v : Row s.V = view r in
    let g = (t.turn.begins b e).1 in
    inl (record {
      place = length rows;
      row = b;
      here = t.moved.new b e;
      alt = g.alt;
      first = g.next;
      value = s.combine v.alt g.x g.y;
      live = g.value;
      filled = λ j less. elim (cases_lt j v.at) [
        | inl before ↦ has_after s view lefts rights rows m r w after begun rows' t.turn t.moved v.alt j (filled_before s view n lefts rights made rows t.laws t.merged t.parts m r w t.turn.least.here t.turn.least.live first j before)
        | inr more ↦ (let a = g.at in record { place = m; row = after; here = t.moved.here; alt = t.turn.alt; at = t.turn.at ∙ omega arith })
      ];
    })

opened_after : (s : Setting) {R : Type 0} (view : R → Row s.V) (n : ℕ) (lefts rights : ℕ → List s.V) (made : List s.V) (rows : List R) (m : ℕ) (r : R) (w : s.V) (after : R) (begun : Option R) (rows' : List R)
    → Taken s view n lefts rights made rows m r w after begun rows' → (p : ℕ) → p < n → Opened s view (rights p) rows' p
opened_after s {R} view n lefts rights made rows m r w after begun rows' t p p_in =
    let v : Row s.V = view r in
    elim (same_or p v.alt) [
      | inl e ↦ elim (same_or v.next 0) [
        | inl first ↦ subst (λ (q : ℕ). Opened s view (rights q) rows' q) (sym e) (opened_taken s view n lefts rights made rows m r w after begun begun rows' t first refl)
        | inr later ↦ opened_kept s view n lefts rights made rows m r w after begun rows' t p (λ o same. let z : slice_get rows m ≡ Some o.row = (λ i. slice_get rows (sym same i)) ∙ o.here in let b = t.turn.least.here in let q : o.row ≡ r = cc in later (ap (λ (k : R). (view k).next) (sym q) ∙ o.first)) (t.merged.opened p p_in)
      ]
      | inr other ↦ opened_kept s view n lefts rights made rows m r w after begun rows' t p (λ o same. let z : slice_get rows m ≡ Some o.row = (λ i. slice_get rows (sym same i)) ∙ o.here in let b = t.turn.least.here in let q : o.row ≡ r = cc in other (sym o.alt ∙ ap (λ (k : R). (view k).alt) q)) (t.merged.opened p p_in)
    ]

-- the least value is taken
pub merged_more : (s : Setting) {R : Type 0} (view : R → Row s.V) (n : ℕ) → Laws s n → (lefts rights : ℕ → List s.V) (made : List s.V) (rows : List R) → Merged s view n lefts rights made rows → PartsAre s n lefts rights
    → (m : ℕ) (r : R) (w : s.V) (after : R) (begun : Option R) (rows' : List R) → Turn s view lefts rights rows m r w after begun → Advanced rows m after begun rows' → Merged s view n lefts rights (made ++ w ∷ []) rows'
merged_more s {R} view n laws lefts rights made rows merged parts m r w after begun rows' turn moved =
    let t : Taken s view n lefts rights made rows m r w after begun rows' = record { laws = laws; merged = merged; parts = parts; turn = turn; moved = moved } in
    let from = came s view lefts rights rows m r w after begun rows' turn moved in
    record {
      front = front_more s view n laws lefts rights made rows merged parts m r w turn.least;
      each = each_after s view n lefts rights made rows m r w after begun rows' t;
      apart = λ k l z q p_at q_at. apart_after s view n lefts rights made rows merged m r turn.least.here k l z q (from k z p_at) (from l q q_at);
      opened = opened_after s view n lefts rights made rows m r w after begun rows' t;
      begins = λ k l z q p_at q_at. begins_after s view n lefts rights made rows merged m r turn.least.here k l z q (from k z p_at) (from l q q_at);
    }
