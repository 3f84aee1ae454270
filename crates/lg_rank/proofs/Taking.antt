-- The rows after the least value was taken.
use Rattle.std.proofs.Common.{◌≡◌, ◌≢◌, ℕ, suc, ◌<◌, List, [], ◌∷◌, ◌++◌, length, Option, Some, None, slice_get, ◌⊎◌, inl, inr, refl, sym, ap, ◌∙◌, subst, arith, Less}
use Rattle.std.proofs.lemmas.Bool.{cases_lt}
use Rattle.std.specs.declared.cmp.Ordering.{Ordering}
use Rattle.lg_rank.specs.Fronts.{IsIn, IsFront}
use Rattle.lg_rank.specs.Merges.{Setting, Laws, Row, Ahead, IsRow, Merged, PartsAre, IsLeast, Advanced, Following, Turn}
use Rattle.lg_rank.proofs.Elements.{less_not, push_old, push_here, push_from}
use Rattle.lg_rank.proofs.Covering.{value_makes}

pub same_or : (a b : ℕ) → (a ≡ b) ⊎ (a ≢ b)
same_or a b = elim (cases_lt a b) [ inl h ↦ inr (λ e. omega arith) | inr h ↦ elim (cases_lt b a) [ inl g ↦ inr (λ e. omega arith) | inr g ↦ inl (omega arith) ] ]

-- an element stands at one place alone
pub one_place : {V : Type 0} {cmp : V → V → Ordering} {Has : V → Type 0} → Rattle.std.specs.Cmp.IsTotalOrder cmp → (made : List V) → IsFront cmp Has made → (i j : ℕ) (v : V) → slice_get made i ≡ Some v → slice_get made j ≡ Some v → i ≡ j
one_place total made front i j v p q =
    elim (cases_lt i j) [
      | inl h ↦ absurd (less_not total v v (front.rise i j v v h p q) refl)
      | inr h ↦ elim (cases_lt j i) [ inl g ↦ absurd (less_not total v v (front.rise j i v v g q p) refl) | inr g ↦ omega arith ]
    ]

-- all that stands still when the least value w of the row r at m is taken
pub record Taken (s : Setting) {R : Type 0} (view : R → Row s.V) (n : ℕ) (lefts rights : ℕ → List s.V) (made : List s.V) (rows : List R) (m : ℕ) (r : R) (w : s.V) (after : R) (begun : Option R) (rows' : List R) : Type 0 where
  pub laws : Laws s n
  pub merged : Merged s view n lefts rights made rows
  pub parts : PartsAre s n lefts rights
  pub turn : Turn s view lefts rights rows m r w after begun
  pub moved : Advanced rows m after begun rows'

fresh_above : (s : Setting) (n : ℕ) → Laws s n → (made : List s.V) (w v : s.V) → ((i : ℕ) (a : s.V) → slice_get made i ≡ Some a → s.cmp a w ≡ Less) → s.cmp w v ≡ Less → IsIn (made ++ w ∷ []) v → ⊥
fresh_above s n laws made w v before less (i, e) =
    elim (push_from made w i v e) [
      | inl p ↦ less_not laws.total v v (laws.total.trans v w v (before i v p) less) refl
      | inr p ↦ less_not laws.total w v less (sym p.1)
    ]

fresh_other : (s : Setting) (made : List s.V) (w v : s.V) → (IsIn made v → ⊥) → (v ≡ w → ⊥) → IsIn (made ++ w ∷ []) v → ⊥
fresh_other s made w v a b (i, e) = elim (push_from made w i v e) [ inl p ↦ a (i, p) | inr p ↦ b p.1 ]

all_before : (s : Setting) {R : Type 0} (view : R → Row s.V) (n : ℕ) (lefts rights : ℕ → List s.V) (made : List s.V) (rows : List R) → Merged s view n lefts rights made rows → PartsAre s n lefts rights
    → (m : ℕ) (r : R) (w : s.V) → IsLeast s view rows m r w → (i : ℕ) (a : s.V) → slice_get made i ≡ Some a → s.cmp a w ≡ Less
all_before s view n lefts rights made rows merged parts m r w least =
    let fresh = value_makes s view n lefts rights made rows merged parts m r w least.here least.live in
    elim (merged.front.below w fresh.0) [ inl k ↦ absurd (fresh.1 k) | inr b ↦ b ]

ahead_of : (s : Setting) (n : ℕ) → Laws s n → (lefts made : List s.V) (p i : ℕ) (x y w : s.V) (o : Option s.V) → p < n → s.HasR p y → IsFront s.cmp (s.HasL p) lefts → slice_get lefts i ≡ Some x → w ≡ s.combine p x y
    → ((k : ℕ) (a : s.V) → slice_get made k ≡ Some a → s.cmp a w ≡ Less) → Following s lefts p (suc i) y o → Ahead s lefts (made ++ w ∷ []) p (suc i) y o
ahead_of s n laws lefts made p i x y w None p_in hy front x_at is before f = f
ahead_of s n laws lefts made p i x y w (Some v) p_in hy front x_at is before f =
    let less : s.cmp (s.combine p x y) (s.combine p f.0 y) ≡ Less = laws.grows_left p x f.0 y p_in (front.sound i x x_at) (front.sound (suc i) f.0 f.1) hy (front.rise i (suc i) x f.0 (omega arith) x_at f.1) in
    let less' : s.cmp w v ≡ Less = (λ k. s.cmp (is k) (f.2 k)) ∙ less in
    (f.0, f.1, f.2, fresh_above s n laws made w v before less')

-- a row that was not touched
kept_ahead : (s : Setting) (lefts made : List s.V) (p i : ℕ) (y w : s.V) (o : Option s.V) → ((x v : s.V) → o ≡ Some v → slice_get lefts i ≡ Some x → v ≡ s.combine p x y → v ≡ w → ⊥) → Ahead s lefts made p i y o → Ahead s lefts (made ++ w ∷ []) p i y o
kept_ahead s lefts made p i y w None apart a = a
kept_ahead s lefts made p i y w (Some v) apart a = (a.0, a.1, a.2, fresh_other s made w v a.3 (apart a.0 v refl a.1 a.2))

taken_row : (s : Setting) {R : Type 0} (view : R → Row s.V) (n : ℕ) (lefts rights : ℕ → List s.V) (made : List s.V) (rows : List R) (m : ℕ) (r : R) (w : s.V) (after : R) (begun : Option R) (rows' : List R)
    → Taken s view n lefts rights made rows m r w after begun rows' → IsRow s n lefts rights (made ++ w ∷ []) (view after)
taken_row s {R} view n lefts rights made rows m r w after begun rows' t =
    let v : Row s.V = view r in
    let u : Row s.V = view after in
    let is = t.merged.each m r t.turn.least.here in
    let ahead : Ahead s (lefts v.alt) made v.alt v.next is.y (Some w) = subst (λ (o : Option s.V). Ahead s (lefts v.alt) made v.alt v.next is.y o) t.turn.least.live is.ahead in
    let hy = (t.parts.right v.alt is.alt_in).sound v.at is.y is.y_at in
    let following = t.turn.value is.y is.y_at in
    let next : Ahead s (lefts v.alt) (made ++ w ∷ []) v.alt (suc v.next) is.y u.value =
    ahead_of s n t.laws (lefts v.alt) made v.alt v.next ahead.0 is.y w u.value is.alt_in hy (t.parts.left v.alt is.alt_in) ahead.1 ahead.2 (all_before s view n lefts rights made rows t.merged t.parts m r w t.turn.least) following in
    record {
      alt_in = subst (λ (k : ℕ). k < n) (sym t.turn.alt) is.alt_in;
      y = is.y;
      y_at = (λ k. slice_get (rights (t.turn.alt k)) (t.turn.at k)) ∙ is.y_at;
      taken = λ i less. (
          let e = t.turn.next in
          subst (λ (p : ℕ). (x : s.V) × (slice_get (lefts p) i ≡ Some x) × IsIn (made ++ w ∷ []) (s.combine p x is.y)) (sym t.turn.alt) (elim (cases_lt i v.next) [
            | inl old ↦ (let k = is.taken i old in (k.0, k.1, (k.2.0, push_old made w k.2.0 (s.combine v.alt k.0 is.y) k.2.1)))
            | inr new ↦ (
                let same : i ≡ v.next = omega arith in
                (ahead.0, (λ k. slice_get (lefts v.alt) (same k)) ∙ ahead.1, (length made, push_here made w ∙ ap Some ahead.2)))
          ])
          );
      ahead = subst (λ (p : ℕ). Ahead s (lefts p) (made ++ w ∷ []) p u.next is.y u.value) (sym t.turn.alt) (subst (λ (i : ℕ). Ahead s (lefts v.alt) (made ++ w ∷ []) v.alt i is.y u.value) (sym t.turn.next) next);
    }

-- another row holds another value
other_value : (s : Setting) {R : Type 0} (view : R → Row s.V) (n : ℕ) (lefts rights : ℕ → List s.V) (made : List s.V) (rows : List R) (m : ℕ) (r : R) (w : s.V) (after : R) (begun : Option R) (rows' : List R)
    → Taken s view n lefts rights made rows m r w after begun rows' → (k : ℕ) (z : R) → slice_get rows k ≡ Some z → k ≢ m → (y x v : s.V) → slice_get (rights (view z).alt) (view z).at ≡ Some y → slice_get (lefts (view z).alt) (view z).next ≡ Some x → v ≡ s.combine (view z).alt x y → v ≡ w → ⊥
other_value s {R} view n lefts rights made rows m r w after begun rows' t k z z_at other y x v y_at x_at is e =
    let a : Row s.V = view r in
    let b : Row s.V = view z in
    let is_r = t.merged.each m r t.turn.least.here in
    let is_z = t.merged.each k z z_at in
    let ahead : Ahead s (lefts a.alt) made a.alt a.next is_r.y (Some w) = subst (λ (o : Option s.V). Ahead s (lefts a.alt) made a.alt a.next is_r.y o) t.turn.least.live is_r.ahead in
    let hx = (t.parts.left b.alt is_z.alt_in).sound b.next x x_at in
    let hy = (t.parts.right b.alt is_z.alt_in).sound b.at y y_at in
    let hx' = (t.parts.left a.alt is_r.alt_in).sound a.next ahead.0 ahead.1 in
    let hy' = (t.parts.right a.alt is_r.alt_in).sound a.at is_r.y is_r.y_at in
    let same = t.laws.one b.alt a.alt x y ahead.0 is_r.y is_z.alt_in is_r.alt_in hx hy hx' hy' (sym is ∙ e ∙ ahead.2) in
    let y_at' : slice_get (rights a.alt) b.at ≡ Some is_r.y = (λ j. slice_get (rights (sym same.0 j)) b.at) ∙ y_at ∙ ap Some same.2 in
    let at_same : b.at ≡ a.at = one_place t.laws.total (rights a.alt) (t.parts.right a.alt is_r.alt_in) b.at a.at is_r.y y_at' is_r.y_at in
    other (t.merged.apart k m z r z_at t.turn.least.here same.0 at_same)

kept_row : (s : Setting) {R : Type 0} (view : R → Row s.V) (n : ℕ) (lefts rights : ℕ → List s.V) (made : List s.V) (rows : List R) (m : ℕ) (r : R) (w : s.V) (after : R) (begun : Option R) (rows' : List R)
    → Taken s view n lefts rights made rows m r w after begun rows' → (k : ℕ) (z : R) → slice_get rows k ≡ Some z → k ≢ m → IsRow s n lefts rights (made ++ w ∷ []) (view z)
kept_row s {R} view n lefts rights made rows m r w after begun rows' t k z z_at other =
    let b : Row s.V = view z in
    let is = t.merged.each k z z_at in
    record {
      alt_in = is.alt_in;
      y = is.y;
      y_at = is.y_at;
      taken = λ i less. (let p = is.taken i less in (p.0, p.1, (p.2.0, push_old made w p.2.0 (s.combine b.alt p.0 is.y) p.2.1)));
      ahead = kept_ahead s (lefts b.alt) made b.alt b.next is.y w b.value (λ x v live x_at e f. other_value s view n lefts rights made rows m r w after begun rows' t k z z_at other is.y x v is.y_at x_at e f) is.ahead;
    }

new_row : (s : Setting) {R : Type 0} (view : R → Row s.V) (n : ℕ) (lefts rights : ℕ → List s.V) (made : List s.V) (rows : List R) (m : ℕ) (r : R) (w : s.V) (after : R) (begun : Option R) (rows' : List R)
    → Taken s view n lefts rights made rows m r w after begun rows' → (b : R) → begun ≡ Some b → IsRow s n lefts rights (made ++ w ∷ []) (view b)
new_row s {R} view n lefts rights made rows m r w after begun rows' t b e =
    let v : Row s.V = view r in
    let u : Row s.V = view b in
    let is = t.merged.each m r t.turn.least.here in
    let ahead : Ahead s (lefts v.alt) made v.alt v.next is.y (Some w) = subst (λ (o : Option s.V). Ahead s (lefts v.alt) made v.alt v.next is.y o) t.turn.least.live is.ahead in
    let both = t.turn.begins b e in
    let g = both.1 in
    let front_l = t.parts.left v.alt is.alt_in in
    let front_r = t.parts.right v.alt is.alt_in in
    let x_is : ahead.0 ≡ g.x = (let p : slice_get (lefts v.alt) 0 ≡ Some ahead.0 = (λ k. slice_get (lefts v.alt) (sym both.0 k)) ∙ ahead.1 in let q = g.x_at in cc) in
    let w_is : w ≡ s.combine v.alt g.x is.y = ahead.2 ∙ ap (λ (z : s.V). s.combine v.alt z is.y) x_is in
    let less : s.cmp (s.combine v.alt g.x is.y) (s.combine v.alt g.x g.y) ≡ Less =
    t.laws.grows_right v.alt g.x is.y g.y is.alt_in (front_l.sound 0 g.x g.x_at) (front_r.sound v.at is.y is.y_at) (front_r.sound (suc v.at) g.y g.y_at) (front_r.rise v.at (suc v.at) is.y g.y (omega arith) is.y_at g.y_at) in
    let less' : s.cmp w (s.combine v.alt g.x g.y) ≡ Less = (λ k. s.cmp (w_is k) (s.combine v.alt g.x g.y)) ∙ less in
    let next : Ahead s (lefts v.alt) (made ++ w ∷ []) v.alt 0 g.y (Some (s.combine v.alt g.x g.y)) =
    (g.x, g.x_at, refl, fresh_above s n t.laws made w (s.combine v.alt g.x g.y) (all_before s view n lefts rights made rows t.merged t.parts m r w t.turn.least) less') in
    record {
      alt_in = subst (λ (k : ℕ). k < n) (sym g.alt) is.alt_in;
      y = g.y;
      y_at = (λ k. slice_get (rights (g.alt k)) (g.at k)) ∙ g.y_at;
      taken = λ i lt. absurd (let z = g.next in omega arith);
      ahead = subst (λ (p : ℕ). Ahead s (lefts p) (made ++ w ∷ []) p u.next g.y u.value) (sym g.alt)
          (subst (λ (i : ℕ). Ahead s (lefts v.alt) (made ++ w ∷ []) v.alt i g.y u.value) (sym g.next)
          (subst (λ (o : Option s.V). Ahead s (lefts v.alt) (made ++ w ∷ []) v.alt 0 g.y o) (sym g.value) next));
    }

pub each_after : (s : Setting) {R : Type 0} (view : R → Row s.V) (n : ℕ) (lefts rights : ℕ → List s.V) (made : List s.V) (rows : List R) (m : ℕ) (r : R) (w : s.V) (after : R) (begun : Option R) (rows' : List R)
    → Taken s view n lefts rights made rows m r w after begun rows' → (k : ℕ) (z : R) → slice_get rows' k ≡ Some z → IsRow s n lefts rights (made ++ w ∷ []) (view z)
each_after s {R} view n lefts rights made rows m r w after begun rows' t k z at =
    elim (t.moved.from k z at) [
      | inl h ↦ subst (λ (q : R). IsRow s n lefts rights (made ++ w ∷ []) (view q)) (sym h.1) (taken_row s view n lefts rights made rows m r w after begun rows' t)
      | inr h ↦ elim h [
        | inl g ↦ kept_row s view n lefts rights made rows m r w after begun rows' t k z g.1 g.0
        | inr g ↦ new_row s view n lefts rights made rows m r w after begun rows' t z g.1
      ]
    ]
