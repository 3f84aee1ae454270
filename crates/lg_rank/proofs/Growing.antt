-- The rows where the parts have more values, and where one more alternative begins.
use Rattle.std.proofs.Common.{◌≡◌, ℕ, suc, ◌<◌, List, [], ◌∷◌, ◌++◌, length, Option, Some, None, slice_get, ◌⊎◌, inl, inr, refl, sym, ap, ◌∙◌, subst, arith}
use Rattle.std.proofs.lemmas.Bool.{cases_lt}
use Rattle.lg_rank.specs.Fronts.{IsFront, Extends}
use Rattle.lg_rank.specs.Merges.{Setting, Makes, Row, HasRow, Ahead, IsRow, Opened, Merged, Begins}
use Rattle.lg_rank.proofs.Elements.{push_old, push_here, push_from}

ahead_grown : (s : Setting) (lefts lefts' made : List s.V) (p i : ℕ) (y : s.V) (o : Option s.V) → Extends lefts lefts' → Ahead s lefts made p i y o → Ahead s lefts' made p i y o
ahead_grown s lefts lefts' made p i y None more a = λ x hx. (let k = a x hx in (k.0, k.1, more k.0 x k.2))
ahead_grown s lefts lefts' made p i y (Some w) more a = (a.0, more i a.0 a.1, a.2, a.3)

row_grown : (s : Setting) (n : ℕ) (lefts rights lefts' rights' : ℕ → List s.V) (made : List s.V) (r : Row s.V) → ((p : ℕ) → p < n → Extends (lefts p) (lefts' p)) → ((p : ℕ) → p < n → Extends (rights p) (rights' p))
    → IsRow s n lefts rights made r → IsRow s n lefts' rights' made r
row_grown s n lefts rights lefts' rights' made r more_l more_r is = record {
  alt_in = is.alt_in;
  y = is.y;
  y_at = more_r r.alt is.alt_in r.at is.y is.y_at;
  taken = λ i less. (let k = is.taken i less in (k.0, more_l r.alt is.alt_in i k.0 k.1, k.2));
  ahead = ahead_grown s (lefts r.alt) (lefts' r.alt) made r.alt r.next is.y r.value (more_l r.alt is.alt_in) is.ahead;
}

opened_grown : (s : Setting) {R : Type 0} (view : R → Row s.V) (rights rights' : List s.V) (rows : List R) (p : ℕ) → Extends rights rights' → Opened s view rights rows p → Opened s view rights' rows p
opened_grown s view rights rights' rows p more (inl o) = inl o
opened_grown s view rights rights' rows p more (inr (inl c)) = inr (inl (λ y hy. let j = c y hy in (j.0, more j.0 y j.1, j.2)))
opened_grown s view rights rights' rows p more (inr (inr c)) = inr (inr c)

-- what is said of the rows stays so where the parts have more values
pub merged_grown : (s : Setting) {R : Type 0} (view : R → Row s.V) (n : ℕ) (lefts rights lefts' rights' : ℕ → List s.V) (made : List s.V) (rows : List R) → ((p : ℕ) → p < n → Extends (lefts p) (lefts' p)) → ((p : ℕ) → p < n → Extends (rights p) (rights' p))
    → Merged s view n lefts rights made rows → Merged s view n lefts' rights' made rows
merged_grown s view n lefts rights lefts' rights' made rows more_l more_r m = record {
  front = m.front;
  each = λ k r at. row_grown s n lefts rights lefts' rights' made (view r) more_l more_r (m.each k r at);
  apart = m.apart;
  opened = λ p p_in. opened_grown s view (rights p) (rights' p) rows p (more_r p p_in) (m.opened p p_in);
  begins = m.begins;
}

-- nothing is begun
pub merged_none : (s : Setting) {R : Type 0} (view : R → Row s.V) (lefts rights : ℕ → List s.V) → Merged s view 0 lefts rights [] []
merged_none s view lefts rights = record {
  front = record { rise = λ i j a b less p q. absurd cc; sound = λ i a p. absurd cc; below = λ v h. inr (λ i a p. absurd cc) };
  each = λ m r at. absurd cc;
  apart = λ m k r t p q. absurd cc;
  opened = λ p less. absurd (omega arith);
  begins = λ m k r t p q. absurd cc;
}

has_wider : (s : Setting) {R : Type 0} (view : R → Row s.V) (rows : List R) (b : R) (p j : ℕ) → HasRow view rows p j → HasRow view (rows ++ b ∷ []) p j
has_wider s view rows b p j h = record { place = h.place; row = h.row; here = push_old rows b h.place h.row h.here; alt = h.alt; at = h.at }

opened_wider : (s : Setting) {R : Type 0} (view : R → Row s.V) (rights : List s.V) (rows : List R) (b : R) (p : ℕ) → Opened s view rights rows p → Opened s view rights (rows ++ b ∷ []) p
opened_wider s view rights rows b p (inl o) = inl (record { place = o.place; row = o.row; here = push_old rows b o.place o.row o.here; alt = o.alt; first = o.first; value = o.value; live = o.live; filled = λ j less. has_wider s view rows b p j (o.filled j less) })
opened_wider s view rights rows b p (inr (inl c)) = inr (inl (λ y hy. let j = c y hy in (j.0, j.1, has_wider s view rows b p j.0 j.2)))
opened_wider s view rights rows b p (inr (inr c)) = inr (inr c)

row_wider : (s : Setting) (n : ℕ) (lefts rights : ℕ → List s.V) (made : List s.V) (r : Row s.V) → IsRow s n lefts rights made r → IsRow s (suc n) lefts rights made r
row_wider s n lefts rights made r is = record { alt_in = (let a = is.alt_in in omega arith); y = is.y; y_at = is.y_at; taken = is.taken; ahead = is.ahead }

none_front : (s : Setting) (n : ℕ) → IsFront s.cmp (Makes s n) []
none_front s n = record { rise = λ i j a b less p q. absurd cc; sound = λ i a p. absurd cc; below = λ v h. inr (λ i a p. absurd cc) }

-- one more alternative, whose parts both have a value
pub merged_begun : (s : Setting) {R : Type 0} (view : R → Row s.V) (n : ℕ) (lefts rights : ℕ → List s.V) (rows : List R) (b : R) → Merged s view n lefts rights [] rows → Begins s view (lefts n) (rights n) n 0 b → Merged s view (suc n) lefts rights [] (rows ++ b ∷ [])
merged_begun s {R} view n lefts rights rows b m g =
    let old_alt : (k : ℕ) (r : R) → slice_get rows k ≡ Some r → (view r).alt < n = λ k r at. (m.each k r at).alt_in in
    record {
      front = none_front s (suc n);
      each = λ k r at. elim (push_from rows b k r at) [
        | inl old ↦ row_wider s n lefts rights [] (view r) (m.each k r old)
        | inr new ↦ subst (λ (q : R). IsRow s (suc n) lefts rights [] (view q)) (sym new.1) (record {
          alt_in = (let a = g.alt in omega arith);
          y = g.y;
          y_at = (λ i. slice_get (rights (g.alt i)) (g.at i)) ∙ g.y_at;
          taken = λ i less. absurd (let a = g.next in omega arith);
          ahead = (
              let v : Row s.V = view b in
              let here : Ahead s (lefts n) [] n 0 g.y (Some (s.combine n g.x g.y)) = (g.x, g.x_at, refl, λ k. absurd (let e = k.1 in cc)) in
              subst (λ (p : ℕ). Ahead s (lefts p) [] p v.next g.y v.value) (sym g.alt) (subst (λ (i : ℕ). Ahead s (lefts n) [] n i g.y v.value) (sym g.next) (subst (λ (o : Option s.V). Ahead s (lefts n) [] n 0 g.y o) (sym g.value) here)));
        })
      ];
      apart = λ k l r t p q e f. elim (push_from rows b k r p) [
        | inl old ↦ elim (push_from rows b l t q) [
          | inl old' ↦ m.apart k l r t old old' e f
          | inr new' ↦ absurd (let a = old_alt k r old in let c : (view t).alt ≡ n = ap (λ (z : R). (view z).alt) new'.1 ∙ g.alt in omega arith)
        ]
        | inr new ↦ elim (push_from rows b l t q) [
          | inl old' ↦ absurd (let a = old_alt l t old' in let c : (view r).alt ≡ n = ap (λ (z : R). (view z).alt) new.1 ∙ g.alt in omega arith)
          | inr new' ↦ new.0 ∙ sym new'.0
        ]
      ];
      opened = λ p p_in. elim (cases_lt p n) [
        | inl less ↦ opened_wider s view (rights p) rows b p (m.opened p less)
        | inr more ↦ (
            let e : n ≡ p = omega arith in
            subst (λ (q : ℕ). Opened s view (rights q) (rows ++ b ∷ []) q) e (inl (record { place = length rows; row = b; here = push_here rows b; alt = g.alt; first = g.next; value = s.combine n g.x g.y; live = g.value; filled = λ j less. absurd (let a = g.at in omega arith) })))
      ];
      begins = λ k l r t p q e f. elim (push_from rows b k r p) [
        | inl old ↦ elim (push_from rows b l t q) [
          | inl old' ↦ m.begins k l r t old old' e f
          | inr new' ↦ absurd (let a = old_alt k r old in let c : (view t).alt ≡ n = ap (λ (z : R). (view z).alt) new'.1 ∙ g.alt in omega arith)
        ]
        | inr new ↦ elim (push_from rows b l t q) [
          | inl old' ↦ absurd (let a = old_alt l t old' in let c : (view r).alt ≡ n = ap (λ (z : R). (view z).alt) new.1 ∙ g.alt in omega arith)
          | inr new' ↦ (let c : (view t).at ≡ (view r).at = ap (λ (z : R). (view z).at) (new'.1 ∙ sym new.1) in omega arith)
        ]
      ];
    }

-- one more alternative, of which a part has no value
pub merged_passed : (s : Setting) {R : Type 0} (view : R → Row s.V) (n : ℕ) (lefts rights : ℕ → List s.V) (rows : List R) → Merged s view n lefts rights [] rows → ((x : s.V) → s.HasL n x → ⊥) ⊎ ((y : s.V) → s.HasR n y → ⊥) → Merged s view (suc n) lefts rights [] rows
merged_passed s {R} view n lefts rights rows m none = record {
  front = none_front s (suc n);
  each = λ k r at. row_wider s n lefts rights [] (view r) (m.each k r at);
  apart = m.apart;
  opened = λ p p_in. elim (cases_lt p n) [
    | inl less ↦ m.opened p less
    | inr more ↦ (
        let e : n ≡ p = omega arith in
        subst (λ (q : ℕ). Opened s view (rights q) rows q) e (elim none [ inl h ↦ inr (inr h) | inr h ↦ inr (inl (λ y hy. absurd (h y hy))) ]))
  ];
  begins = m.begins;
}

-- ---- the lists of the code

-- ---- rows seen in another way
-- What is said of the rows depends on what is seen of the rows that there are. So rows may hold places alone, and be seen with the values that stand there.
has_seen : {V R : Type 0} (view other : R → Row V) (rows : List R) (p j : ℕ) → ((m : ℕ) (r : R) → slice_get rows m ≡ Some r → view r ≡ other r) → HasRow view rows p j → HasRow other rows p j
has_seen view other rows p j same h =
    let e = same h.place h.row h.here in
    record { place = h.place; row = h.row; here = h.here; alt = ap (λ v. v.alt) (sym e) ∙ h.alt; at = ap (λ v. v.at) (sym e) ∙ h.at }

opened_seen : (s : Setting) {R : Type 0} (view other : R → Row s.V) (rights : List s.V) (rows : List R) (p : ℕ) → ((m : ℕ) (r : R) → slice_get rows m ≡ Some r → view r ≡ other r) → Opened s view rights rows p → Opened s other rights rows p
opened_seen s view other rights rows p same (inl o) =
    let e = same o.place o.row o.here in
    inl (record {
      place = o.place;
      row = o.row;
      here = o.here;
      alt = ap (λ v. v.alt) (sym e) ∙ o.alt;
      first = ap (λ v. v.next) (sym e) ∙ o.first;
      value = o.value;
      live = ap (λ v. v.value) (sym e) ∙ o.live;
      filled = λ j less. has_seen view other rows p j same (o.filled j (let q : (view o.row).at ≡ (other o.row).at = ap (λ v. v.at) e in omega arith));
    })
opened_seen s view other rights rows p same (inr (inl c)) = inr (inl (λ y hy. let j = c y hy in (j.0, j.1, has_seen view other rows p j.0 same j.2)))
opened_seen s view other rights rows p same (inr (inr c)) = inr (inr c)

pub merged_seen : (s : Setting) {R : Type 0} (view other : R → Row s.V) (n : ℕ) (lefts rights : ℕ → List s.V) (made : List s.V) (rows : List R) → ((m : ℕ) (r : R) → slice_get rows m ≡ Some r → view r ≡ other r)
    → Merged s view n lefts rights made rows → Merged s other n lefts rights made rows
merged_seen s {R} view other n lefts rights made rows same m = record {
  front = m.front;
  each = λ k r at. subst (λ (v : Row s.V). IsRow s n lefts rights made v) (same k r at) (m.each k r at);
  apart = λ k l r t p q e f. m.apart k l r t p q (ap (λ v. v.alt) (same k r p) ∙ e ∙ ap (λ v. v.alt) (sym (same l t q))) (ap (λ v. v.at) (same k r p) ∙ f ∙ ap (λ v. v.at) (sym (same l t q)));
  opened = λ p p_in. opened_seen s view other (rights p) rows p same (m.opened p p_in);
  begins = λ k l r t p q e first. (
      let a = m.begins k l r t p q (ap (λ v. v.alt) (same k r p) ∙ e ∙ ap (λ v. v.alt) (sym (same l t q))) (ap (λ v. v.next) (same k r p) ∙ first) in
      let x : (view r).at ≡ (other r).at = ap (λ v. v.at) (same k r p) in
      let y : (view t).at ≡ (other t).at = ap (λ v. v.at) (same l t q) in
      omega arith);
}
