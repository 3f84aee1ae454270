-- How many words have no way to link under links of a position, counted word by word from near to far.
use Rattle.std.proofs.Common.{◌≡◌, ℕ, zero, suc, ◌+◌, ◌-◌, ◌<◌, ◌≤◌, List, [], ◌∷◌, ◌++◌, length, map, set, get_or, refl, sym, ap, ◌∙◌, subst, inl, inr, Bool, true, false, cond, ltb, arith}
use Rattle.std.specs.List.{range_with_len}
use Rattle.std.proofs.lemmas.Bool.{cases_eq, cases_lt}
use Rattle.std.proofs.lemmas.List.{get_or_past, get_or-set_same, get_or-set_other, length-append, length-set}
use Rattle.std.proofs.lemmas.List.Sums.{sum_by-cons}
use Rattle.std.proofs.lemmas.List.FromFn.{sum_by-map-range_with_len_more}
use Rattle.lg_sharpen.specs.Filling.{least_at, first_of, last_of, stuck_in, stuck_under, stuck_near, left_over, void_beside, word_beside, AreStuck, AreStuckTo, CountsWord}
use Rattle.lg_sharpen.proofs.Rows.{SpanRowTo, added}

abbrev stuck_one : Bool → List (List ℕ) → ℕ → ℕ → ℕ → ℕ
stuck_one right rows i d m = cond (ltb (last_of right i d) (least_at rows (word_beside right i m) (first_of right i d))) 1 0

-- one word more
near_more : (right : Bool) (rows : List (List ℕ)) (i d m : ℕ) → (right ≡ false → m + 1 ≤ i) → stuck_near right rows i d (m + 1) ≡ stuck_near right rows i d m + stuck_one right rows i d m
near_more true rows i d m h =
    sum_by-map-range_with_len_more (λ end. cond (ltb (last_of true i d) end) 1 0) (λ w. least_at rows w (first_of true i d)) (i + 1) m (i + m + 1) (omega arith)
near_more false rows i d m h =
    let low = h refl in
    let p : ℕ → ℕ = λ end. cond (ltb (last_of false i d) end) 1 0 in
    let f : ℕ → ℕ = λ w. least_at rows w (first_of false i d) in
    let next : i - (m + 1) + 1 ≡ i - m = omega (arith, low) in
    let here : i - (m + 1) ≡ i - m - 1 = omega (arith, low) in
    let more : stuck_near false rows i d (m + 1) ≡ p (f (i - (m + 1))) + stuck_in rows (first_of false i d) (last_of false i d) (i - (m + 1) + 1) m =
    (let e : m + 1 ≡ suc m = omega arith in ap (λ z. stuck_in rows (first_of false i d) (last_of false i d) (i - (m + 1)) z) e)
    ∙ sum_by-cons p (f (i - (m + 1))) (map f (range_with_len (i - (m + 1) + 1) m)) in
    let same : stuck_in rows (first_of false i d) (last_of false i d) (i - (m + 1) + 1) m ≡ stuck_near false rows i d m = ap (λ z. stuck_in rows (first_of false i d) (last_of false i d) z m) next in
    let one : p (f (i - (m + 1))) ≡ stuck_one false rows i d m = ap (λ z. p (f z)) here in
    omega (arith, more, same, one)

-- all words under a link
all_near : (right : Bool) (rows : List (List ℕ)) (i d : ℕ) → (right ≡ false → d ≤ i) → stuck_near right rows i d (d - 1) ≡ stuck_under right rows i d
all_near true rows i d h = refl
all_near false rows i zero h = refl
all_near false rows i (suc d) h =
    let low = h refl in
    let same : i - (suc d - 1) ≡ i - suc d + 1 = omega (arith, low) in
    ap (λ z. stuck_in rows (first_of false i (suc d)) (last_of false i (suc d)) z (suc d - 1)) same

-- before any word
pub stuck_none : (right : Bool) (rows : List (List ℕ)) (i : ℕ) (counts : List ℕ) → ((d : ℕ) → get_or counts d 0 ≡ 0) → AreStuckTo right rows i 0 counts
stuck_none right rows i counts none = record {
  below = λ d within low. let n = none d in omega (arith, n);
  above = λ d within over. let n = none d in omega (arith, n);
}

-- after all of them
pub stuck_all : (right : Bool) (rows : List (List ℕ)) (i m : ℕ) (counts : List ℕ) → length counts ≤ m → (right ≡ false → length counts ≤ i + 1) → AreStuckTo right rows i m counts → AreStuck right rows i counts
stuck_all right rows i m counts long bound to d = elim (cases_lt d (length counts)) [
  | inl within ↦ (
      let less = to.below d within (omega (arith, within, long)) in
      let all = all_near right rows i d (λ is. let b = bound is in omega (arith, within, b)) in
      omega (arith, less, all))
  | inr past ↦ (let none : get_or counts d 0 ≡ 0 = get_or_past counts d 0 past in omega (arith, none))
]

-- the lengths below this one have the word counted
pub record CountedTo (right : Bool) (rows : List (List ℕ)) (i m k : ℕ) (old now : List ℕ) : Type 0 where
  pub same_length : length now ≡ length old
  pub done : (d : ℕ) → d < length old → m + 1 < d → d < k → get_or now d 0 ≤ get_or old d 0 + stuck_one right rows i d m
  pub rest : (d : ℕ) → d ≤ m + 1 → get_or now d 0 ≡ get_or old d 0
  pub later : (d : ℕ) → k ≤ d → get_or now d 0 ≡ get_or old d 0

pub counted_none : (right : Bool) (rows : List (List ℕ)) (i m : ℕ) (old : List ℕ) → CountedTo right rows i m (m + 2) old old
counted_none right rows i m old = record {
  same_length = refl;
  done = λ d within over below. absurd (omega (arith, over, below));
  rest = λ d low. refl;
  later = λ d low. refl;
}

-- one length more at which the word is stuck
pub counted_more : (right : Bool) (rows : List (List ℕ)) (i m k v : ℕ) (old now : List ℕ) → k < length now → m + 2 ≤ k → v ≤ get_or now k 0 + 1
    → ltb (last_of right i k) (least_at rows (word_beside right i m) (first_of right i k)) ≡ true → CountedTo right rows i m k old now → CountedTo right rows i m (k + 1) old (set now k v)
counted_more right rows i m k v old now within low one stuck to = record {
  same_length = length-set now k v ∙ to.same_length;
  done = λ d inside over below. elim (cases_eq d k) [
    | inl is ↦ (
        let here : get_or (set now k v) d 0 ≡ v = ap (λ z. get_or (set now k v) z 0) is ∙ get_or-set_same now k v 0 within in
        let was = to.later d (omega (arith, is)) in
        let same : get_or now k 0 ≡ get_or now d 0 = ap (λ z. get_or now z 0) (sym is) in
        let full : stuck_one right rows i d m ≡ 1 = ap (λ z. stuck_one right rows i z m) is ∙ ap (λ (b : Bool). cond b 1 0) stuck in
        omega (arith, here, was, same, full, one))
    | inr other ↦ (
        let same = get_or-set_other now k d v 0 other in
        let less = to.done d inside over (omega (arith, below, other)) in
        omega (arith, same, less))
  ];
  rest = λ d below. get_or-set_other now k d v 0 (λ is. absurd (omega (arith, is, below, low))) ∙ to.rest d below;
  later = λ d over. get_or-set_other now k d v 0 (λ is. absurd (omega (arith, is, over))) ∙ to.later d (omega (arith, over));
}

-- so it is counted where it was stuck so far
pub counts_word : (right : Bool) (rows : List (List ℕ)) (i m k : ℕ) (old now : List ℕ) → (right ≡ false → length old ≤ i + 1) → CountedTo right rows i m k old now → CountsWord right rows i m old now
counts_word right rows i m k old now bound to = record {
  same_length = to.same_length;
  counted = λ was. record {
    below = λ d within low.
        let same = to.rest d low in
        let inside : d < length old = (let l = to.same_length in omega (arith, within, l)) in
        elim (cases_lt m d) [
          | inl over ↦ (
              let less = was.above d inside over in
              let at : m ≡ d - 1 = omega (arith, over, low) in
              let near : stuck_near right rows i d m ≡ stuck_near right rows i d (d - 1) = ap (λ z. stuck_near right rows i d z) at in
              omega (arith, same, less, near))
          | inr under' ↦ (let less = was.below d inside under' in omega (arith, same, less))
        ];
    above = λ d within over.
        let inside : d < length old = (let l = to.same_length in omega (arith, within, l)) in
        let less = was.above d inside (omega (arith, over)) in
        let more = near_more right rows i d m (λ is. let b = bound is in omega (arith, b, inside, over)) in
        elim (cases_lt d k) [
          | inl low ↦ (let one = to.done d inside over low in omega (arith, less, more, one))
          | inr past ↦ (let same = to.later d past in omega (arith, less, more, same))
        ];
  };
}

-- a flag more
pub span_more : (right : Bool) (n most : ℕ) (rows : List (List ℕ)) (i k others : ℕ) (counts : List ℕ) (now new : List Bool) (flag : Bool) → AreStuck right rows i counts → new ≡ now ++ flag ∷ []
    → (flag ≡ false → most ≤ get_or counts k 0 + others) → others ≤ void_beside right rows n i k → SpanRowTo right n most rows i k now → SpanRowTo right n most rows i (k + 1) new
span_more right n most rows i k others counts now new flag stuck is shut void to =
    subst (SpanRowTo right n most rows i (k + 1)) (sym is) (record {
      long = length-append now (flag ∷ []) ∙ ap (λ z. z + 1) to.long;
      each = added now flag true (λ d b. b ≡ false → most ≤ left_over right rows n i d) to.each
          (subst (λ z. flag ≡ false → most ≤ left_over right rows n i z) (sym to.long) (λ off. let many = shut off in let few = stuck k in omega (arith, many, few)));
    })
