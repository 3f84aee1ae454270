-- How many words have no way to link at all, counted from the first to the last.
use Rattle.std.proofs.Common.{◌≡◌, ℕ, zero, suc, ◌+◌, ◌-◌, ◌<◌, ◌≤◌, List, [], ◌∷◌, ◌++◌, length, get_or, refl, sym, ap, ◌∙◌, subst, inl, inr, Bool, true, false, cond, ltb, min, arith, length-append}
use Rattle.std.proofs.lemmas.Bool.{cases_lt}
use Rattle.std.proofs.lemmas.List.{get_or_append_left, get_or-append_right, get_or_past}
use Rattle.std.proofs.lemmas.List.FromFn.{sum_by-map-range_with_len_more}
use Rattle.lg_sharpen.specs.Filling.{least_at, void_in, AreVoids}

abbrev void_one : List (List ℕ) → ℕ → ℕ → ℕ
void_one rows n w = cond (ltb n (least_at rows w 0)) 1 0

-- one word more
void_more : (rows : List (List ℕ)) (n a c : ℕ) → void_in rows n a (c + 1) ≡ void_in rows n a c + void_one rows n (a + c)
void_more rows n a c = sum_by-map-range_with_len_more (λ end. cond (ltb n end) 1 0) (λ w. least_at rows w 0) a c (a + c) refl

-- those of a run are those of its two parts
void_split : (rows : List (List ℕ)) (n a c : ℕ) → void_in rows n 0 (a + c) ≡ void_in rows n 0 a + void_in rows n a c
void_split rows n a zero =
    let e : a + zero ≡ a = omega arith in
    let z : void_in rows n a zero ≡ 0 = refl in
    let s : void_in rows n 0 (a + zero) ≡ void_in rows n 0 a = ap (λ z. void_in rows n 0 z) e in
    omega arith
void_split rows n a (suc c) =
    let r = void_split rows n a c in
    let e : a + suc c ≡ (a + c) + 1 = omega arith in
    let e' : suc c ≡ c + 1 = omega arith in
    let s : void_in rows n 0 (a + suc c) ≡ void_in rows n 0 ((a + c) + 1) = ap (λ z. void_in rows n 0 z) e in
    let t : void_in rows n a (suc c) ≡ void_in rows n a (c + 1) = ap (λ z. void_in rows n a z) e' in
    let m = void_more rows n 0 (a + c) in
    let m' = void_more rows n a c in
    let same : void_one rows n (0 + (a + c)) ≡ void_one rows n (a + c) = (let q : 0 + (a + c) ≡ a + c = omega arith in ap (λ z. void_one rows n z) q) in
    omega arith

-- the first words are counted
pub record VoidsTo (n : ℕ) (rows : List (List ℕ)) (k count : ℕ) (voids : List ℕ) : Type 0 where
  pub long : length voids ≡ k + 1
  pub count_is : count ≡ void_in rows n 0 k
  pub few : count ≤ k
  pub each : (w : ℕ) → w ≤ k → get_or voids w 0 ≡ void_in rows n 0 w

pub voids_none : (n : ℕ) (rows : List (List ℕ)) (voids : List ℕ) → voids ≡ 0 ∷ [] → VoidsTo n rows 0 0 voids
voids_none n rows voids is = record {
  long = ap length is;
  count_is = refl;
  few = omega arith;
  each = λ w le. (let none : w ≡ 0 = omega arith in ap (λ z. get_or z w 0) is ∙ ap (λ z. get_or (0 ∷ []) z 0) none ∙ ap (λ z. void_in rows n 0 z) (sym none));
}

pub voids_more : (n : ℕ) (rows : List (List ℕ)) (k count more' : ℕ) (now new : List ℕ) (void : Bool) → void ≡ ltb n (least_at rows k 0) → more' ≡ count + cond void 1 0 → new ≡ now ++ more' ∷ [] → VoidsTo n rows k count now
    → VoidsTo n rows (k + 1) more' new
voids_more n rows k count more' now new void is sum pushed to = subst (λ z. VoidsTo n rows (k + 1) more' z) (sym pushed) (record {
  long = length-append now (more' ∷ []) ∙ ap (λ z. z + 1) to.long;
  count_is = total;
  few = (let few = to.few in let one = at_most void in omega arith);
  each = λ w le. elim (cases_lt w (k + 1)) [
    | inl low ↦ (let within : w < length now = (let l = to.long in omega arith) in get_or_append_left now (more' ∷ []) 0 w within ∙ to.each w (omega arith))
    | inr high ↦ (
        let at : w ≡ k + 1 = omega arith in
        let past : length now ≤ w = (let l = to.long in omega arith) in
        let none : w - length now ≡ 0 = (let l = to.long in omega arith) in
        get_or-append_right now (more' ∷ []) (length now) w 0 refl past ∙ ap (λ z. get_or (more' ∷ []) z 0) none ∙ total ∙ ap (λ z. void_in rows n 0 z) (sym at))
  ];
})
  where
    at_most : (b : Bool) → cond b 1 0 ≤ 1
    at_most true = omega arith
    at_most false = omega arith

    total : more' ≡ void_in rows n 0 (k + 1)
    total =
        let m = void_more rows n 0 k in
        let was = to.count_is in
        let one : cond void 1 0 ≡ void_one rows n k = ap (λ (b : Bool). cond b 1 0) is in
        let here : void_one rows n (0 + k) ≡ void_one rows n k = (let q : 0 + k ≡ k = omega arith in ap (λ z. void_one rows n z) q) in
        omega arith

pub voids_all : (n : ℕ) (rows : List (List ℕ)) (k count : ℕ) (voids : List ℕ) → k ≡ n → VoidsTo n rows k count voids → AreVoids n rows voids
voids_all n rows k count voids e to = record {
  long = to.long ∙ ap (λ z. z + 1) e;
  each = λ w le. to.each w (omega arith);
}

-- those before a word
pub void_before : (n : ℕ) (rows : List (List ℕ)) (voids : List ℕ) (w r : ℕ) → r ≡ get_or voids w 0 → AreVoids n rows voids → r ≤ void_in rows n 0 (min w n)
void_before n rows voids w r is are = elim (cases_lt n w) [
  | inl past ↦ (let none : get_or voids w 0 ≡ 0 = (let l = are.long in get_or_past voids w 0 (omega arith)) in omega arith)
  | inr within ↦ (
      let e : min w n ≡ w = omega arith in
      let each = are.each w within in
      let s : void_in rows n 0 (min w n) ≡ void_in rows n 0 w = ap (λ z. void_in rows n 0 z) e in
      omega arith)
]

-- those from it on
pub void_since : (n : ℕ) (rows : List (List ℕ)) (voids : List ℕ) (w last r : ℕ) → w < length voids → last ≡ length voids - 1 → r ≡ get_or voids last 0 - get_or voids w 0 → AreVoids n rows voids → r ≤ void_in rows n w (n - w)
void_since n rows voids w last r within last_is is are =
    let l = are.long in
    let e : last ≡ n = omega arith in
    let whole = are.each n (omega arith) in
    let front = are.each w (omega arith) in
    let split = void_split rows n w (n - w) in
    let sum : w + (n - w) ≡ n = omega arith in
    let s : void_in rows n 0 (w + (n - w)) ≡ void_in rows n 0 n = ap (λ z. void_in rows n 0 z) sum in
    let t : get_or voids last 0 ≡ get_or voids n 0 = ap (λ z. get_or voids z 0) e in
    omega arith
