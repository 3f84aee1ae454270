-- What is in a set of keys, by its rows.
use Rattle.std.proofs.Common.{◌≡◌, ◌≢◌, ◌↔◌, ℕ, zero, suc, ◌*◌, ◌^◌, ◌<◌, ◌≤◌, ◌==◌, ◌⊎◌, inl, inr, Bool, if◌then◌else◌, IsTrue, List, [], ◌∷◌, length, map, Some, bit_or, refl, sym, ap, ◌∙◌, subst, Contains, arith, length-append}
use Rattle.std.proofs.lemmas.Bool.{cases_eq}
use Rattle.std.proofs.lemmas.List.{length-map}
use Rattle.std.proofs.lemmas.Nat.Bits.{bit_at-zero}
use Rattle.std.proofs.lemmas.Option.{same_Some, slice_get_within}
use Rattle.std.specs.List.{slice_get}
use Rattle.std.proofs.lemmas.List.Elements.{Contains-append_cases, Contains-append_left}
use Rattle.std.specs.Map.{keys_of}
use Rattle.lg_base.specs.Bits.{bit_at}
use Rattle.lg_base.proofs.Bits.{bit_other, bit_same, bit_stays}
use Rattle.lg_region.proofs.Once.{once_append}
use Rattle.lg_region.specs.Fronts.{AreOnce}
use Rattle.lg_forest.specs.KeySets.{AreRows, all_keys, keys_of_row, places}
use Rattle.lg_forest.specs.Slots.{HasBits, SetsBit}
use Rattle.lg_forest.proofs.Once.{contains_cases, contains_here, contains_later, contains_map, contains_none, in_append_right, map_found, once_cons, once_head, once_none, once_tail, place_of as place_in}

-- ---- the places of a row

bit_cases : (bits n : ℕ) → (bit_at bits n ≡ 1) ⊎ (bit_at bits n ≡ 0)
bit_cases bits n = elim (cases_eq (bit_at bits n) 1) [ inl e ↦ inl e | inr f ↦ inr (let l : bit_at bits n < 2 = omega arith in omega arith) ]

places_one : (bits n : ℕ) → bit_at bits n ≡ 1 → places bits (suc n) ≡ n ∷ places bits n
places_one bits n e = ap (λ (z : ℕ). if z == 1 then n ∷ places bits n else places bits n) e

places_zero : (bits n : ℕ) → bit_at bits n ≡ 0 → places bits (suc n) ≡ places bits n
places_zero bits n e = ap (λ (z : ℕ). if z == 1 then n ∷ places bits n else places bits n) e

place_found : (bits end p : ℕ) → Contains (places bits end) p → (p < end) × (bit_at bits p ≡ 1)
place_found bits zero p h = absurd (contains_none p h)
place_found bits (suc n) p h = elim (bit_cases bits n) [
  | inl one ↦ elim (contains_cases n (places bits n) p (subst (λ z. Contains z p) (places_one bits n one) h)) [
    | inl e ↦ (omega (arith, e), subst (λ z. bit_at bits z ≡ 1) e one)
    | inr t ↦ (let r = place_found bits n p t in let l = r.0 in (omega arith, r.1))
  ]
  | inr none ↦ (let r = place_found bits n p (subst (λ z. Contains z p) (places_zero bits n none) h) in let l = r.0 in (omega arith, r.1))
]

place_there : (bits end p : ℕ) → p < end → bit_at bits p ≡ 1 → Contains (places bits end) p
place_there bits zero p l one = absurd (omega arith)
place_there bits (suc n) p l one = elim (bit_cases bits n) [
  | inl set ↦ subst (λ z. Contains z p) (sym (places_one bits n set)) (elim (cases_eq p n) [
    | inl t ↦ (let e : n ≡ p = sym t in subst (λ z. Contains (n ∷ places bits n) z) e (contains_here n (places bits n)))
    | inr f ↦ contains_later n (places bits n) p (place_there bits n p (omega arith) one)
  ])
  | inr none ↦ subst (λ z. Contains z p) (sym (places_zero bits n none)) (elim (cases_eq p n) [
    | inl t ↦ (let bad = ap (bit_at bits) t in absurd (omega arith))
    | inr f ↦ place_there bits n p (omega arith) one
  ])
]

places_once : (bits end : ℕ) → AreOnce (places bits end)
places_once bits zero = once_none
places_once bits (suc n) = elim (bit_cases bits n) [
  | inl one ↦ subst (λ z. AreOnce z) (sym (places_one bits n one)) (once_cons n (places bits n) (λ has. (let r = place_found bits n n has in let l = r.0 in omega arith)) (places_once bits n))
  | inr none ↦ subst (λ z. AreOnce z) (sym (places_zero bits n none)) (places_once bits n)
]

places_few : (bits end : ℕ) → length (places bits end) ≤ end
places_few bits zero = omega arith
places_few bits (suc n) =
    let few = places_few bits n in
    elim (bit_cases bits n) [
      | inl one ↦ (let e = ap length (places_one bits n one) in omega arith)
      | inr none ↦ (let e = ap length (places_zero bits n none) in omega arith)
    ]

bits_some : (bits place : ℕ) → bit_at bits place ≡ 1 → bits ≢ 0
bits_some bits place one none = (let zero = ap (λ z. bit_at z place) none ∙ bit_at-zero place in omega arith)

-- ---- the keys of rows

module _ {K R : Type 0} (row_of : K → R) (place_of : K → ℕ) (key_at : R → ℕ → K) (are : AreRows row_of place_of key_at) where
  -- a key is in the set where its bit is 1 in its row
  pub key_found : (rows : List (R × ℕ)) (k : K) → Contains (all_keys key_at rows) k → (bits : ℕ) × Contains rows (row_of k, bits) × (bit_at bits (place_of k) ≡ 1)
  key_found [] k h = absurd (contains_none k h)
  key_found (r ∷ rows) k h = elim (Contains-append_cases (keys_of_row key_at r) (all_keys key_at rows) k h) [
    | inl here ↦ (
        let x = map_found (key_at r.0) (places r.1 64) k here in
        let p = place_found r.1 64 x.0 x.1 in
        let is : row_of k ≡ r.0 = ap row_of (sym x.2) ∙ are.row_back r.0 x.0 p.0 in
        let at : place_of k ≡ x.0 = ap place_of (sym x.2) ∙ are.place_back r.0 x.0 p.0 in
        (r.1, subst (λ (z : R). Contains (r ∷ rows) (z, r.1)) (sym is) (contains_here r rows), subst (λ z. bit_at r.1 z ≡ 1) (sym at) p.1)
        )
    | inr later ↦ (let x = key_found rows k later in (x.0, contains_later r rows (row_of k, x.0) x.1, x.2))
  ]

  pub key_there : (rows : List (R × ℕ)) (k : K) (bits : ℕ) → Contains rows (row_of k, bits) → bit_at bits (place_of k) ≡ 1 → Contains (all_keys key_at rows) k
  key_there [] k bits h one = absurd (contains_none (row_of k, bits) h)
  key_there (r ∷ rows) k bits h one = elim (contains_cases r rows (row_of k, bits) h) [
    | inl e ↦ Contains-append_left (keys_of_row key_at r) (all_keys key_at rows) k
        (subst (λ (z : R × ℕ). Contains (keys_of_row key_at z) k) (sym e)
        (subst (λ z. Contains (map (key_at (row_of k)) (places bits 64)) z) (are.key_back k) (contains_map (key_at (row_of k)) (places bits 64) (place_of k) (place_there bits 64 (place_of k) (are.within k) one))))
    | inr later ↦ in_append_right (keys_of_row key_at r) (all_keys key_at rows) k (key_there rows k bits later one)
  ]

  pub keys_few : (rows : List (R × ℕ)) → length (all_keys key_at rows) ≤ 64 * length rows
  keys_few [] = omega arith
  keys_few (r ∷ rows) =
      let long = length-append (keys_of_row key_at r) (all_keys key_at rows) in
      let here = length-map (places r.1 64) (key_at r.0) in
      let few = places_few r.1 64 in
      let rest = keys_few rows in
      omega arith

  -- a key is in one row alone
  pub keys_once : (rows : List (R × ℕ)) → AreOnce (keys_of rows) → AreOnce (all_keys key_at rows)
  keys_once [] once = once_none
  keys_once (r ∷ rows) once =
      once_append (keys_of_row key_at r) (all_keys key_at rows)
      (map_places r.0 (places r.1 64) (λ p h. (place_found r.1 64 p h).0) (places_once r.1 64))
      (keys_once rows (once_tail r.0 (keys_of rows) once))
      (λ k here later. (
      let x = map_found (key_at r.0) (places r.1 64) k here in
      let p = place_found r.1 64 x.0 x.1 in
      let y = key_found rows k later in
      let is : row_of k ≡ r.0 = ap row_of (sym x.2) ∙ are.row_back r.0 x.0 p.0 in
      once_head r.0 (keys_of rows) once (subst (λ z. Contains (keys_of rows) z) is (contains_map (λ (e : R × ℕ). e.0) rows (row_of k, y.0) y.1))
      ))
    where
      map_places : (r : R) (ps : List ℕ) → ((p : ℕ) → Contains ps p → p < 64) → AreOnce ps → AreOnce (map (key_at r) ps)
      map_places r [] small once = once_none
      map_places r (p ∷ ps) small once = once_cons (key_at r p) (map (key_at r) ps)
          (λ has. (
          let x = map_found (key_at r) ps (key_at r p) has in
          let same : x.0 ≡ p = sym (are.place_back r x.0 (small x.0 (contains_later p ps x.0 x.1))) ∙ ap place_of x.2 ∙ are.place_back r p (small p (contains_here p ps)) in
          once_head p ps once (subst (λ z. Contains ps z) same x.1)
          ))
          (map_places r ps (λ q h. small q (contains_later p ps q h)) (once_tail p ps once))

  -- the bit tells whether the key is there
  pub has_key : (rows : List (R × ℕ)) (k : K) (r : R) (place bits : ℕ) (set : Bool) → HasBits rows r bits → r ≡ row_of k → place ≡ place_of k → (IsTrue set ↔ (bit_at bits place ≡ 1)) → IsTrue set ↔ Contains (all_keys key_at rows) k
  has_key rows k r place bits set had row at is = (
    (λ t. (
        let one : bit_at bits (place_of k) ≡ 1 = ap (bit_at bits) (sym at) ∙ is.0 t in
        key_there rows k bits (subst (λ z. Contains rows (z, bits)) row (had.there (bits_some bits (place_of k) one))) one
        )),
    (λ h. (
        let x = key_found rows k h in
        let b = had.only x.0 (subst (λ z. Contains rows (z, x.0)) (sym row) x.1) in
        is.1 (ap (bit_at bits) at ∙ ap (λ z. bit_at z (place_of k)) (sym b) ∙ x.2)
        )),
  )

-- ---- how many there are

-- what a list has but for one value
without : {X : Type 0} (xs : List X) (i : ℕ) → List X
without [] i = []
without (x ∷ xs) zero = xs
without (x ∷ xs) (suc i) = x ∷ without xs i

without_length : {X : Type 0} (xs : List X) (i : ℕ) → i < length xs → suc (length (without xs i)) ≡ length xs
unfolding without
without_length [] i l = absurd (omega arith)
without_length (x ∷ xs) zero l = refl
without_length (x ∷ xs) (suc i) l = ap suc (without_length xs i (omega arith))

without_has : {X : Type 0} (xs : List X) (i : ℕ) (x y : X) → slice_get xs i ≡ Some x → Contains xs y → (x ≡ y → ⊥) → Contains (without xs i) y
unfolding without
without_has [] i x y at has other = absurd (contains_none y has)
without_has (z ∷ xs) zero x y at has other = elim (contains_cases z xs y has) [ inl e ↦ absurd (other (same_Some x z (sym at) ∙ e)) | inr h ↦ h ]
without_has (z ∷ xs) (suc i) x y at has other = elim (contains_cases z xs y has) [
  | inl e ↦ subst (λ w. Contains (without (z ∷ xs) (suc i)) w) e (contains_here z (without xs i))
  | inr h ↦ contains_later z (without xs i) y (without_has xs i x y at h other)
]

-- a list whose values stand once is no longer than one that has them all
once_shorter : {X : Type 0} (xs ys : List X) → AreOnce xs → ((x : X) → Contains xs x → Contains ys x) → length xs ≤ length ys
once_shorter [] ys once has = omega arith
once_shorter (x ∷ xs) ys once has =
    let at = place_in ys x (has x (contains_here x xs)) in
    let rest = once_shorter xs (without ys at.0) (once_tail x xs once)
    (λ y h. without_has ys at.0 x y at.1 (has y (contains_later x xs y h)) (λ e. once_head x xs once (subst (λ z. Contains xs z) (sym e) h))) in
    let within = slice_get_within ys at.0 x at.1 in
    let long = without_length ys at.0 within in
    omega arith

-- one value more
pub one_longer : {X : Type 0} (old new : List X) (x : X) → AreOnce old → AreOnce new → (Contains old x → ⊥) → ((y : X) → Contains new y ↔ (Contains old y ⊎ (y ≡ x))) → length new ≡ suc (length old)
one_longer old new x once once' fresh is =
    let less = once_shorter (x ∷ old) new (once_cons x old fresh once)
    (λ y h. elim (contains_cases x old y h) [ inl e ↦ (is y).1 (inr (sym e)) | inr g ↦ (is y).1 (inl g) ]) in
    let more = once_shorter new (x ∷ old) once'
    (λ y h. elim ((is y).0 h) [ inl g ↦ contains_later x old y g | inr e ↦ subst (λ z. Contains (x ∷ old) z) (sym e) (contains_here x old) ]) in
    omega arith

-- ---- one bit more

-- a row is put in with one bit more
module _ {K R : Type 0} (row_of : K → R) (place_of : K → ℕ) (key_at : R → ℕ → K) (are : AreRows row_of place_of key_at) (old new : List (R × ℕ)) (key : K) (sets : SetsBit old (row_of key) (place_of key) new) where
  abbrev bits' : ℕ
  bits' = bit_or sets.bits (2 ^ place_of key)

  back : (k : K) → row_of k ≡ row_of key → place_of k ≡ place_of key → k ≡ key
  back k r p = sym (are.key_back k) ∙ (λ i. key_at (r i) (p i)) ∙ are.key_back key

  -- a bit that is 1 now was it before, or is the new one
  was_set : (k : K) → bit_at bits' (place_of k) ≡ 1 → (bit_at sets.bits (place_of k) ≡ 1) ⊎ (place_of k ≡ place_of key)
  was_set k one = elim (cases_eq (place_of k) (place_of key)) [
    | inl t ↦ inr t
    | inr f ↦ inl (sym (bit_other sets.bits (place_of key) (place_of k) f) ∙ one)
  ]

  still_set : (k : K) → bit_at sets.bits (place_of k) ≡ 1 → bit_at bits' (place_of k) ≡ 1
  still_set k one = bit_stays sets.bits (place_of key) (place_of k) one

  pub put_key : (k : K) → Contains (all_keys key_at new) k ↔ (Contains (all_keys key_at old) k ⊎ (k ≡ key))
  put_key k = (
    λ h. (
        let x = key_found row_of place_of key_at are new k h in
        elim (sets.put (row_of k) x.0 x.1) [
          | inl was ↦ inl (key_there row_of place_of key_at are old k x.0 was x.2)
          | inr now ↦ elim (was_set k (ap (λ z. bit_at z (place_of k)) (sym now.1) ∙ x.2)) [
            | inl set ↦ inl (key_there row_of place_of key_at are old k sets.bits (subst (λ z. Contains old (z, sets.bits)) (sym now.0) (sets.had.there (bits_some sets.bits (place_of k) set))) set)
            | inr same ↦ inr (back k now.0 same)
          ]
        ]
        ),
    λ h. elim h [
      | inl was ↦ (
          let x = key_found row_of place_of key_at are old k was in
          elim (are.same (row_of k) (row_of key)) [
            | inl same ↦ (
                let b = sets.had.only x.0 (subst (λ z. Contains old (z, x.0)) same x.1) in
                key_there row_of place_of key_at are new k bits' (subst (λ z. Contains new (z, bits')) (sym same) sets.there) (still_set k (ap (λ z. bit_at z (place_of k)) (sym b) ∙ x.2))
                )
            | inr other ↦ key_there row_of place_of key_at are new k x.0 (sets.kept (row_of k) x.0 other x.1) x.2
          ]
          )
      | inr e ↦ subst (λ z. Contains (all_keys key_at new) z) (sym e) (key_there row_of place_of key_at are new key bits' sets.there (bit_same sets.bits (place_of key)))
    ],
  )

-- the same of a row and a place that are those of the key
pub put_in : {K R : Type 0} (row_of : K → R) (place_of : K → ℕ) (key_at : R → ℕ → K) → AreRows row_of place_of key_at → (old new : List (R × ℕ)) (key : K) (r : R) (place : ℕ) → r ≡ row_of key → place ≡ place_of key → SetsBit old r place new
    → (k : K) → Contains (all_keys key_at new) k ↔ (Contains (all_keys key_at old) k ⊎ (k ≡ key))
put_in row_of place_of key_at are old new key r place row at sets =
    put_key row_of place_of key_at are old new key (subst (λ z. SetsBit old (row_of key) z new) at (subst (λ z. SetsBit old z place new) row sets))
