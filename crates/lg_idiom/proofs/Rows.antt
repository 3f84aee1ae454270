-- Chains add to one position after another.
use Rattle.std.proofs.Common.{◌≡◌, inl, inr, ℕ, zero, suc, ◌+◌, ◌<◌, ◌≤◌, List, [], ◌∷◌, ◌++◌, Bool, true, false, if◌then◌else◌, ◌&&◌, nat_le, nat_lt, length, take, map, filter, set, length-append, get_or, slice_get, Some, refl, sym, ap, subst, ◌∙◌, arith}
use Rattle.std.specs.Global.{Vec}
use Rattle.std.specs.Option.{option_map}
use Rattle.std.proofs.lemmas.Bool.{cases_lt}
use Rattle.std.proofs.lemmas.Bool.Decides.{nat_tests}
use Rattle.std.proofs.lemmas.List.{append-nil, length-map, length-set, map-append, map-set, take_more}
use Rattle.std.proofs.lemmas.List.Elements.{filter-append}
use Rattle.std.proofs.lemmas.Option.{same_Some, slice_get-get_or, slice_get-map}
use Rattle.lg_eprune.specs.Live.{WordTree}
use Rattle.lg_idiom.specs.Idioms.{Chain}
use Rattle.lg_idiom.specs.Sentences.{AreAddedTo, HasAdded, LiesWithin, added_at, added_before, rows}
use Rattle.lg_idiom.specs.Steps.{covers, added_by}

module _ {A : Type 0} where
  set_here : (xs : List A) (i : ℕ) (y : A) → i < length xs → slice_get (set xs i y) i ≡ Some y
  set_here [] i y low = absurd (omega (arith, low))
  set_here (x ∷ xs) zero y low = refl
  set_here (x ∷ xs) (suc i) y low = set_here xs i y (omega (arith, low))

  set_other : (xs : List A) (i p : ℕ) (y : A) → (p ≡ i → ⊥) → slice_get (set xs i y) p ≡ slice_get xs p
  set_other [] i p y apart = refl
  set_other (x ∷ xs) zero zero y apart = absurd (apart refl)
  set_other (x ∷ xs) zero (suc p) y apart = refl
  set_other (x ∷ xs) (suc i) zero y apart = refl
  set_other (x ∷ xs) (suc i) (suc p) y apart = set_other xs i p y (λ e. apart (ap suc e))

-- what a chain adds before an end
before_none : (c : Chain) (end p : ℕ) → end ≤ p → added_before c end p ≡ []
before_none c end p past = ap (λ b. if b then added_by p c ∷ [] else []) (let e : (nat_le c.start p && nat_lt p end) ≡ false = grind (arith, nat_tests) in e)

before_one : (c : Chain) (end p : ℕ) → c.start ≤ p → p < end → added_before c end p ≡ added_by p c ∷ []
before_one c end p from low = ap (λ b. if b then added_by p c ∷ [] else []) (let e : (nat_le c.start p && nat_lt p end) ≡ true = grind (arith, nat_tests) in e)

before_same : (c : Chain) (k p : ℕ) → (p ≡ k → ⊥) → added_before c (k + 1) p ≡ added_before c k p
before_same c k p apart =
    ap (λ b. if nat_le c.start p && b then added_by p c ∷ [] else [])
    (elim (cases_lt p k) [
      | inl less ↦ (let e : nat_lt p (k + 1) ≡ nat_lt p k = grind (arith, nat_tests) in e)
      | inr more ↦ (let far : k < p = apart_more k p more apart in let e : nat_lt p (k + 1) ≡ nat_lt p k = grind (arith, nat_tests) in e)
    ])
  where
    apart_more : (k p : ℕ) → k ≤ p → (p ≡ k → ⊥) → k < p
    apart_more k p more apart = elim (cases_lt k p) [ inl less ↦ less | inr least ↦ absurd (apart (omega (arith, more, least))) ]

module _ (c : Chain) (k : ℕ) (old mid : List (List WordTree)) (row : List WordTree) (from : c.start ≤ k) (low : k < length mid) (at_k : slice_get mid k ≡ Some row) (has : HasAdded c k old mid) where
  abbrev next : List (List WordTree)
  next = set mid k (row ++ added_by k c ∷ [])

  next_here : (words : List WordTree) → slice_get old k ≡ Some words → slice_get next k ≡ Some (words ++ added_before c (k + 1) k)
  next_here words at =
      let before : row ≡ words = same_Some row (words ++ added_before c k k) (sym at_k ∙ has.each k words at) ∙ ap (λ more. words ++ more) (before_none c k k (omega arith)) ∙ append-nil words in
      set_here mid k (row ++ added_by k c ∷ []) low ∙ ap (λ r. Some (r ++ added_by k c ∷ [])) before
      ∙ ap (λ more. Some (words ++ more)) (sym (before_one c (k + 1) k from (omega arith)))

  next_other : (p : ℕ) (words : List WordTree) → (p ≡ k → ⊥) → slice_get old p ≡ Some words → slice_get next p ≡ Some (words ++ added_before c (k + 1) p)
  next_other p words apart at =
      set_other mid k p (row ++ added_by k c ∷ []) apart ∙ has.each p words at ∙ ap (λ more. Some (words ++ more)) (sym (before_same c k p apart))

  pub one_added : HasAdded c (k + 1) old next
  one_added = record {
    same_length = length-set mid k (row ++ added_by k c ∷ []) ∙ has.same_length;
    each = λ p words at. elim (cases_lt p k) [
      | inl less ↦ next_other p words (λ e. omega (arith, less, e)) at
      | inr more ↦ elim (cases_lt k p) [
        | inl less ↦ next_other p words (λ e. omega (arith, less, e)) at
        | inr least ↦
            let same : p ≡ k = omega (arith, more, least) in
            subst (λ n. slice_get next n ≡ Some (words ++ added_before c (k + 1) n)) (sym same) (next_here words (ap (slice_get old) (sym same) ∙ at))
      ]
    ];
  }

-- one chain more
added_push : (cs : List Chain) (c : Chain) (p : ℕ) → added_at (cs ++ c ∷ []) p ≡ added_at cs p ++ added_before c (c.start + c.count) p
added_push cs c p =
    ap (map (added_by p)) (filter-append (covers p) cs (c ∷ [])) ∙ map-append (added_by p) (filter (covers p) cs) (filter (covers p) (c ∷ []))
    ∙ ap (λ more. added_at cs p ++ more) (one (covers p c))
  where
    one : (b : Bool) → map (added_by p) (if b then c ∷ [] else []) ≡ (if b then added_by p c ∷ [] else [])
    one true = refl
    one false = refl

pub chain_added : (chains : List Chain) (i count : ℕ) (c d : Chain) (old new : List (List WordTree)) → i < length chains → c ≡ get_or chains i d → AreAddedTo (take i chains) count old
    → HasAdded c (c.start + c.count) old new → AreAddedTo (take (i + 1) chains) count new
chain_added chains i count c d old new low is before has = record {
  all = has.same_length ∙ before.all;
  each = λ p within. (
      let lists : take (i + 1) chains ≡ take i chains ++ c ∷ [] = take_more chains i d low ∙ ap (λ x. take i chains ++ x ∷ []) (sym is) in
      has.each p (added_at (take i chains) p) (before.each p within) ∙ ap Some (sym (added_push (take i chains) c p)) ∙ ap (λ cs. Some (added_at cs p)) (sym lists)
      );
}

-- a row of a vector of vectors
abbrev pub items_of : Vec WordTree → List WordTree
items_of v = v.items

pub row_added : (c : Chain) (k : ℕ) (old mid : List (Vec WordTree)) (v w : Vec WordTree) (x : WordTree) → c.start ≤ k → k < c.start + c.count → LiesWithin (length old) c → v ≡ get_or mid k v
    → w.items ≡ v.items ++ x ∷ [] → x ≡ added_by k c → HasAdded c k (rows old) (rows mid) → HasAdded c (k + 1) (rows old) (rows (set mid k w))
row_added c k old mid v w x from ends lies is pushed made has =
    let before = has.same_length in
    let low : k < length mid = omega (arith, ends, lies, before, length-map old items_of, length-map mid items_of) in
    let here : slice_get (rows mid) k ≡ Some v.items = slice_get-map items_of mid k ∙ ap (option_map items_of) (slice_get-get_or mid k v low ∙ ap Some (sym is)) in
    let row : w.items ≡ v.items ++ added_by k c ∷ [] = pushed ∙ ap (λ y. v.items ++ y ∷ []) made in
    subst (λ r. HasAdded c (k + 1) (rows old) r) (sym (map-set items_of mid k w ∙ ap (λ r. set (rows mid) k r) row))
    (one_added c k (rows old) (rows mid) v.items from (omega (arith, low, length-map mid items_of)) here has)

-- one empty row more
module _ {A : Type 0} where
  push_front : (xs : List A) (y : A) (p : ℕ) → p < length xs → slice_get (xs ++ y ∷ []) p ≡ slice_get xs p
  push_front [] y p low = absurd (omega (arith, low))
  push_front (x ∷ xs) y zero low = refl
  push_front (x ∷ xs) y (suc p) low = push_front xs y p (omega (arith, low))

  push_last : (xs : List A) (y : A) (p : ℕ) → p ≡ length xs → slice_get (xs ++ y ∷ []) p ≡ Some y
  push_last [] y zero is = refl
  push_last [] y (suc p) is = absurd (omega (arith, is))
  push_last (x ∷ xs) y zero is = absurd (omega (arith, is))
  push_last (x ∷ xs) y (suc p) is = push_last xs y p (omega (arith, is))

pub empty_more : (n : ℕ) (old new : List (Vec WordTree)) (v : Vec WordTree) → new ≡ old ++ v ∷ [] → v.items ≡ [] → AreAddedTo [] n (rows old) → AreAddedTo [] (n + 1) (rows new)
empty_more n old new v pushed none has =
    let lists : rows new ≡ rows old ++ [] ∷ [] = ap rows pushed ∙ map-append items_of old (v ∷ []) ∙ ap (λ r. rows old ++ r ∷ []) none in
    let long = has.all in
    record {
      all = ap length lists ∙ (let e : length (rows old ++ [] ∷ []) ≡ n + 1 = omega (arith, long, length-append (rows old) ([] ∷ [])) in e);
      each = λ p low. ap (λ l. slice_get l p) lists ∙ elim (cases_lt p n) [
        | inl less ↦ push_front (rows old) [] p (omega (arith, less, long)) ∙ has.each p less
        | inr more ↦ push_last (rows old) [] p (omega (arith, low, more, long))
      ];
    }
