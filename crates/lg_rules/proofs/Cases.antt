-- The cases of the rules: none where a rule holds, and the least of those that are left.
use Rattle.std.proofs.Common.{◌≡◌, ◌≢◌, ℕ, ◌<◌, Bool, true, false, List, [], ◌∷◌, Some, refl, sym, ◌∙◌, subst, inl, inr, ◌⊎◌, ◌↔◌, Less, arith}
use Rattle.std.specs.Prelude.{slice_get}
use Rattle.std.specs.Ordering.{nat_cmp}
use Rattle.std.specs.Cmp.Lexicographic.{slice_cmp}
use Rattle.std.specs.List.Sorted.{IsStrictlySortedBy}
use Rattle.std.specs.Cmp.{IsTotalOrder}
use Rattle.std.proofs.lemmas.Bool.{cases_lt}
use Rattle.std.proofs.lemmas.Cmp.{tied_itself}
use Rattle.std.proofs.lemmas.Map.Keys.{Less-from_sorted}
use Rattle.std.proofs.lemmas.Option.{slice_get_within, get_or_from_slice_get}
use Rattle.lg_gram.specs.Linkages.{Linkage, link_cmp}
use Rattle.lg_gram.specs.Rules.{IsMatched, IsSatisfied, IsPlanar, IsExclusive, IsOrdered, IsConnected, IsLinked, HasLink, rights_of, lefts_of}
use Rattle.lg_gram.specs.Walks.{LinkFrom}
use Rattle.lg_gram.specs.declared.linkage.Link.{Link}
use Rattle.lg_rules.specs.Least.{IsLeast, IsLeastPair, IsLeastPlace}
use Rattle.lg_rules.specs.Verdicts.{Case, IsVerdict, IsSound, UnmatchedAt, UnsatisfiedAt, CrossingAt, ApartAt, TwiceAt, OrderAt, side_number, verdict_key, verdict_cmp}
use Rattle.lg_rules.specs.declared.verdict.Verdict.{Verdict}
use Rattle.lg_rules.specs.declared.verdict.Verdict.TheVariants.{Good, Unmatched, Unsatisfied, Crossing, Apart, Twice, Order}
use Rattle.lg_rules.proofs.Keys.{less_key}
use Rattle.lg_rules.proofs.Counts.{served_once}
use Rattle.lg_rules.proofs.Pairs.{listed}

-- ---- where a rule holds, it has no case

matched_none : (g : Linkage) → IsMatched (rights_of g) (lefts_of g) (HasLink g) → (n : ℕ) → UnmatchedAt g n → ⊥
matched_none g h n case = case.2 (h.joins case.0 (listed g.links n case.0 case.1))

satisfied_none : (g : Linkage) → IsSatisfied (rights_of g) (lefts_of g) (HasLink g) → (i : ℕ) (right : Bool) (p : ℕ) → UnsatisfiedAt g i right p → ⊥
satisfied_none g h i true p case = served_once g.links i true p case.0 (h.on_right i p case.0 case.1) case.2
satisfied_none g h i false p case = served_once g.links i false p case.0 (h.on_left i p case.0 case.1) case.2

planar_none : (g : Linkage) → IsPlanar (HasLink g) → (m n : ℕ) → CrossingAt g m n → ⊥
planar_none g h m n case = h case.0 case.1 (listed g.links m case.0 case.2) (listed g.links n case.1 case.3) case.4 case.5 case.6

connected_none : (g : Linkage) → IsConnected (IsLinked g) (LinkFrom (HasLink g)) → (i : ℕ) → ApartAt g i → ⊥
connected_none g h i case = case.1.2 (h case.1.0 i case.1.1.linked case.0)

earlier_other : IsTotalOrder link_cmp → (links : List Link) (m n : ℕ) (k : Link) → IsStrictlySortedBy link_cmp links → slice_get links m ≡ Some k → slice_get links n ≡ Some k → m < n → ⊥
earlier_other total links m n k rise at_m at_n less =
    let within = slice_get_within links n k at_n in
    let e = get_or_from_slice_get links m k k at_m in
    let f = get_or_from_slice_get links n k k at_n in
    let before = Less-from_sorted link_cmp links m n k rise less within in
    let tied = tied_itself total k in
    let same : link_cmp k k ≡ Less = rw (e, f) at before in
    cc

-- a rising list has a link at one number only
one_number : IsTotalOrder link_cmp → (links : List Link) (m n : ℕ) (k : Link) → IsStrictlySortedBy link_cmp links → slice_get links m ≡ Some k → slice_get links n ≡ Some k → m ≡ n
one_number total links m n k rise at_m at_n =
    elim (cases_lt m n) [
      | inl less ↦ absurd (earlier_other total links m n k rise at_m at_n less)
      | inr more ↦ elim (cases_lt n m) [ inl less ↦ absurd (earlier_other total links n m k rise at_n at_m less) | inr same ↦ omega arith ]
    ]

exclusive_none : IsTotalOrder link_cmp → (g : Linkage) → IsStrictlySortedBy link_cmp g.links → IsExclusive (HasLink g) → (m n : ℕ) → TwiceAt g m n → ⊥
exclusive_none total g rise h m n case =
    let same : case.0 ≡ case.1 = h case.0 case.1 (listed g.links m case.0 case.2) (listed g.links n case.1 case.3) case.5 case.6 in
    case.4 (one_number total g.links m n case.1 rise (subst (λ z. slice_get g.links m ≡ Some z) same case.2) case.3)

ordered_none : (g : Linkage) → ((l : Link) → HasLink g l → l.left < l.right) → IsOrdered (HasLink g) → (i : ℕ) (right : Bool) (p : ℕ) → OrderAt g i right p → ⊥
ordered_none g forward h i true p case =
    let k = case.0 in
    let l = case.1 in
    let same : k.left ≡ l.left = case.4.0 ∙ sym case.5 in
    let later : k.lplace < l.lplace = subst (λ z. z < l.lplace) (sym case.4.1) case.6 in
    let nearer : k.right < l.right = h.on_right k l case.2 case.3 same later in
    let longer = case.7 in
    let ahead = forward l case.3 in
    omega arith
ordered_none g forward h i false p case =
    let k = case.0 in
    let l = case.1 in
    let same : k.right ≡ l.right = case.4.0 ∙ sym case.5 in
    let later : k.rplace < l.rplace = subst (λ z. z < l.rplace) (sym case.4.1) case.6 in
    let nearer : l.left < k.left = h.on_left k l case.2 case.3 same later in
    let longer = case.7 in
    let ahead = forward k case.2 in
    omega arith

-- where all rules hold there is no case
pub sound_none : IsTotalOrder link_cmp → (g : Linkage) → IsStrictlySortedBy link_cmp g.links → IsSound g → (v : Verdict) → Case g v → ⊥
sound_none total g rise h Good case = case
sound_none total g rise h (Unmatched n) case = matched_none g h.rules.matched n case
sound_none total g rise h (Unsatisfied i right p) case = satisfied_none g h.rules.satisfied i right p case
sound_none total g rise h (Crossing m n) case = planar_none g h.rules.planar m n case
sound_none total g rise h (Apart i) case = connected_none g h.connected i case
sound_none total g rise h (Twice m n) case = exclusive_none total g rise h.rules.exclusive m n case
sound_none total g rise h (Order i right p) case = ordered_none g h.rules.matched.forward h.rules.ordered i right p case

-- a linkage with a case is not sound
pub case_unsound : IsTotalOrder link_cmp → (g : Linkage) → IsStrictlySortedBy link_cmp g.links → (v : Verdict) → Case g v → (v ≡ Good) ↔ IsSound g
case_unsound total g rise v case = (λ e. absurd (subst (λ z. Case g z) e case), λ sound. absurd (sound_none total g rise sound v case))

-- ---- no case of the rules before one

-- the number of the rule that a verdict names
abbrev rule_of : Verdict → ℕ
rule_of Good = 0
rule_of (Unmatched n) = 1
rule_of (Unsatisfied i right p) = 2
rule_of (Crossing m n) = 3
rule_of (Apart i) = 4
rule_of (Twice m n) = 5
rule_of (Order i right p) = 6

-- the rules with a number below r have no case
abbrev HasNoneBefore : Linkage → ℕ → Type 0
HasNoneBefore g r = (w : Verdict) → Case g w → rule_of w < r → ⊥

none_before_matching : (g : Linkage) → HasNoneBefore g 1
none_before_matching g Good case less = case
none_before_matching g w case less = omega arith

none_before_satisfaction : (g : Linkage) → IsMatched (rights_of g) (lefts_of g) (HasLink g) → HasNoneBefore g 2
none_before_satisfaction g matched (Unmatched n) case less = matched_none g matched n case
none_before_satisfaction g matched w case less = none_before_matching g w case (omega arith)

-- each rule in turn, with the rules that hold before it
module _ (g : Linkage) (matched : IsMatched (rights_of g) (lefts_of g) (HasLink g)) (satisfied : IsSatisfied (rights_of g) (lefts_of g) (HasLink g)) where
  none_before_planarity : HasNoneBefore g 3
  none_before_planarity (Unsatisfied i right p) case less = satisfied_none g satisfied i right p case
  none_before_planarity w case less = none_before_satisfaction g matched w case (omega arith)

  module _ (planar : IsPlanar (HasLink g)) where
    none_before_connectivity : HasNoneBefore g 4
    none_before_connectivity (Crossing m n) case less = planar_none g planar m n case
    none_before_connectivity w case less = none_before_planarity w case (omega arith)

    module _ (connected : IsConnected (IsLinked g) (LinkFrom (HasLink g))) where
      none_before_exclusion : HasNoneBefore g 5
      none_before_exclusion (Apart i) case less = connected_none g connected i case
      none_before_exclusion w case less = none_before_connectivity w case (omega arith)

      none_before_ordering : IsTotalOrder link_cmp → IsStrictlySortedBy link_cmp g.links → IsExclusive (HasLink g) → HasNoneBefore g 6
      none_before_ordering total rise exclusive (Twice m n) case less = exclusive_none total g rise exclusive m n case
      none_before_ordering total rise exclusive w case less = none_before_exclusion w case (omega arith)

-- ---- the least of the cases of one rule

one_least : (P : ℕ → Type 0) (r n k : ℕ) → IsLeast P n → P k → slice_cmp nat_cmp (r ∷ k ∷ []) (r ∷ n ∷ []) ≡ Less → ⊥
one_least P r n k h case e =
    elim (less_key r r (k ∷ []) (n ∷ []) e) [
      | inl less ↦ omega arith
      | inr a ↦ elim (less_key k n [] [] a.1) [ inl less ↦ h.earlier k less case | inr b ↦ (let c = b.1 in cc) ]
    ]

pair_least : (P : ℕ → ℕ → Type 0) (r m n a b : ℕ) → IsLeastPair P m n → P a b → slice_cmp nat_cmp (r ∷ a ∷ b ∷ []) (r ∷ m ∷ n ∷ []) ≡ Less → ⊥
pair_least P r m n a b h case e =
    elim (less_key r r (a ∷ b ∷ []) (m ∷ n ∷ []) e) [
      | inl less ↦ omega arith
      | inr x ↦ elim (less_key a m (b ∷ []) (n ∷ []) x.1) [
        | inl less ↦ h.first a b less case
        | inr y ↦ elim (less_key b n [] [] y.1) [
          | inl less ↦ h.second b less (subst (λ z. P z b) y.0 case)
          | inr z ↦ (let c = z.1 in cc)
        ]
      ]
    ]

-- of two sides the left is first
side_cases : (s right : Bool) (xs ys : List ℕ) → slice_cmp nat_cmp (side_number s ∷ xs) (side_number right ∷ ys) ≡ Less →
    ((right ≡ true) × (s ≡ false)) ⊎ ((s ≡ right) × (slice_cmp nat_cmp xs ys ≡ Less))
side_cases false false xs ys e = inr (refl, e)
side_cases false true xs ys e = inl (refl, refl)
side_cases true false xs ys e = absurd cc
side_cases true true xs ys e = inr (refl, e)

place_least : (P : ℕ → Bool → ℕ → Type 0) (r i : ℕ) (right : Bool) (p j : ℕ) (s : Bool) (q : ℕ) → IsLeastPlace P i right p → P j s q →
    slice_cmp nat_cmp (r ∷ j ∷ side_number s ∷ q ∷ []) (r ∷ i ∷ side_number right ∷ p ∷ []) ≡ Less → ⊥
place_least P r i right p j s q h case e =
    elim (less_key r r (j ∷ side_number s ∷ q ∷ []) (i ∷ side_number right ∷ p ∷ []) e) [
      | inl less ↦ omega arith
      | inr x ↦ elim (less_key j i (side_number s ∷ q ∷ []) (side_number right ∷ p ∷ []) x.1) [
        | inl less ↦ h.positions j less s q case
        | inr y ↦
            let here : P i s q = subst (λ z. P z s q) y.0 case in
            elim (side_cases s right (q ∷ []) (p ∷ []) y.1) [
              | inl side ↦ h.here.left side.0 q (subst (λ z. P i z q) side.1 here)
              | inr side ↦ elim (less_key q p [] [] side.1) [
                | inl less ↦ h.here.places q less (subst (λ z. P i z q) side.0 here)
                | inr z ↦ (let c = z.1 in cc)
              ]
            ]
      ]
    ]

-- ---- the least of all cases

-- a case of another rule is not before one of rule r
other_rule : (g : Linkage) (r : ℕ) (ys : List ℕ) → HasNoneBefore g r → (w : Verdict) → Case g w → (rule_of w ≡ r → ⊥) → slice_cmp nat_cmp (verdict_key w) (r ∷ ys) ≡ Less → ⊥
other_rule g r ys before Good case other e = case
other_rule g r ys before (Unmatched n) case other e = elim (less_key 1 r (n ∷ []) ys e) [ inl less ↦ before (Unmatched n) case less | inr a ↦ other a.0 ]
other_rule g r ys before (Unsatisfied i right p) case other e = elim (less_key 2 r (i ∷ side_number right ∷ p ∷ []) ys e) [ inl less ↦ before (Unsatisfied i right p) case less | inr a ↦ other a.0 ]
other_rule g r ys before (Crossing m n) case other e = elim (less_key 3 r (m ∷ n ∷ []) ys e) [ inl less ↦ before (Crossing m n) case less | inr a ↦ other a.0 ]
other_rule g r ys before (Apart i) case other e = elim (less_key 4 r (i ∷ []) ys e) [ inl less ↦ before (Apart i) case less | inr a ↦ other a.0 ]
other_rule g r ys before (Twice m n) case other e = elim (less_key 5 r (m ∷ n ∷ []) ys e) [ inl less ↦ before (Twice m n) case less | inr a ↦ other a.0 ]
other_rule g r ys before (Order i right p) case other e = elim (less_key 6 r (i ∷ side_number right ∷ p ∷ []) ys e) [ inl less ↦ before (Order i right p) case less | inr a ↦ other a.0 ]

unmatched_first : (g : Linkage) (n : ℕ) → HasNoneBefore g 1 → IsLeast (UnmatchedAt g) n → (w : Verdict) → Case g w → verdict_cmp w (Unmatched n) ≢ Less
unmatched_first g n before h (Unmatched k) case e = one_least (UnmatchedAt g) 1 n k h case e
unmatched_first g n before h w case e = other_rule g 1 (n ∷ []) before w case (λ a. omega arith) e

unsatisfied_first : (g : Linkage) (i : ℕ) (right : Bool) (p : ℕ) → HasNoneBefore g 2 → IsLeastPlace (UnsatisfiedAt g) i right p → (w : Verdict) → Case g w → verdict_cmp w (Unsatisfied i right p) ≢ Less
unsatisfied_first g i right p before h (Unsatisfied j s q) case e = place_least (UnsatisfiedAt g) 2 i right p j s q h case e
unsatisfied_first g i right p before h w case e = other_rule g 2 (i ∷ side_number right ∷ p ∷ []) before w case (λ a. omega arith) e

crossing_first : (g : Linkage) (m n : ℕ) → HasNoneBefore g 3 → IsLeastPair (CrossingAt g) m n → (w : Verdict) → Case g w → verdict_cmp w (Crossing m n) ≢ Less
crossing_first g m n before h (Crossing a b) case e = pair_least (CrossingAt g) 3 m n a b h case e
crossing_first g m n before h w case e = other_rule g 3 (m ∷ n ∷ []) before w case (λ a. omega arith) e

apart_first : (g : Linkage) (i : ℕ) → HasNoneBefore g 4 → IsLeast (ApartAt g) i → (w : Verdict) → Case g w → verdict_cmp w (Apart i) ≢ Less
apart_first g i before h (Apart k) case e = one_least (ApartAt g) 4 i k h case e
apart_first g i before h w case e = other_rule g 4 (i ∷ []) before w case (λ a. omega arith) e

twice_first : (g : Linkage) (m n : ℕ) → HasNoneBefore g 5 → IsLeastPair (TwiceAt g) m n → (w : Verdict) → Case g w → verdict_cmp w (Twice m n) ≢ Less
twice_first g m n before h (Twice a b) case e = pair_least (TwiceAt g) 5 m n a b h case e
twice_first g m n before h w case e = other_rule g 5 (m ∷ n ∷ []) before w case (λ a. omega arith) e

order_first : (g : Linkage) (i : ℕ) (right : Bool) (p : ℕ) → HasNoneBefore g 6 → IsLeastPlace (OrderAt g) i right p → (w : Verdict) → Case g w → verdict_cmp w (Order i right p) ≢ Less
order_first g i right p before h (Order j s q) case e = place_least (OrderAt g) 6 i right p j s q h case e
order_first g i right p before h w case e = other_rule g 6 (i ∷ side_number right ∷ p ∷ []) before w case (λ a. omega arith) e

-- the verdict of each rule's least case, where the rules before it hold
pub unmatched_verdict : (g : Linkage) (n : ℕ) → IsLeast (UnmatchedAt g) n → IsVerdict g (Unmatched n)
unmatched_verdict g n h = record { is_case = h.here; least = unmatched_first g n (none_before_matching g) h }

pub unsatisfied_verdict : (g : Linkage) (i : ℕ) (right : Bool) (p : ℕ) → IsLeastPlace (UnsatisfiedAt g) i right p →
    IsMatched (rights_of g) (lefts_of g) (HasLink g) → IsVerdict g (Unsatisfied i right p)
unsatisfied_verdict g i right p h matched =
    record { is_case = h.here.here; least = unsatisfied_first g i right p (none_before_satisfaction g matched) h }

pub crossing_verdict : (g : Linkage) (m n : ℕ) → IsLeastPair (CrossingAt g) m n →
    IsMatched (rights_of g) (lefts_of g) (HasLink g) → IsSatisfied (rights_of g) (lefts_of g) (HasLink g) → IsVerdict g (Crossing m n)
crossing_verdict g m n h matched satisfied =
    record { is_case = h.here; least = crossing_first g m n (none_before_planarity g matched satisfied) h }

pub apart_verdict : (g : Linkage) (i : ℕ) → IsLeast (ApartAt g) i →
    IsMatched (rights_of g) (lefts_of g) (HasLink g) → IsSatisfied (rights_of g) (lefts_of g) (HasLink g) → IsPlanar (HasLink g) → IsVerdict g (Apart i)
apart_verdict g i h matched satisfied planar =
    record { is_case = h.here; least = apart_first g i (none_before_connectivity g matched satisfied planar) h }

pub twice_verdict : (g : Linkage) (m n : ℕ) → IsLeastPair (TwiceAt g) m n →
    IsMatched (rights_of g) (lefts_of g) (HasLink g) → IsSatisfied (rights_of g) (lefts_of g) (HasLink g) → IsPlanar (HasLink g) →
    IsConnected (IsLinked g) (LinkFrom (HasLink g)) → IsVerdict g (Twice m n)
twice_verdict g m n h matched satisfied planar connected =
    record { is_case = h.here; least = twice_first g m n (none_before_exclusion g matched satisfied planar connected) h }

pub order_verdict : (g : Linkage) (i : ℕ) (right : Bool) (p : ℕ) → IsLeastPlace (OrderAt g) i right p →
    IsMatched (rights_of g) (lefts_of g) (HasLink g) → IsSatisfied (rights_of g) (lefts_of g) (HasLink g) → IsPlanar (HasLink g) →
    IsConnected (IsLinked g) (LinkFrom (HasLink g)) → IsTotalOrder link_cmp → IsStrictlySortedBy link_cmp g.links → IsExclusive (HasLink g) → IsVerdict g (Order i right p)
order_verdict g i right p h matched satisfied planar connected total rise exclusive =
    record { is_case = h.here.here; least = order_first g i right p (none_before_ordering g matched satisfied planar connected total rise exclusive) h }
