-- The least number that an equivalence joins to each number, and the classes of that equivalence.
use Rattle.std.proofs.Common.{◌≡◌, ◌≢◌, ℕ, ◌<◌, ◌≤◌, List, [], length, get_or, map, ◌↔◌, inl, inr, sym, subst, ◌∙◌, All, Contains, arith}
use Rattle.std.specs.Prelude.{Any}
use Rattle.std.specs.Ordering.{nat_cmp, on}
use Rattle.std.specs.List.Sorted.{IsStrictlySortedBy}
use Rattle.std.proofs.lemmas.Bool.{cases_lt}
use Rattle.std.proofs.lemmas.List.{get_or-map, length-map, same_lists, get_or_default}
use Rattle.std.proofs.lemmas.List.Elements.{Contains-get_or}
use Rattle.std.proofs.lemmas.Map.Keys.{below_from_sorted}
use Rattle.std.proofs.lemmas.Option.{slice_get-get_or}
use Rattle.lg_pp.specs.Steps.{AreClasses, AreLeasts, AreMembers}
use Rattle.lg_pp.proofs.Rising.{rise_on}
use Rattle.lg_pp.proofs.Zipped.{zip_at, zip_length}

-- the first of a list that rises is its least
first_least : (xs : List ℕ) (h : ℕ) → IsStrictlySortedBy nat_cmp xs → Contains xs h → ((k : ℕ) → Contains xs k → h ≤ k) → get_or xs 0 0 ≡ h
first_least xs h rise has least = elim (cases_lt 0 has.0) [
  | inl later ↦
      let first = Contains-get_or xs 0 0 (omega (arith, has.1)) in
      let e : get_or xs has.0 0 ≡ h = get_or_default xs has.0 0 h has.1 ∙ has.2 in
      absurd (omega (arith, below_from_sorted xs 0 has.0 0 rise later has.1, least (get_or xs 0 0) first))
  | inr first ↦
      let at : has.0 ≡ 0 = omega arith in
      let e : get_or xs has.0 0 ≡ h = get_or_default xs has.0 0 h has.1 ∙ has.2 in
      rw at at e
]

module _ (R : ℕ → ℕ → Type 0) (count : ℕ) (leasts : List ℕ) (are : AreLeasts R count leasts) (itself : (n : ℕ) → R n n) (turned : (m n : ℕ) → R m n → R n m) (through : (k m n : ℕ) → R k m → R m n → R k n) where
  abbrev least : ℕ → ℕ
  least n = get_or leasts n 0

  pub least_below : (n : ℕ) → n < count → least n ≤ n
  least_below n less = elim (cases_lt n (least n)) [ inl more ↦ absurd ((are.each n less).earlier n more (itself n)) | inr within ↦ within ]

  joined_from : (m n : ℕ) → m < count → n < count → least m ≡ least n → R m n
  joined_from m n below_m below_n same =
      let to_m = (are.each m below_m).joined in
      let to_n = (are.each n below_n).joined in
      through m (least m) n (turned (least m) m to_m) (subst (λ k. R k n) (sym same) to_n)

  not_less : (m n : ℕ) → m < count → n < count → R m n → least m < least n → ⊥
  not_less m n below_m below_n joined less = (are.each n below_n).earlier (least m) less (through (least m) m n (are.each m below_m).joined joined)

  joined_to : (m n : ℕ) → m < count → n < count → R m n → least m ≡ least n
  joined_to m n below_m below_n joined = elim (cases_lt (least m) (least n)) [
    | inl less ↦ absurd (not_less m n below_m below_n joined less)
    | inr rest ↦ elim (cases_lt (least n) (least m)) [
      | inl less ↦ absurd (not_less n m below_n below_m (turned m n joined) less)
      | inr same ↦ omega (arith, rest, same)
    ]
  ]

  -- two numbers have one least number exactly where they are joined
  pub leasts_tell : (m n : ℕ) → m < count → n < count → (least m ≡ least n) ↔ R m n
  leasts_tell m n below_m below_n = (joined_from m n below_m below_n, joined_to m n below_m below_n)

  -- a least number is its own
  pub least_itself : (n : ℕ) → n < count → least (least n) ≡ least n
  least_itself n less = joined_to (least n) n (let h = least_below n less in omega arith) less (are.each n less).joined

  module _ (classes : List (List ℕ)) (have : AreClasses leasts count classes) where
    same_count : length classes ≡ length have.heads
    same_count = zip_length (AreMembers leasts) have.heads classes have.members

    pub is_head : (i : ℕ) → i < length classes → (get_or have.heads i 0 < count) × (least (get_or have.heads i 0) ≡ get_or have.heads i 0)
    is_head i less = (have.are_heads.exactly (get_or have.heads i 0)).0 (Contains-get_or have.heads i 0 (let e = same_count in omega arith))

    pub class_at : (i : ℕ) (d : List ℕ) → i < length classes → AreMembers leasts (get_or have.heads i 0) (get_or classes i d)
    class_at i d less = zip_at (AreMembers leasts) have.heads classes i (get_or have.heads i 0) d have.members (slice_get-get_or have.heads i 0 (let e = same_count in omega arith))

    has_head : (i : ℕ) (d : List ℕ) → i < length classes → Contains (get_or classes i d) (get_or have.heads i 0)
    has_head i d less = ((class_at i d less).exactly (get_or have.heads i 0)).1 (let h = is_head i less in let e = are.same_length in (omega (arith, h.0), h.1))

    first_is_head : (i : ℕ) (d : List ℕ) → i < length classes → get_or (get_or classes i d) 0 0 ≡ get_or have.heads i 0
    first_is_head i d less =
        let class = class_at i d less in
        let e = are.same_length in
        first_least (get_or classes i d) (get_or have.heads i 0) class.rise (has_head i d less)
        (λ k has. let h = (class.exactly k).0 has in let below = least_below k (omega (arith, h.0)) in omega (arith, h.1))

    pub classes_some : All (λ class. class ≢ []) classes
    classes_some i d less none =
        let has = subst (λ class. Contains class (get_or have.heads i 0)) none (has_head i d less) in
        absurd (omega (arith, has.1))

    pub classes_rise : All (IsStrictlySortedBy nat_cmp) classes
    classes_rise i d less = (class_at i d less).rise

    firsts : map (λ class. get_or class 0 0) classes ≡ have.heads
    firsts = same_lists (map (λ class. get_or class 0 0) classes) have.heads (rw length-map same_count)
        (λ i d less.
        let within : i < length classes = rw length-map at less in
        get_or-map (λ class. get_or class 0 0) classes i [] d within ∙ first_is_head i [] within ∙ get_or_default have.heads i 0 d (let e = same_count in omega arith))

    pub classes_in_order : IsStrictlySortedBy (on (λ class. get_or class 0 0) nat_cmp) classes
    classes_in_order = rise_on nat_cmp (λ class. get_or class 0 0) classes (rw firsts have.are_heads.rise)

    pub classes_all : (n : ℕ) → n < count → Any (λ class. Contains class n) classes
    classes_all n less =
        let below = least_below n less in
        let at = (have.are_heads.exactly (least n)).1 (omega (arith, below), least_itself n less) in
        let i = at.0 in
        let within : i < length classes = let e = same_count in omega (arith, at.1) in
        let head : get_or have.heads i 0 ≡ least n = get_or_default have.heads i 0 (least n) at.1 ∙ at.2 in
        let e = are.same_length in
        (i, get_or classes i [], within, get_or_default classes i (get_or classes i []) [] within, ((class_at i [] within).exactly n).1 (omega arith, sym head))

    pub classes_exactly : (class : List ℕ) → Contains classes class → (m n : ℕ) → Contains class m → Contains class n ↔ ((m < count) × (n < count) × R m n)
    classes_exactly class at m n has_m =
        let e = are.same_length in
        let is = subst (AreMembers leasts (get_or have.heads at.0 0)) at.2 (class_at at.0 class at.1) in
        let in_m = (is.exactly m).0 has_m in
        let below_m : m < count = omega (arith, in_m.0) in (
          λ has_n. let in_n = (is.exactly n).0 has_n in let below_n : n < count = omega (arith, in_n.0) in (below_m, below_n, joined_from m n below_m below_n (in_m.1 ∙ sym in_n.1)),
          λ h. (is.exactly n).1 (omega (arith, h.1), sym (joined_to m n h.0 h.1 h.2) ∙ in_m.1),
        )
