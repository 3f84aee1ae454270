-- The least numbers of classes, where one more row of flags parts the classes.
use Rattle.std.proofs.Common.{◌≡◌, ◌≢◌, ℕ, ◌<◌, ◌≤◌, ◌+◌, Bool, true, false, List, [], length, get_or, set, take, replicate, ◌↔◌, refl, sym, ◌∙◌, ap, subst, inl, inr, All, min, arith}
use Rattle.std.specs.Bool.{beq}
use Rattle.std.proofs.lemmas.Bool.{cases_lt, cases_eq}
use Rattle.std.proofs.lemmas.List.{take_more, take-take, get_or-replicate, length-replicate, get_or-set_same, get_or-set_other}
use Rattle.std.proofs.lemmas.List.Elements.{All-more, All-take, All-contains, Contains-push}
use Rattle.lg_pp.specs.Steps.{AreAlike, AreHeads, AreLeasts, AreStillAlike, IsLeastOf}
use Rattle.lg_pp.proofs.Grouping.{alike_itself, alike_turned, alike_through}
use Rattle.lg_pp.proofs.Leasts.{least_below, least_itself, leasts_tell}

-- two flags that are both another than a third are one
third_flag : (a b c : Bool) → a ≢ c → b ≢ c → a ≡ b
third_flag true true c p q = refl
third_flag false false c p q = refl
third_flag true false true p q = absurd (p refl)
third_flag true false false p q = absurd (q refl)
third_flag false true true p q = absurd (q refl)
third_flag false true false p q = absurd (p refl)

-- k is of the class of h so far, and has the other flag
abbrev pub IsOther : List ℕ → List Bool → ℕ → ℕ → Type 0
IsOther leasts flags h k = (get_or leasts k 0 ≡ h) × (get_or flags k false ≢ get_or flags h false)

-- the first below n that is such; where there is none, this is no number of the list
pub record IsFirstOther (leasts : List ℕ) (flags : List Bool) (n h o : ℕ) : Type 0 where
  pub least : (k : ℕ) → k < n → IsOther leasts flags h k → o ≤ k
  pub here : o < length leasts → (o < n) × IsOther leasts flags h o

abbrev pub AreFirstOthers : List ℕ → List Bool → ℕ → List ℕ → Type 0
AreFirstOthers leasts flags n others = (h : ℕ) → h < length leasts → IsFirstOther leasts flags n h (get_or others h 0)

pub flags_same : (a b : Bool) → beq a b ≡ true → a ≡ b
flags_same true true h = refl
flags_same true false h = absurd (let no : false ≡ true = h in cc)
flags_same false true h = absurd (let no : false ≡ true = h in cc)
flags_same false false h = refl

pub flags_apart : (a b : Bool) → beq a b ≡ false → a ≢ b
flags_apart true true h = absurd (let no : true ≡ false = h in cc)
flags_apart true false h = λ e. cc
flags_apart false true h = λ e. cc
flags_apart false false h = absurd (let no : true ≡ false = h in cc)

module _ (leasts : List ℕ) (flags : List Bool) (heads : AreHeads leasts) where
  -- the flag of n is that of its least number so far
  pub same_least : (n : ℕ) → n < length leasts → get_or flags n false ≡ get_or flags (get_or leasts n 0) false → IsLeastOf (AreStillAlike leasts flags) n (get_or leasts n 0)
  same_least n within same = record {
    joined = ((heads n within).1, sym same);
    earlier = λ k less alike. let own = (heads n within).0 in let h = (heads k (omega arith)).0 in let e = alike.0 in omega arith;
  }

  -- it is the other one, which o is the first to have
  pub other_least : (n o : ℕ) → o ≤ n → IsOther leasts flags (get_or leasts n 0) n → IsOther leasts flags (get_or leasts n 0) o → ((k : ℕ) → k < n → IsOther leasts flags (get_or leasts n 0) k → o ≤ k) → IsLeastOf (AreStillAlike leasts flags) n o
  other_least n o within here there least = record {
    joined = (there.0, third_flag (get_or flags o false) (get_or flags n false) (get_or flags (get_or leasts n 0) false) there.1 here.1);
    earlier = λ k less alike. let h = least k (omega arith) (alike.0, λ same. here.1 (sym alike.1 ∙ same)) in omega arith;
  }

  -- n has the flag of its least number
  pub others_stay : (n : ℕ) (others : List ℕ) → get_or flags n false ≡ get_or flags (get_or leasts n 0) false → AreFirstOthers leasts flags n others → AreFirstOthers leasts flags (n + 1) others
  others_stay n others same first h within =
      let f = first h within in
      record {
        least = λ k less other. elim (cases_lt k n) [
          | inl earlier ↦ f.least k earlier other
          | inr past ↦ let at : k ≡ n = omega arith in absurd (other.1 (rw at (same ∙ ap (λ z. get_or flags z false) (let e = other.0 in rw at at e))))
        ];
        here = λ below. let g = f.here below in (omega (arith, g.0), g.1);
      }

  -- n has the other flag
  module _ (n : ℕ) (others : List ℕ) (within : n < length leasts) (long : length others ≡ length leasts) (other : get_or flags n false ≢ get_or flags (get_or leasts n 0) false) (first : AreFirstOthers leasts flags n others) where
    abbrev head : ℕ
    head = get_or leasts n 0

    head_within : head < length leasts
    head_within = let h = (heads n within).0 in omega arith

    -- the first other one, with n
    pub first_with : (o : ℕ) → o ≡ min (get_or others head 0) n → (o ≤ n) × IsOther leasts flags head o × ((k : ℕ) → k < n → IsOther leasts flags head k → o ≤ k)
    first_with o is = elim (cases_lt (get_or others head 0) n) [
      | inl before ↦
          let f = first head head_within in
          let same : o ≡ get_or others head 0 = omega arith in
          rw same (omega arith, (f.here (omega arith)).1, f.least)
      | inr past ↦
          let same : o ≡ n = omega arith in
          rw same (omega arith, (refl, other), λ k less has. let h = (first head head_within).least k less has in omega arith)
    ]

    pub others_more : (o : ℕ) → o ≡ min (get_or others head 0) n → AreFirstOthers leasts flags (n + 1) (set others head o)
    others_more o is h below = elim (cases_eq h head) [
      | inl same ↦
          let w = first_with o is in
          rw (same, get_or-set_same others head o 0 (let e = head_within in omega arith)) (record {
            least = λ k less has. elim (cases_lt k n) [ inl earlier ↦ w.2 k earlier has | inr late ↦ let e = w.0 in omega arith ];
            here = λ in_list. (let e = w.0 in omega arith, w.1);
          })
      | inr apart ↦
          let f = first h below in
          rw (get_or-set_other others head h o 0 apart) (record {
            least = λ k less has. elim (cases_lt k n) [
              | inl earlier ↦ f.least k earlier has
              | inr late ↦ let at : k ≡ n = omega arith in absurd (apart (let e = has.0 in rw at at (sym e)))
            ];
            here = λ in_list. let g = f.here in_list in (omega (arith, g.0), g.1);
          })
    ]

    pub least_with : (o : ℕ) → o ≡ min (get_or others head 0) n → IsLeastOf (AreStillAlike leasts flags) n o
    least_with o is = let w = first_with o is in other_least n o w.0 (refl, other) w.1 w.2

-- the least numbers under a relation that says the same of these numbers
leasts_along : (R S : ℕ → ℕ → Type 0) (count : ℕ) (leasts : List ℕ) → ((n : ℕ) → R n n) → ((m n : ℕ) → m < count → n < count → R m n ↔ S m n) → AreLeasts R count leasts → AreLeasts S count leasts
leasts_along R S count leasts itself same are = record {
  same_length = are.same_length;
  each = λ n less.
      let own = are.each n less in
      let below : get_or leasts n 0 ≤ n = elim (cases_lt n (get_or leasts n 0)) [ inl more ↦ absurd (own.earlier n more (itself n)) | inr within ↦ within ] in
      record {
        joined = (same (get_or leasts n 0) n (omega arith) less).0 own.joined;
        earlier = λ k before s. own.earlier k before ((same k n (omega arith) less).1 s);
      };
}

-- with no rows all links are alike
pub leasts_none : (rows : List (List Bool)) (count : ℕ) → AreLeasts (AreAlike (take 0 rows)) count (replicate count 0)
leasts_none rows count = record {
  same_length = length-replicate count 0;
  each = λ n less. rw (get_or-replicate {A = ℕ} count n 0 0 less) (record { joined = λ k d below. absurd (omega arith); earlier = λ k below alike. omega arith });
}

-- a turn of the loop over rows
module _ (rows : List (List Bool)) (i : ℕ) (row : List Bool) (less : i < length rows) (here : row ≡ get_or rows i row) (count : ℕ) (leasts : List ℕ) (are : AreLeasts (AreAlike (take i rows)) count leasts) where
  abbrev so_far : List (List Bool)
  so_far = take i rows

  pub are_heads : AreHeads leasts
  are_heads n within =
      let below : n < count = let e = are.same_length in omega arith in (
        least_below (AreAlike so_far) count leasts are (alike_itself so_far) (alike_turned so_far) (alike_through so_far) n below,
        least_itself (AreAlike so_far) count leasts are (alike_itself so_far) (alike_turned so_far) (alike_through so_far) n below,
      )

  alike_more : (m n : ℕ) → m < count → n < count → AreStillAlike leasts row m n ↔ AreAlike (take (i + 1) rows) m n
  alike_more m n below_m below_n =
      let P : List Bool → Type 0 = λ r. get_or r m false ≡ get_or r n false in
      let tell = leasts_tell (AreAlike so_far) count leasts are (alike_itself so_far) (alike_turned so_far) (alike_through so_far) m n below_m below_n in (
        λ h. All-more P rows i row less (tell.0 h.0) (subst P here h.1),
        λ h. (
          tell.1 (let t : All P (take i (take (i + 1) rows)) = All-take P i (take (i + 1) rows) h in rw (take-take i (i + 1) rows (omega arith)) at t),
          All-contains P (take (i + 1) rows) row h (rw (take_more rows i row less, ← here) (Contains-push (take i rows) row)),
        ),
      )

  pub leasts_more : (parts : List ℕ) → AreLeasts (AreStillAlike leasts row) (length leasts) parts → AreLeasts (AreAlike (take (i + 1) rows)) count parts
  leasts_more parts of =
      leasts_along (AreStillAlike leasts row) (AreAlike (take (i + 1) rows)) count parts (λ n. (refl, refl)) alike_more
      (subst (λ n. AreLeasts (AreStillAlike leasts row) n parts) are.same_length of)

  -- a row without flags parts none
  pub leasts_stay : row ≡ [] → AreLeasts (AreAlike (take (i + 1) rows)) count leasts
  leasts_stay none = leasts_along (AreAlike so_far) (AreAlike (take (i + 1) rows)) count leasts (alike_itself so_far) same are where
    same : (m n : ℕ) → m < count → n < count → AreAlike so_far m n ↔ AreAlike (take (i + 1) rows) m n
    same m n below_m below_n =
        let P : List Bool → Type 0 = λ r. get_or r m false ≡ get_or r n false in (
          λ h. All-more P rows i row less h (subst P here (subst P (sym none) refl)),
          λ h. let t : All P (take i (take (i + 1) rows)) = All-take P i (take (i + 1) rows) h in rw (take-take i (i + 1) rows (omega arith)) at t,
        )
