-- Tables of ways to link, and of gaps.
use Rattle.std.proofs.Common.{◌≡◌, ℕ, zero, suc, ◌+◌, ◌-◌, ◌<◌, ◌≤◌, List, [], ◌∷◌, ◌++◌, length, length-append, set, get_or, refl, sym, ap, ◌∙◌, subst, Option, Some, inl, inr, Bool, cond, ltb, arith}
use Rattle.std.specs.Global.{Vec}
use Rattle.std.specs.Prelude.{IfSome}
use Rattle.std.specs.List.{slice_get}
use Rattle.std.proofs.lemmas.Bool.{cases_eq, cases_lt}
use Rattle.std.proofs.lemmas.Option.{same_Some}
use Rattle.std.proofs.lemmas.List.{map-append, map-set, length-map, get_or-map, get_or-set_same, get_or-set_other, get_or_append_left, get_or-append_right}
use Rattle.std.proofs.lemmas.List.FromFn.{sum_by-map-range_with_len_more}
use Rattle.lg_member.specs.declared.member.Member.{Member}
use Rattle.lg_sharpen.specs.Filling.{rows_in, need_at, least_at, IsLowered, IsNoted, Notes, stuck_in, IsSpanRow, AreSpans}
use Rattle.lg_sharpen.specs.declared.gaps.Way.{Way}
use Rattle.lg_sharpen.specs.declared.site.Site.{Site}

-- the first numbers are lowered
pub record LoweredTo (place end : ℕ) (old new : List ℕ) : Type 0 where
  pub long : length new ≡ length old
  pub lower : (a : ℕ) → get_or new a 0 ≤ get_or old a 0
  pub noted : (a : ℕ) → a < place → get_or new a 0 ≤ end

above : (n a m : ℕ) → n ≤ a → (a ≡ n → ⊥) → m ≡ n + 1 → m ≤ a
above n a m h d e = elim (cases_lt n a) [ inl l ↦ omega arith | inr l ↦ absurd (d (omega arith)) ]

pub past : {A : Type 0} (xs : List A) (a : ℕ) (d : A) → length xs ≤ a → get_or xs a d ≡ d
past {A} [] a d h = refl
past {A} (x ∷ xs) zero d h = absurd (omega arith)
past {A} (x ∷ xs) (suc a) d h = past xs a d (omega arith)

-- a row is lowered
pub noted_row : (i left right count end : ℕ) (rows : List (Vec ℕ)) (v w : Vec ℕ) → i < length rows → v ≡ get_or rows i v → IsLowered count end (get_or rows i v).items w.items → i - left < count
    → end ≤ i + right → Notes i left right (rows_in rows) (rows_in (set rows i w))
noted_row i left right count end rows v w h at low c e =
    let is : IsLowered count end v.items w.items = subst (λ (z : Vec ℕ). IsLowered count end z.items w.items) (sym at) low in
    let ls = rows_in rows in
    let long : i < length ls = (let l = length-map rows (λ (x : Vec ℕ). x.items) in omega arith) in
    let was : get_or ls i [] ≡ v.items = get_or-map (λ (x : Vec ℕ). x.items) rows i v [] h ∙ ap (λ z. z.items) (sym at) in
    let now : get_or (set ls i w.items) i [] ≡ w.items = get_or-set_same ls i w.items [] long in
    subst (λ z. Notes i left right ls z) (sym (map-set (λ (x : Vec ℕ). x.items) rows i w)) (record {
      lower = λ x a. elim (cases_eq x i) [
        | inl same ↦ (let p : get_or (get_or (set ls i w.items) x []) a 0 ≡ get_or w.items a 0 = ap (λ z. get_or z a 0) (ap (λ z. get_or (set ls i w.items) z []) same ∙ now) in
            let q : get_or (get_or ls x []) a 0 ≡ get_or v.items a 0 = ap (λ z. get_or z a 0) (ap (λ z. get_or ls z []) same ∙ was) in
            let r = is.lower a in
            subst (λ z. z ≤ get_or (get_or ls x []) a 0) (sym p) (subst (λ z. get_or w.items a 0 ≤ z) (sym q) r))
        | inr n ↦ (let p : get_or (get_or (set ls i w.items) x []) a 0 ≡ get_or (get_or ls x []) a 0 = ap (λ z. get_or z a 0) (get_or-set_other ls i x w.items [] n) in
            subst (λ z. z ≤ get_or (get_or ls x []) a 0) (sym p) (omega arith))
      ];
      noted = λ a la. let r = is.noted a (omega arith) in let p : get_or (get_or (set ls i w.items) i []) a 0 ≡ get_or w.items a 0 = ap (λ z. get_or z a 0) now in
          let s : get_or w.items a 0 ≤ i + right = omega arith in
          subst (λ z. z ≤ i + right) (sym p) s;
    })

-- the ways of the first members are noted
pub record NotedUpTo (lefts rights : List (List Site)) (ms : List Member) (k : ℕ) (rows : List (List ℕ)) : Type 0 where
  pub each : (j : ℕ) (m : Member) → j < k → slice_get ms j ≡ Some m → (a : ℕ) → a ≤ m.position - need_at lefts m.left → least_at rows m.position a ≤ m.position + need_at rights m.right

pub noted_more : (lefts rights : List (List Site)) (ms : List Member) (k : ℕ) (now new : List (List ℕ)) (m : Member) → slice_get ms k ≡ Some m → Notes m.position (need_at lefts m.left) (need_at rights m.right) now new
    → NotedUpTo lefts rights ms k now → NotedUpTo lefts rights ms (k + 1) new
noted_more lefts rights ms k now new m at n t = record {
  each = λ j x l atj a la. elim (cases_lt j k) [
    | inl h ↦ (let old = t.each j x h atj a la in let low = n.lower x.position a in omega arith)
    | inr h ↦ (let e : j ≡ k = omega arith in
        let same : m ≡ x = same_Some m x (sym at ∙ subst (λ z. slice_get ms z ≡ Some x) e atj) in
        subst (λ z. least_at new z.position a ≤ z.position + need_at rights z.right) same (n.noted a (subst (λ z. a ≤ z.position - need_at lefts z.left) (sym same) la)))
  ];
}

-- a way that was noted is noted again
pub noted_again : (last : Option Way) (w : Way) (rows : List (List ℕ)) → last ≡ Some w → IfSome last (λ v. IsNoted v rows) → Notes w.position w.left w.right rows rows
noted_again last w rows e is = record { lower = λ x a. omega arith; noted = λ a l. (subst (λ z. IfSome z (λ v. IsNoted v rows)) e is) a l }

no_more : (new s c more' x y : ℕ) → new ≤ s + x → s ≤ c → x ≡ y → more' ≡ c + y → new ≤ more'
no_more new s c more' x y a b d e = omega arith

-- one word more
pub stuck_more : (rows : List (List ℕ)) (first last word n s new : ℕ) (b : Bool) → b ≡ ltb last (least_at rows (word + n) first) → new ≤ s + cond b 1 0 → s ≤ stuck_in rows first last word n
    → new ≤ stuck_in rows first last word (n + 1)
stuck_more rows first last word n s new b eb le t =
    no_more new s (stuck_in rows first last word n) (stuck_in rows first last word (n + 1)) (cond b 1 0) (cond (ltb last (least_at rows (word + n) first)) 1 0) le t (ap (λ (z : Bool). cond z 1 0) eb)
    (sum_by-map-range_with_len_more (λ end. cond (ltb last end) 1 0) (λ w. least_at rows w first) word n (word + n) refl)

-- what holds of each place still does when an element comes behind
pub added : {A : Type 0} (xs : List A) (x : A) (d : A) (P : ℕ → A → Type 0) → ((a : ℕ) → P a (get_or xs a d)) → P (length xs) x → (a : ℕ) → P a (get_or (xs ++ x ∷ []) a d)
added {A} xs x d P old new a =
    elim (cases_lt a (length xs)) [
      | inl h ↦ subst (λ z. P a z) (sym (get_or_append_left xs (x ∷ []) d a h)) (old a)
      | inr h ↦ elim (cases_eq a (length xs)) [
        | inl e ↦ (let none : a - length xs ≡ 0 = omega arith in
            let at : get_or (x ∷ []) (a - length xs) d ≡ x = ap (λ z. get_or (x ∷ []) z d) none in
            subst (λ z. P a z) (sym (get_or-append_right xs (x ∷ []) (length xs) a d refl h ∙ at)) (subst (λ z. P z x) (sym e) new))
        | inr n ↦ (let l = length-append xs (x ∷ []) in
            let far : length (xs ++ x ∷ []) ≤ a = above (length xs) a (length (xs ++ x ∷ [])) h n l in
            subst (λ z. P a z) (past xs a d h ∙ sym (past (xs ++ x ∷ []) a d far)) (old a))
      ]
    ]

-- the flags of a row
pub record SpanRowTo (right : Bool) (n most : ℕ) (rows : List (List ℕ)) (i k : ℕ) (flags : List Bool) : Type 0 where
  pub long : length flags ≡ k
  pub each : IsSpanRow right n most rows i flags

-- the rows of flags
pub record SpansTo (right : Bool) (n most : ℕ) (rows : List (List ℕ)) (k : ℕ) (flags : List (List Bool)) : Type 0 where
  pub long : length flags ≡ k
  pub each : AreSpans right n most rows flags

pub spans_more : (right : Bool) (n most : ℕ) (rows : List (List ℕ)) (k : ℕ) (now new : List (Vec Bool)) (row : Vec Bool) → new ≡ now ++ row ∷ [] → IsSpanRow right n most rows k row.items
    → SpansTo right n most rows k (rows_in now) → SpansTo right n most rows (k + 1) (rows_in new)
spans_more right n most rows k now new row e is t =
    let same : rows_in new ≡ rows_in now ++ row.items ∷ [] = ap (λ z. rows_in z) e ∙ map-append (λ (v : Vec Bool). v.items) now (row ∷ []) in
    subst (λ z. SpansTo right n most rows (k + 1) z) (sym same) (record {
      long = length-append (rows_in now) (row.items ∷ []) ∙ ap (λ z. z + 1) t.long;
      each = added (rows_in now) row.items [] (λ i flags. IsSpanRow right n most rows i flags) t.each (subst (λ z. IsSpanRow right n most rows z row.items) (sym t.long) is);
    })
