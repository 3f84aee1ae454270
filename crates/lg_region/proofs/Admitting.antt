-- A list with a known end is met.
use Rattle.std.proofs.Common.{◌≡◌, ◌≢◌, ℕ, zero, suc, ◌+◌, ◌<◌, ◌≤◌, Bool, true, false, not, cond, if◌then◌else◌, ◌&&◌, ◌==◌, true≢false, List, [], ◌∷◌, ◌++◌, length, get_or, refl, sym, ◌∙◌, ap, subst, Some, inl, inr, Contains, arith, length-append, append-nil, add-one, map, Bor}
use Rattle.std.proofs.lemmas.List.{map-append}
use Rattle.std.specs.Bool.{Decides}
use Rattle.std.specs.Cmp.{booleans_Decides}
use Rattle.std.specs.Cmp.Lexicographic.{pointwise}
use Rattle.std.specs.List.{slice_get, list_any}
use Rattle.std.proofs.lemmas.Bool.{cases_Bool}
use Rattle.std.proofs.lemmas.Bool.Decides.{Decides-eqb, Decides-and}
use Rattle.std.proofs.lemmas.List.{get_or_append_left}
use Rattle.std.proofs.lemmas.Option.{same_Some, slice_get-get_or, slice_get_within, get_or_from_slice_get}
use Rattle.std.proofs.lemmas.Slice.Eq.{slice_eq-Decides}
use Rattle.lg_gram.specs.Connectors.{Connector, connector_eq}
use Rattle.lg_region.specs.Fronts.{AreOnce, list_of}
use Rattle.lg_region.specs.Numbered.{IsTailOf, AreTailsOf, Admits}
use Rattle.lg_region.specs.declared.numbering.Tail.{Tail}
use Rattle.lg_region.proofs.Numbers.{contains_get, get_contains}
use Rattle.lg_region.proofs.Firsts.{push_cases, get_end, met_again, met_new}

bytes_Decides : (xs ys : List ℕ) → Decides (pointwise ◌==◌ xs ys) (xs ≡ ys)
bytes_Decides xs ys = slice_eq-Decides Decides-eqb xs ys _ refl

pub connector_Decides : (a b : Connector) → Decides (connector_eq a b) (a ≡ b)
connector_Decides a b =
    let parts = Decides-and _ _ (Decides-and _ _ (booleans_Decides a.multi b.multi) (booleans_Decides a.right b.right))
    (Decides-and _ _ (bytes_Decides a.caps b.caps) (bytes_Decides a.subs b.subs)) in (
      λ h. let p = parts.0 h in λ i. record { caps = p.1.0 i; subs = p.1.1 i; multi = p.0.0 i; right = p.0.1 i },
      λ e. parts.1 ((ap (λ c. c.multi) e, ap (λ c. c.right) e), (ap (λ c. c.caps) e, ap (λ c. c.subs) e)),
    )

-- what `==` says of two tails
abbrev pub tail_eq : Tail → Tail → Bool
tail_eq a b = (a.shorter == b.shorter) && connector_eq a.last b.last

tail_Decides : (a b : Tail) → Decides (tail_eq a b) (a ≡ b)
tail_Decides a b =
    let parts = Decides-and _ _ (Decides-eqb a.shorter b.shorter) (connector_Decides a.last b.last) in (
      λ h. let p = parts.0 h in λ i. record { shorter = p.0 i; last = p.1 i },
      λ e. parts.1 (ap (λ t. t.shorter) e, ap (λ t. t.last) e),
    )

found_in : (t : Tail) (ts : List Tail) (n : ℕ) → slice_get ts n ≡ Some t → list_any (tail_eq t) ts ≡ true
found_in t [] n e = absurd cc
found_in t (x ∷ xs) zero e = let h = (tail_Decides t x).1 (sym (same_Some x t e)) in rw h refl
found_in t (x ∷ xs) (suc n) e = let h = found_in t xs n e in grind arith

-- numbers keep their lists when more come
pub list_of_grown : (lists rest : List (List Connector)) (id : ℕ) → id ≤ length lists → list_of (lists ++ rest) id ≡ list_of lists id
list_of_grown lists rest zero l = refl
list_of_grown lists rest (suc n) l = get_or_append_left lists rest [] n (omega arith)

-- a list with an end is not the empty one
one_more_not_nil : (xs : List Connector) (c : Connector) → xs ++ c ∷ [] ≢ []
one_more_not_nil xs c e = let a = ap (λ z. length z) e in let b = length-append xs (c ∷ []) in omega arith

same_ends : (xs ys : List Connector) (c d : Connector) → xs ++ c ∷ [] ≡ ys ++ d ∷ [] → (xs ≡ ys) × (c ≡ d)
same_ends [] [] c d e = (refl, cc)
same_ends [] (y ∷ ys) c d e = let a = ap (λ z. length z) e in let b = length-append ys (d ∷ []) in absurd (omega arith)
same_ends (x ∷ xs) [] c d e = let a = ap (λ z. length z) e in let b = length-append xs (c ∷ []) in absurd (omega arith)
same_ends (x ∷ xs) (y ∷ ys) c d e =
    let h : x ≡ y = cc in
    let t : xs ++ c ∷ [] ≡ ys ++ d ∷ [] = cc in
    let r = same_ends xs ys c d t in
    (cc, r.1)

pub tail_at : (lists : List (List Connector)) (tails : List Tail) (n : ℕ) → AreTailsOf lists tails → n < length lists → (t : Tail) × (slice_get tails n ≡ Some t) × IsTailOf lists (suc n) t
tail_at lists [] n are l = let e = are.same_length in absurd (omega arith)
tail_at lists (x ∷ xs) n are l =
    let e = are.same_length in
    let g = slice_get-get_or (x ∷ xs) n x (omega arith) in
    (get_or (x ∷ xs) n x, g, are.each n (get_or (x ∷ xs) n x) g)

tail_not_nil : (lists : List (List Connector)) (tails : List Tail) (n : ℕ) → AreTailsOf lists tails → n < length lists → get_or lists n [] ≢ []
tail_not_nil lists tails n are l e =
    let t = tail_at lists tails n are l in
    one_more_not_nil (list_of lists t.0.shorter) t.0.last (sym t.2.list ∙ e)

-- numbers of one list are one
pub same_number : (lists : List (List Connector)) (tails : List Tail) → AreOnce lists → AreTailsOf lists tails → (m n : ℕ) → m ≤ length lists → n ≤ length lists → list_of lists m ≡ list_of lists n → m ≡ n
same_number lists tails once are zero zero lm ln e = refl
same_number lists tails once are zero (suc n) lm ln e = absurd (tail_not_nil lists tails n are (omega arith) (sym e))
same_number lists tails once are (suc m) zero lm ln e = absurd (tail_not_nil lists tails m are (omega arith) e)
same_number lists tails once are (suc m) (suc n) lm ln e =
    let g = slice_get-get_or lists m [] (omega arith) in
    let h = slice_get-get_or lists n [] (omega arith) in
    ap (λ z. suc z) (once m n (get_or lists m []) g (h ∙ ap (λ z. Some z) (sym e)))

-- a list whose end has no tail in the table has no number
unmet : (lists : List (List Connector)) (tails : List Tail) (t : Tail) → AreOnce lists → AreTailsOf lists tails → t.shorter ≤ length lists → list_any (tail_eq t) tails ≡ false → Contains lists (list_of lists t.shorter ++ t.last ∷ []) → ⊥
unmet lists tails t once are l none c =
    let g = contains_get lists (list_of lists t.shorter ++ t.last ∷ []) c in
    let n = g.0 in
    let u = tail_at lists tails n are g.1 in
    let b = u.2.shorter in
    let w = g.1 in
    let e = same_ends (list_of lists u.0.shorter) (list_of lists t.shorter) u.0.last t.last (sym u.2.list ∙ get_or_from_slice_get lists n (list_of lists t.shorter ++ t.last ∷ []) [] g.2) in
    let s = same_number lists tails once are u.0.shorter t.shorter (omega arith) l e.0 in
    let same : tail_eq t u.0 ≡ true = (Decides-and _ _ (Decides-eqb t.shorter u.0.shorter) (connector_Decides t.last u.0.last)).1 (sym s, sym e.1) in
    let v : slice_get tails n ≡ Some t = u.1 ∙ ap (λ z. Some z) (sym ((tail_Decides t u.0).0 same)) in
    true≢false (sym (found_in t tails n v) ∙ none)

-- it was met before
pub admits_old : (lists : List (List Connector)) (tails : List Tail) (t x : Tail) (front : List Connector) (i : ℕ) → length tails ≡ length lists → slice_get tails i ≡ Some x → tail_eq t x ≡ true → Admits lists tails lists tails t front (i + 1)
admits_old lists tails t x front i level g e = record {
  grown = [];
  grows = sym (append-nil lists);
  few = omega arith;
  level = level;
  admitted = λ met is l f.
      let l' = slice_get_within tails i x g in
      let same : x ≡ t = sym ((tail_Decides t x).0 e) in
      let has = is.tailed.each i t (g ∙ ap (λ z. Some z) same) in
      let list : list_of lists (suc i) ≡ front = has.list ∙ sym f in
      let at : slice_get lists i ≡ Some front = slice_get-get_or lists i [] (omega arith) ∙ ap (λ z. Some z) list in (
        record { first_met = met_again met lists front is.first_met (get_contains lists i front at); tailed = is.tailed },
        record { known = omega arith; list = subst (λ z. list_of lists z ≡ front) (sym (add-one i)) list },
      );
}

-- a tail of the lists before
tail_grown : (lists : List (List Connector)) (front : List Connector) (n : ℕ) (t : Tail) → suc n ≤ length lists → IsTailOf lists (suc n) t → IsTailOf (lists ++ front ∷ []) (suc n) t
tail_grown lists front n t l is =
    let b = is.shorter in
    record {
      shorter = is.shorter;
      list = list_of_grown lists (front ∷ []) (suc n) l ∙ is.list ∙ ap (λ z. z ++ t.last ∷ []) (sym (list_of_grown lists (front ∷ []) t.shorter (omega arith)));
    }

end_list : (lists : List (List Connector)) (front : List Connector) → list_of (lists ++ front ∷ []) (suc (length lists)) ≡ front
end_list lists front = get_or_from_slice_get (lists ++ front ∷ []) (length lists) front [] (get_end lists front)

new_tails : (lists : List (List Connector)) (tails : List Tail) (t : Tail) (front : List Connector) → AreTailsOf lists tails → t.shorter ≤ length lists → front ≡ list_of lists t.shorter ++ t.last ∷ []
    → AreTailsOf (lists ++ front ∷ []) (tails ++ t ∷ [])
new_tails lists tails t front are l f = record {
  same_length = let a = length-append lists (front ∷ []) in let b = length-append tails (t ∷ []) in let e = are.same_length in omega arith;
  each = λ n x g. elim (push_cases tails t n x g) [
    | inl h ↦ (let b = h.0 in let e = are.same_length in tail_grown lists front n x (omega arith) (are.each n x h.1))
    | inr h ↦ (
        let e : n ≡ length lists = h.0 ∙ are.same_length in
        let s : t.shorter < suc (length lists) = omega arith in
        let k : IsTailOf (lists ++ front ∷ []) (suc (length lists)) t = record { shorter = s; list = end_list lists front ∙ f ∙ ap (λ z. z ++ t.last ∷ []) (sym (list_of_grown lists (front ∷ []) t.shorter l)) } in
        subst (λ z. IsTailOf (lists ++ front ∷ []) (suc z) x) (sym e) (subst (λ z. IsTailOf (lists ++ front ∷ []) (suc (length lists)) z) h.1 k)
        )
  ];
}

-- it is met for the first time
pub admits_new : (lists : List (List Connector)) (tails : List Tail) (t x : Tail) (front : List Connector) (i : ℕ) → length tails ≡ length lists → list_any (tail_eq t) tails ≡ false → slice_get (tails ++ t ∷ []) i ≡ Some x → tail_eq t x ≡ true
    → Admits lists tails (lists ++ front ∷ []) (tails ++ t ∷ []) t front (i + 1)
admits_new lists tails t x front i level none g e =
    let a = length-append lists (front ∷ []) in
    let b = length-append tails (t ∷ []) in
    record {
      grown = front ∷ [];
      grows = refl;
      few = omega arith;
      level = omega arith;
      admitted = λ met is l f.
          let at : i ≡ length lists = elim (push_cases tails t i x g) [
            | inr h ↦ h.0 ∙ level
            | inl h ↦ (let same : x ≡ t = sym ((tail_Decides t x).0 e) in absurd (true≢false (sym (found_in t tails i (h.1 ∙ ap (λ z. Some z) same)) ∙ none)))
          ] in
          let not : Contains lists front → ⊥ = λ c. unmet lists tails t is.first_met.once is.tailed l none (subst (λ z. Contains lists z) f c) in (
            record { first_met = met_new met lists front is.first_met not; tailed = new_tails lists tails t front is.tailed l f },
            record { known = omega arith; list = subst (λ z. list_of (lists ++ front ∷ []) z ≡ front) (ap (λ z. suc z) (sym at) ∙ sym (add-one i)) (end_list lists front) },
          );
    }

-- both cases, by what the table answers
pub admits : (old lists : List (List Connector)) (old_tails tails : List Tail) (t x : Tail) (front : List Connector) (i : ℕ) (is_new : Bool) → length old_tails ≡ length old
    → is_new ≡ not (list_any (tail_eq t) old_tails) → tails ≡ (if list_any (tail_eq t) old_tails then old_tails else old_tails ++ t ∷ []) → lists ≡ cond is_new (old ++ front ∷ []) old
    → slice_get tails i ≡ Some x → tail_eq t x ≡ true → Admits old old_tails lists tails t front (i + 1)
admits old lists old_tails tails t x front i is_new level n e l g s =
    elim (cases_Bool (list_any (tail_eq t) old_tails)) [
      | inl found ↦ (
          let a : tails ≡ old_tails = rw found at e in
          let m : is_new ≡ false = rw found at n in
          let b : lists ≡ old = rw m at l in
          subst (λ z. Admits old old_tails z tails t front (i + 1)) (sym b) (subst (λ z. Admits old old_tails old z t front (i + 1)) (sym a)
          (admits_old old old_tails t x front i level (subst (λ z. slice_get z i ≡ Some x) a g) s))
          )
      | inr none ↦ (
          let a : tails ≡ old_tails ++ t ∷ [] = rw none at e in
          let m : is_new ≡ true = rw none at n in
          let b : lists ≡ old ++ front ∷ [] = rw m at l in
          subst (λ z. Admits old old_tails z tails t front (i + 1)) (sym b) (subst (λ z. Admits old old_tails (old ++ front ∷ []) z t front (i + 1)) (sym a)
          (admits_new old old_tails t x front i level none (subst (λ z. slice_get z i ≡ Some x) a g) s))
          )
    ]

-- the lists after one was pushed, or none
pub pushed : (fs gs : List (Bor (List Connector))) (f : Bor (List Connector)) (b : Bool) → b ≡ true → gs ≡ fs ++ f ∷ [] → map (λ g. g.now) gs ≡ cond b (map (λ g. g.now) fs ++ f.now ∷ []) (map (λ g. g.now) fs)
pushed fs gs f b t e = rw t (ap (map {A = Bor (List Connector)} (λ g. g.now)) e ∙ map-append (λ (g : Bor (List Connector)). g.now) fs (f ∷ []))

pub unpushed : (fs gs : List (Bor (List Connector))) (f : Bor (List Connector)) (b : Bool) → b ≡ false → gs ≡ fs → map (λ g. g.now) gs ≡ cond b (map (λ g. g.now) fs ++ f.now ∷ []) (map (λ g. g.now) fs)
unpushed fs gs f b t e = rw t (ap (map {A = Bor (List Connector)} (λ g. g.now)) e)
