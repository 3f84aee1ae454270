-- Members, written by position: those of a problem that are left are a problem.
use Rattle.std.proofs.Common.{◌≡◌, ◌==◌, ℕ, zero, suc, ◌+◌, ◌-◌, ◌<◌, ◌≤◌, List, [], ◌∷◌, ◌++◌, length, get_or, map, refl, sym, ap, ◌∙◌, subst, inl, inr, Bool, true, false, not, ◌&&◌, ◌↔◌, Contains, append_assoc, append-nil, arith}
use Rattle.std.specs.List.{filter, sum_by, range_with_len, AllByRecursion}
use Rattle.std.specs.List.Sorted.{IsStrictlySortedBy}
use Rattle.std.specs.declared.cmp.Ordering.{Ordering}
use Rattle.std.specs.declared.cmp.Ordering.TheVariants.{Less}
use Rattle.std.proofs.lemmas.Bool.{cases_Bool, cases_lt, eq-eqb, eqb-true, ne_eqb}
use Rattle.std.proofs.lemmas.List.{map-append, length-map, get_or_past, get_or-map}
use Rattle.std.proofs.lemmas.List.Elements.{All-contains, All-map, All-weaker, All-contains_itself, filter_agree, filter-append}
use Rattle.std.proofs.lemmas.List.Filters.{length-filter_both}
use Rattle.std.proofs.lemmas.List.FromFn.{length-map-range_with_len, get_or-map-range_with_len}
use Rattle.std.proofs.lemmas.List.Sums.{sum_by-cons}
use Rattle.lg_gram.specs.Disjuncts.{disjunct_cmp}
use Rattle.lg_gram.specs.Problems.{FitsProblem, IsPosition, IsProblem}
use Rattle.lg_gram.specs.declared.disjunct.Disjunct.{Disjunct}
use Rattle.lg_member.specs.Laws.{RowsAreProblems}
use Rattle.lg_member.specs.Members.{formed, seen_of, all_from, row_at, AreMembers, AreLeft, Have}
use Rattle.lg_member.specs.declared.side.Side.{Side}
use Rattle.lg_member.specs.declared.member.Member.{Member}
use Rattle.lg_member.proofs.Keeping.{filter_in, filter_out, filter_twice}

abbrev at_position : ℕ → Disjunct → ℕ × Disjunct
at_position i d = (i, d)

abbrev disjunct_of : Member → Disjunct
disjunct_of m = formed m.form

abbrev is_at : ℕ → Member → Bool
is_at i m = m.position == i

-- the disjuncts of a position
abbrev pick : ℕ → List (ℕ × Disjunct) → List Disjunct
pick i xs = map (λ x. x.1) (filter (λ x. x.0 == i) xs)

row_pick : (i : ℕ) (ms : List Member) → row_at ms i ≡ pick i (map seen_of ms)
row_pick i [] = refl
row_pick i (m ∷ ms) =
    let e = row_pick i ms in
    elim (cases_Bool (m.position == i)) [ inl t ↦ rw t (ap (λ z. formed m.form ∷ z) e) | inr t ↦ rw t e ]

pick_append : (i : ℕ) (xs ys : List (ℕ × Disjunct)) → pick i (xs ++ ys) ≡ pick i xs ++ pick i ys
pick_append i xs ys = ap (map (λ (x : ℕ × Disjunct). x.1)) (filter-append (λ x. x.0 == i) xs ys) ∙ map-append (λ (x : ℕ × Disjunct). x.1) (filter (λ x. x.0 == i) xs) (filter (λ x. x.0 == i) ys)

pick_same : (i j : ℕ) (ds : List Disjunct) → j ≡ i → pick i (map (at_position j) ds) ≡ ds
pick_same i j [] e = refl
pick_same i j (d ∷ ds) e = let t = eq-eqb j i e in rw t (ap (λ z. d ∷ z) (pick_same i j ds e))

pick_other : (i j : ℕ) (ds : List Disjunct) → (j ≡ i → ⊥) → pick i (map (at_position j) ds) ≡ []
pick_other i j [] n = refl
pick_other i j (d ∷ ds) n = let t = ne_eqb j i n in rw t (pick_other i j ds n)

pick_later : (i j : ℕ) (dss : List (List Disjunct)) → i < j → pick i (all_from j dss) ≡ []
pick_later i j [] h = refl
pick_later i j (ds ∷ dss) h =
    pick_append i (map (at_position j) ds) (all_from (suc j) dss) ∙ ap (λ z. z ++ pick i (all_from (suc j) dss)) (pick_other i j ds (λ e. omega arith)) ∙ pick_later i (suc j) dss (omega arith)

pick_at : (i j k : ℕ) (dss : List (List Disjunct)) → i ≡ j + k → pick i (all_from j dss) ≡ get_or dss k []
pick_at i j k [] e = refl
pick_at i j zero (ds ∷ dss) e =
    pick_append i (map (at_position j) ds) (all_from (suc j) dss) ∙ ap (λ z. z ++ pick i (all_from (suc j) dss)) (pick_same i j ds (omega arith))
    ∙ ap (λ z. ds ++ z) (pick_later i (suc j) dss (omega arith)) ∙ append-nil ds
pick_at i j (suc k) (ds ∷ dss) e =
    pick_append i (map (at_position j) ds) (all_from (suc j) dss) ∙ ap (λ z. z ++ pick i (all_from (suc j) dss)) (pick_other i j ds (λ f. omega arith)) ∙ pick_at i (suc j) k dss (omega arith)

row_all : (positions : List (List Disjunct)) (lefts rights : List Side) (ms : List Member) → AreMembers positions lefts rights ms → (i : ℕ) → row_at ms i ≡ get_or positions i []
row_all positions lefts rights ms a i = row_pick i ms ∙ ap (pick i) a.seen ∙ pick_at i 0 i positions (omega arith)

map_out : {X Y : Type 0} (f : X → Y) (xs : List X) (y : Y) → Contains (map f xs) y → (x : X) × Contains xs x × (f x ≡ y)
map_out {X} {Y} f xs y c =
    let P : Y → Type 0 = λ y. (x : X) × Contains xs x × (f x ≡ y) in
    All-contains P (map f xs) y (All-map P f xs (All-weaker (Contains xs) (λ x. P (f x)) (λ x d. (x, d, refl)) xs (All-contains_itself xs))) c

map_in : {X Y : Type 0} (f : X → Y) (xs : List X) (x : X) → Contains xs x → Contains (map f xs) (f x)
map_in f xs x (i, l, e) = (i, (let n = length-map xs f in omega arith), get_or-map f xs i x (f x) l ∙ ap f e)

row_have : (ms : List Member) (i : ℕ) (d : Disjunct) → Contains (row_at ms i) d ↔ Have ms i d
row_have ms i d = (
  (λ c. let r = map_out disjunct_of (filter (is_at i) ms) d c in
      let f = filter_out (is_at i) ms r.0 r.1 in
      (r.0, f.0, eqb-true r.0.position i f.1, r.2)),
  (λ v. subst (λ z. Contains (row_at ms i) z) v.3 (map_in disjunct_of (filter (is_at i) ms) v.0 (filter_in (is_at i) ms v.0 v.1 (eq-eqb v.0.position i v.2)))),
)

seen_have : (ms : List Member) (i : ℕ) (d : Disjunct) → Contains (map seen_of ms) (i, d) ↔ Have ms i d
seen_have ms i d = (
  (λ c. let r = map_out seen_of ms (i, d) c in (r.0, r.1, ap (λ z. z.0) r.2, ap (λ z. z.1) r.2)),
  (λ v. subst (λ z. Contains (map seen_of ms) (z, d)) v.2 (subst (λ z. Contains (map seen_of ms) (v.0.position, z)) v.3 (map_in seen_of ms v.0 v.1))),
)

-- rows of what a filter keeps
and_swap : (a b : Bool) → (a && b) ≡ (b && a)
and_swap true true = refl
and_swap true false = refl
and_swap false true = refl
and_swap false false = refl

row_filter : (test : Member → Bool) (ms : List Member) (i : ℕ) → row_at (filter test ms) i ≡ map disjunct_of (filter test (filter (is_at i) ms))
row_filter test ms i =
    ap (map disjunct_of) (filter_twice test (is_at i) ms ∙ filter_agree (λ m. test m && is_at i m) (λ m. is_at i m && test m) (λ m. and_swap (test m) (is_at i m)) ms ∙ sym (filter_twice (is_at i) test ms))

less_kept : {X Y : Type 0} (P : Y → Type 0) (f : X → Y) (p : X → Bool) (xs : List X) → AllByRecursion P (map f xs) → AllByRecursion P (map f (filter p xs))
less_kept P f p [] a = a
less_kept P f p (x ∷ xs) a = elim (cases_Bool (p x)) [ inl t ↦ rw t (a.0, less_kept P f p xs a.1) | inr t ↦ rw t (less_kept P f p xs a.1) ]

sorted_kept : {X Y : Type 0} (c : Y → Y → Ordering) (f : X → Y) (p : X → Bool) (xs : List X) → IsStrictlySortedBy c (map f xs) → IsStrictlySortedBy c (map f (filter p xs))
unfolding IsStrictlySortedBy
sorted_kept c f p [] s = s
sorted_kept c f p (x ∷ xs) s =
    elim (cases_Bool (p x)) [ inl t ↦ rw t (less_kept (λ y. c (f x) y ≡ Less) f p xs s.0, sorted_kept c f p xs s.1) | inr t ↦ rw t (sorted_kept c f p xs s.1) ]

sum_le : (xs ys : List (List Disjunct)) → length xs ≡ length ys → ((i : ℕ) → length (get_or xs i []) ≤ length (get_or ys i [])) → sum_by length xs ≤ sum_by length ys
sum_le [] ys e h = omega arith
sum_le (x ∷ xs) [] e h = absurd (omega arith)
sum_le (x ∷ xs) (y ∷ ys) e h =
    let r = sum_le xs ys (omega arith) (λ i. h (suc i)) in
    let a = sum_by-cons length x xs in
    let b = sum_by-cons length y ys in
    let z : length x ≤ length y = h zero in
    omega arith

-- the rows of the members that are kept
abbrev rows : ℕ → List Member → List (List Disjunct)
rows n ms = map (row_at ms) (range_with_len 0 n)

row_at_place : (n : ℕ) (ms : List Member) (i : ℕ) → i < n → get_or (rows n ms) i [] ≡ row_at ms i
row_at_place n ms i h = get_or-map-range_with_len (row_at ms) 0 n i i [] h (omega arith)

row_past : (n : ℕ) (ms : List Member) (i : ℕ) → n ≤ i → get_or (rows n ms) i [] ≡ []
row_past n ms i h = let l = length-map-range_with_len (row_at ms) 0 n in get_or_past (rows n ms) i [] (omega arith)

-- each row is a position of a problem, of no more disjuncts than before
pub record IsPart (before after : List Disjunct) : Type 0 where
  pub fewer : length after ≤ length before
  pub position : IsPosition before → IsPosition after

part_of : (positions : List (List Disjunct)) (lefts rights : List Side) (old new : List Member) → AreMembers positions lefts rights old → AreLeft old new → (i : ℕ)
    → IsPart (get_or positions i []) (row_at new i)
part_of positions lefts rights old new a k i =
    let e : row_at new i ≡ map disjunct_of (filter k.0 (filter (is_at i) old)) = ap (λ z. row_at z i) k.1.filtered ∙ row_filter k.0 old i in
    let f : map disjunct_of (filter (is_at i) old) ≡ get_or positions i [] = row_all positions lefts rights old a i in
    let l = ap length e in
    let m = ap length f in
    let u = length-map (filter k.0 (filter (is_at i) old)) disjunct_of in
    let v = length-map (filter (is_at i) old) disjunct_of in
    let w = length-filter_both k.0 (λ m. not (k.0 m)) (λ m. refl) (filter (is_at i) old) in
    record {
      fewer = omega arith;
      position = λ p. record {
        fit = All-weaker (Contains (row_at new i)) FitsProblem (λ d c.
            let r = map_out disjunct_of (filter k.0 (filter (is_at i) old)) d (subst (λ z. Contains z d) e c) in
            let o = map_in disjunct_of (filter (is_at i) old) r.0 (filter_out k.0 (filter (is_at i) old) r.0 r.1).0 in
            All-contains FitsProblem (get_or positions i []) d p.fit (subst (λ z. Contains z d) f (subst (λ z. Contains (map disjunct_of (filter (is_at i) old)) z) r.2 o))) (row_at new i) (All-contains_itself (row_at new i));
        rise = subst (λ z. IsStrictlySortedBy disjunct_cmp z) (sym e) (sorted_kept disjunct_cmp disjunct_of k.0 (filter (is_at i) old) (subst (λ z. IsStrictlySortedBy disjunct_cmp z) (sym f) p.rise));
      };
    }

rows_problem : (positions : List (List Disjunct)) (lefts rights : List Side) (old new : List Member) → AreMembers positions lefts rights old → AreLeft old new → IsProblem positions
    → IsProblem (rows (length positions) new)
rows_problem positions lefts rights old new a k p =
    let n = length positions in
    let l = length-map-range_with_len (row_at new) 0 n in
    let less = sum_le (rows n new) positions l (λ i. elim (cases_lt i n) [
      | inl h ↦ (let e = ap length (row_at_place n new i h) in let w = (part_of positions lefts rights old new a k i).fewer in omega arith)
      | inr h ↦ (let e = ap length (row_past n new i h) in omega arith)
    ]) in
    let few = p.few in
    let some' = p.few_disjuncts in
    record {
      few = omega arith;
      few_disjuncts = omega arith;
      each = λ i d h.
          let w : i < n = omega arith in
          let e = get_or-map-range_with_len (row_at new) 0 n i i d w (omega arith) in
          let at : IsPosition (get_or positions i []) = p.each i [] w in
          subst (λ z. IsPosition z) (sym e) ((part_of positions lefts rights old new a k i).position at);
    }

-- what is left, by position
pub left_of : RowsAreProblems
left_of positions lefts rights old new p a k =
    let n = length positions in
    let fewer : (i : ℕ) (d : Disjunct) → Have new i d → Have old i d = λ i d v. (v.0, ((k.1.exactly v.0).0 v.1).0, v.2, v.3) in
    let whole : (i : ℕ) (d : Disjunct) → Contains (get_or positions i []) d ↔ Have old i d =
    λ i d. subst (λ z. Contains z d ↔ Have old i d) (row_all positions lefts rights old a i) (row_have old i d) in
    record {
      is_problem = rows_problem positions lefts rights old new a k p;
      same_length = length-map-range_with_len (row_at new) 0 n;
      whole = whole;
      part = λ i d. elim (cases_lt i n) [
        | inl h ↦ subst (λ z. Contains z d ↔ Have new i d) (sym (row_at_place n new i h)) (row_have new i d)
        | inr h ↦ (
          (λ c. absurd (let l = (subst (λ z. Contains z d) (row_past n new i h) c).1 in omega arith)),
          (λ v. absurd (let l = (subst (λ z. Contains z d) (get_or_past positions i [] h) ((whole i d).1 (fewer i d v))).1 in omega arith)),
        )
      ];
      fewer = fewer;
      seen = seen_have new;
    }

-- one row more: what is left gives the rest
pub rows_more : (f : ℕ → List Disjunct) (now new : List (List Disjunct)) (i n : ℕ) (all : List (List Disjunct)) → i < n → new ≡ now ++ f i ∷ []
    → now ++ map f (range_with_len i (n - i)) ≡ all → new ++ map f (range_with_len (i + 1) (n - (i + 1))) ≡ all
rows_more f now new i n all h e inv =
    let more = n - (i + 1) in
    let k : n - i ≡ suc more = omega arith in
    ap (λ z. z ++ map f (range_with_len (i + 1) more)) e ∙ append_assoc now (f i ∷ []) (map f (range_with_len (i + 1) more)) ∙ ap (λ z. now ++ map f (range_with_len i z)) (sym k) ∙ inv
