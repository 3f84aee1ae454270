-- What is kept of lists tells their ends, and the lists of disjuncts.
use Rattle.std.proofs.Common.{◌≡◌, ℕ, suc, ◌+◌, ◌-◌, ◌<◌, ◌≤◌, Bool, List, [], ◌∷◌, ◌++◌, length, take, get_or, map, refl, sym, ◌∙◌, ap, subst, Some, inl, inr, Contains, arith, length-append, add-one}
use Rattle.std.specs.List.{AllZip, flat_map, range_with_len, slice_get}
use Rattle.std.proofs.lemmas.Bool.{cases_lt}
use Rattle.std.proofs.lemmas.List.{get_or-map, take_at, get_or_past}
use Rattle.std.proofs.lemmas.List.Elements.{All-contains, Contains-append_cases, Contains-get_or}
use Rattle.std.proofs.lemmas.Option.{slice_get-get_or, slice_get_within, get_or_from_slice_get}
use Rattle.std.proofs.Math.Seq.{get_or-append_seam}
use Rattle.lg_gram.specs.Connectors.{Connector}
use Rattle.lg_gram.specs.Limits.{SIDE}
use Rattle.lg_gram.specs.Problems.{IsProblem, IsPosition, FitsProblem}
use Rattle.lg_gram.specs.declared.disjunct.Disjunct.{Disjunct}
use Rattle.lg_region.specs.Alike.{last_of}
use Rattle.lg_region.specs.Chains.{class_at, class_of, class_of_caps}
use Rattle.lg_region.specs.Fronts.{fronts, fronts_of, all_fronts, AreListsOf, list_of}
use Rattle.lg_region.specs.Keys.{IsDisjunctAt}
use Rattle.lg_region.specs.Numbered.{AreFirstsOf, AreTailsOf, HasSides, AreSidesOf, IsKind, MeetsKind}
use Rattle.lg_region.specs.Ways.{IsEndOf}
use Rattle.lg_region.specs.declared.numbering.Tail.{Tail}
use Rattle.lg_region.specs.declared.numbering.Sides.{Sides}
use Rattle.lg_region.specs.declared.ways.End.{End}
use Rattle.lg_region.proofs.Elements.{zip_at, zip_length}
use Rattle.lg_region.proofs.Firsts.{get_left, push_cases}
use Rattle.lg_region.proofs.Valid.{take_short}
use Rattle.lg_base.proofs.Elements.{map_out, flat_out}
use Rattle.lg_region.proofs.Numbers.{range_out}

-- an element that was read, of a list that is seen through a function
pub map_at : {X Y : Type 0} (g : X → Y) (xs : List X) (n : ℕ) (x : X) (d : Y) → n < length xs → x ≡ get_or xs n x → get_or (map g xs) n d ≡ g x
map_at g xs n x d l e = get_or-map g xs n x d l ∙ ap g (sym e)

end_at : (xs : List Connector) (c : Connector) (cs : List Connector) → cs ≡ xs ++ c ∷ [] → (suc (length cs - 1) ≡ length cs) × (length cs - 1 ≡ length xs)
end_at xs c cs e =
    let l : length cs ≡ length xs + 1 = ap (λ z. length z) e ∙ length-append xs (c ∷ []) in
    (omega arith, omega arith)

-- the class of a list is that of its last connector
pub last_at : (cs : List Connector) (p : ℕ) (c : Connector) → suc p ≡ length cs → slice_get cs p ≡ Some c → class_of cs ≡ class_of_caps c.caps
last_at cs p c e at = let q : length cs - 1 ≡ p = omega arith in ap class_at (ap (λ z. slice_get cs z) q ∙ at)

pub end_of : (lists : List (List Connector)) (tails : List Tail) (n m kind : ℕ) (t : Tail) → AreTailsOf lists tails → slice_get tails n ≡ Some t → m ≡ length (get_or lists n [])
    → IsEndOf lists (suc n) (record { id = suc n; place = m - 1; shorter = t.shorter; kind = kind; class = class_of_caps t.last.caps; is_multi = t.last.multi })
end_of lists tails n m kind t are g e =
    let is = are.each n t g in
    let l = slice_get_within tails n t g in
    let same = are.same_length in
    let before = is.shorter in
    let xs = list_of lists t.shorter in
    let cs = get_or lists n [] in
    let p = end_at xs t.last cs is.list in
    let q : m - 1 ≡ length xs = ap (λ z. z - 1) e ∙ p.1 in
    let u = is.list in
    let at : get_or (xs ++ t.last ∷ []) (length xs) t.last ≡ t.last = get_or-append_seam xs t.last [] t.last in
    let in' : length xs < length (xs ++ t.last ∷ []) = (let k = length-append xs (t.last ∷ []) in omega arith) in
    let s : slice_get (xs ++ t.last ∷ []) (length xs) ≡ Some t.last = slice_get-get_or (xs ++ t.last ∷ []) (length xs) t.last in' ∙ ap (λ z. Some z) at in
    let at_end : suc (m - 1) ≡ length cs = ap (λ z. suc (z - 1)) e ∙ p.0 in
    let is_last : slice_get cs (m - 1) ≡ Some t.last = subst (λ z. slice_get z (m - 1) ≡ Some t.last) (sym u) (subst (λ z. slice_get (xs ++ t.last ∷ []) z ≡ Some t.last) (sym q) s) in
    record {
      itself = refl;
      known = omega arith;
      known_shorter = omega arith;
      at_end = at_end;
      last = t.last;
      is_last = is_last;
      is_multi = refl;
      class_is = sym (last_at cs (m - 1) t.last at_end is_last);
      rest = sym (subst (λ z. take (m - 1) z ≡ xs) (sym u) (subst (λ z. take z (xs ++ t.last ∷ []) ≡ xs) (sym q) (take_at xs (t.last ∷ []) (length xs) refl)));
    }

-- a list that has a tail is not the empty one
pub front_some : (lists : List (List Connector)) (tails : List Tail) (i : ℕ) (t : Tail) (cs : List Connector) → AreTailsOf lists tails → slice_get tails i ≡ Some t → get_or lists i [] ≡ cs → 1 ≤ length cs
front_some lists tails i t cs are at e =
    let last = (end_of lists tails i (length cs) 0 t are at (ap (λ z. length z) (sym e))).at_end in
    let same = ap (λ z. length z) e in
    omega arith

-- a list ends with the connector of its tail
pub tail_last : (lists : List (List Connector)) (tails : List Tail) (n : ℕ) (t : Tail) → AreTailsOf lists tails → slice_get tails n ≡ Some t → last_of (get_or lists n []) ≡ Some t.last
unfolding end_of
tail_last lists tails n t are g = (end_of lists tails n (length (get_or lists n [])) 0 t are g refl).is_last

-- the ends of so many lists, and the kinds that they have
pub record EndsSoFar (lists : List (List Connector)) (kinds : List Connector) (firsts : List ℕ) (ends : List End) (count : ℕ) : Type 0 where
  pub counted : length ends ≡ count
  pub few : length kinds ≤ count
  pub each : (n : ℕ) (e : End) → slice_get ends n ≡ Some e → IsEndOf lists (suc n) e
  pub kind : (n : ℕ) (e : End) → slice_get ends n ≡ Some e → IsKind lists kinds (suc n) e.kind
  pub firsts_are : AreFirstsOf lists kinds firsts

-- no list has an end yet
pub ends_none : (lists : List (List Connector)) (kinds : List Connector) (firsts : List ℕ) (ends : List End) → length kinds ≡ 0 → length firsts ≡ 0 → ends ≡ [] → EndsSoFar lists kinds firsts ends 0
ends_none lists (c ∷ kinds) firsts ends k f e = absurd (omega arith)
ends_none lists [] (n ∷ firsts) ends k f e = absurd (omega arith)
ends_none lists [] [] ends k f e = subst (λ z. EndsSoFar lists [] [] z 0) (sym e) (record {
  counted = refl;
  few = omega arith;
  each = λ n x g. absurd (let l = slice_get_within [] n x g in omega arith);
  kind = λ n x g. absurd (let l = slice_get_within [] n x g in omega arith);
  firsts_are = tt;
})

-- a list has the same kind where more are met
kind_stays : (lists : List (List Connector)) (kinds more kinds' : List Connector) (number kind : ℕ) → kinds' ≡ kinds ++ more → IsKind lists kinds number kind → IsKind lists kinds' number kind
kind_stays lists kinds more kinds' number kind e is =
    let w = is.within in
    let l = length-append kinds more in
    subst (λ z. IsKind lists z number kind) (sym e) (record { within = omega arith; is_last = is.is_last ∙ sym (get_left kinds more kind is.within) })

-- one end more
pub ends_more : (lists : List (List Connector)) (tails : List Tail) (kinds kinds' : List Connector) (firsts firsts' : List ℕ) (ends ends' : List End) (i kind class : ℕ) (multi : Bool) (t : Tail) (cs : List Connector) → AreTailsOf lists tails
    → slice_get tails i ≡ Some t → get_or lists i [] ≡ cs → class ≡ class_of_caps t.last.caps → multi ≡ t.last.multi → EndsSoFar lists kinds firsts ends i → MeetsKind kinds firsts kinds' firsts' t.last (i + 1) kind
    → ends' ≡ ends ++ record { id = i + 1; place = length cs - 1; shorter = t.shorter; kind = kind; class = class; is_multi = multi } ∷ [] → EndsSoFar lists kinds' firsts' ends' (i + 1)
ends_more lists tails kinds kinds' firsts firsts' ends ends' i kind class multi t cs are at e ec em so meets more =
    let end : ℕ → ℕ → Bool → End = λ id class multi. record { id = id; place = length cs - 1; shorter = t.shorter; kind = kind; class = class; is_multi = multi } in
    let is : IsEndOf lists (suc i) (end (i + 1) class multi) = subst (λ z. IsEndOf lists (suc i) (end z class multi)) (sym (add-one i))
    (subst (λ z. IsEndOf lists (suc i) (end (suc i) z multi)) (sym ec) (subst (λ z. IsEndOf lists (suc i) (end (suc i) (class_of_caps t.last.caps) z)) (sym em) (end_of lists tails i (length cs) kind t are at (ap (λ z. length z) (sym e))))) in
    let last = tail_last lists tails i t are at in
    let last' : last_of (list_of lists (i + 1)) ≡ Some t.last = subst (λ z. last_of (list_of lists z) ≡ Some t.last) (sym (add-one i)) last in
    let has : IsKind lists kinds' (suc i) kind = record { within = slice_get_within kinds' kind t.last meets.is_kind; is_last = last ∙ sym meets.is_kind } in
    let c = so.counted in
    let f = so.few in
    let g = meets.few in
    let l = length-append ends (end (i + 1) class multi ∷ []) in
    subst (λ z. EndsSoFar lists kinds' firsts' z (i + 1)) (sym more) (record {
      counted = omega arith;
      few = omega arith;
      each = λ n x g. elim (push_cases ends (end (i + 1) class multi) n x g) [
        | inl h ↦ so.each n x h.1
        | inr h ↦ subst (λ z. IsEndOf lists (suc z) x) (sym (h.0 ∙ c)) (subst (λ z. IsEndOf lists (suc i) z) h.1 is)
      ];
      kind = λ n x g. elim (push_cases ends (end (i + 1) class multi) n x g) [
        | inl h ↦ kind_stays lists kinds meets.grown kinds' (suc n) x.kind meets.grows (so.kind n x h.1)
        | inr h ↦ subst (λ z. IsKind lists kinds' (suc z) x.kind) (sym (h.0 ∙ c)) (subst (λ z. IsKind lists kinds' (suc i) z.kind) h.1 has)
      ];
      firsts_are = meets.met lists last' so.firsts_are;
    })

front_short : (cs x : List Connector) (n : ℕ) → length cs ≤ n → Contains (fronts cs) x → length x ≤ n
front_short cs x n l c =
    let r = map_out (λ n. take n cs) (range_with_len 1 (length cs)) x c in
    let b = range_out 1 (length cs) r.0 r.1 in
    let s = take_short cs r.0 in
    let e = ap (λ z. length z) r.2 in
    omega arith

-- each list of a problem is short
pub all_short : (positions : List (List Disjunct)) (x : List Connector) → IsProblem positions → Contains (all_fronts positions) x → length x ≤ SIDE
all_short positions x is c =
    let r = flat_out (flat_map fronts_of) positions x c in
    let s = flat_out fronts_of r.0 x r.2 in
    let f : FitsProblem s.0 = All-contains FitsProblem r.0 s.0 (All-contains IsPosition positions r.0 is.each r.1).fit s.1 in
    elim (Contains-append_cases (fronts s.0.left) (fronts s.0.right) x s.2) [
      | inl h ↦ front_short s.0.left x SIDE f.left h
      | inr h ↦ front_short s.0.right x SIDE f.right h
    ]

pub list_short : (positions : List (List Disjunct)) (lists : List (List Connector)) (n : ℕ) → IsProblem positions → AreListsOf positions lists → n < length lists → length (get_or lists n []) ≤ SIDE
list_short positions lists n is are l = all_short positions (get_or lists n []) is ((are.same (get_or lists n [])).0 (Contains-get_or lists n [] l))

pub within_rows : (positions : List (List Disjunct)) (word number : ℕ) → number < length (get_or positions word []) → word < length positions
within_rows positions word number l =
    elim (cases_lt word (length positions)) [
      | inl p ↦ p
      | inr p ↦ (let e = ap (λ z. length z) (get_or_past positions word [] p) in absurd (omega arith))
    ]

pub row_within : (lists : List (List Connector)) (positions : List (List Disjunct)) (rows : List (List Sides)) (word number : ℕ) → AreSidesOf lists positions rows → number < length (get_or positions word []) → word < length rows
row_within lists positions rows word number are l =
    let w = within_rows positions word number l in
    let e = zip_length (AllZip (HasSides lists)) positions rows are in
    omega arith

pub row_at : (lists : List (List Connector)) (positions : List (List Disjunct)) (rows : List (List Sides)) (word number : ℕ) → AreSidesOf lists positions rows → number < length (get_or positions word []) → AllZip (HasSides lists) (get_or positions word []) (get_or rows word [])
row_at lists positions rows word number are l = zip_at (AllZip (HasSides lists)) positions rows word [] [] are (within_rows positions word number l)

pub number_within : (lists : List (List Connector)) (ds : List Disjunct) (row : List Sides) (number : ℕ) → AllZip (HasSides lists) ds row → number < length ds → number < length row
number_within lists ds row number are l = let e = zip_length (HasSides lists) ds row are in omega arith

pub sides_at : (lists : List (List Connector)) (positions : List (List Disjunct)) (row : List Sides) (word number : ℕ) (s : Sides) (d : Disjunct) → AllZip (HasSides lists) (get_or positions word []) row → s ≡ get_or row number s → IsDisjunctAt positions word number d → HasSides lists d s
sides_at lists positions row word number s d are e is =
    let ds = get_or positions word [] in
    let l = slice_get_within ds number d is in
    let h = zip_at (HasSides lists) ds row number d s are l in
    subst (λ z. HasSides lists d z) (sym e) (subst (λ z. HasSides lists z (get_or row number s)) (get_or_from_slice_get ds number d d is) h)
