-- The numbers while more lists are met.
use Rattle.std.proofs.Common.{◌≡◌, ℕ, zero, suc, ◌+◌, ◌*◌, ◌<◌, ◌≤◌, ◌^◌, List, [], ◌∷◌, ◌++◌, length, take, get_or, map, refl, sym, ◌∙◌, ap, subst, arith, append_assoc, append-nil, length-append, add-one}
use Rattle.std.specs.List.{AllByRecursion, AllZip, flat_map, range_with_len, sum_by}
use Rattle.std.proofs.lemmas.List.{take_more, take_all, take-append-le, map-append, length-map}
use Rattle.std.proofs.lemmas.List.Elements.{recursion_from_All}
use Rattle.std.proofs.lemmas.List.FromFn.{length-range_with_len}
use Rattle.std.proofs.lemmas.Grind.{flat_map-append}
use Rattle.std.proofs.lemmas.List.Folds.{length-flat_map-take}
use Rattle.std.proofs.lemmas.List.Sums.{sum_by-cons}
use Rattle.lg_gram.specs.Connectors.{Connector}
use Rattle.lg_gram.specs.Problems.{IsProblem, IsPosition, FitsProblem}
use Rattle.lg_gram.specs.declared.disjunct.Disjunct.{Disjunct}
use Rattle.lg_region.specs.Fronts.{fronts, fronts_of, all_fronts, list_of}
use Rattle.lg_region.specs.Numbered.{AreNumbered, IsNumberOf, HasSides, Numbers, GivesNumber, GivesSides, Admits}
use Rattle.lg_region.specs.declared.numbering.Tail.{Tail}
use Rattle.lg_region.specs.declared.numbering.Sides.{Sides}
use Rattle.lg_region.proofs.Valid.{take_short}
use Rattle.lg_region.proofs.Admitting.{list_of_grown}

map_same : {X : Type 0} (f g : ℕ → X) (a n : ℕ) → ((i : ℕ) → a ≤ i → i < a + n → f i ≡ g i) → map f (range_with_len a n) ≡ map g (range_with_len a n)
map_same f g a zero h = refl
map_same f g a (suc n) h =
    let e = h a (omega arith) (omega arith) in
    let r = map_same f g (a + 1) n (λ i l m. h i (omega arith) (omega arith)) in
    ap (λ x. x ∷ map f (range_with_len (a + 1) n)) e ∙ ap (λ xs. g a ∷ xs) r

range_more : (a n : ℕ) → range_with_len a (suc n) ≡ range_with_len a n ++ (a + n) ∷ []
range_more a zero = ap (λ x. x ∷ []) (let e : a ≡ a + 0 = omega arith in e)
range_more a (suc n) =
    let e : (a + 1) + n ≡ a + suc n = omega arith in
    ap (λ xs. a ∷ xs) (range_more (a + 1) n ∙ ap (λ x. range_with_len (a + 1) n ++ x ∷ []) e)

pub length_fronts : (cs : List Connector) → length (fronts cs) ≡ length cs
length_fronts cs = length-map (range_with_len 1 (length cs)) (λ n. take n cs) ∙ length-range_with_len 1 (length cs)

-- one more connector gives one more front part
fronts_more : (xs : List Connector) (c : Connector) → fronts (xs ++ c ∷ []) ≡ fronts xs ++ (xs ++ c ∷ []) ∷ []
fronts_more xs c =
    let n = length xs in
    let ys = xs ++ c ∷ [] in
    let l : length ys ≡ suc n = length-append xs (c ∷ []) ∙ add-one n in
    let front : ℕ → List Connector = λ k. take k ys in
    let same : map front (range_with_len 1 n) ≡ map (λ k. take k xs) (range_with_len 1 n) = map_same front (λ k. take k xs) 1 n (λ i a b. take-append-le i xs (c ∷ []) (omega arith)) in
    let whole : front (1 + n) ≡ ys = take_all (1 + n) ys (omega arith) in
    ap (λ k. map front (range_with_len 1 k)) l ∙ ap (map front) (range_more 1 n) ∙ map-append front (range_with_len 1 n) ((1 + n) ∷ [])
    ∙ ap (λ z. z ++ front (1 + n) ∷ []) same ∙ ap (λ z. fronts xs ++ z ∷ []) whole

-- what stands after i connectors of a list
pub record Partly (old : List (List Connector)) (old_tails : List Tail) (lists : List (List Connector)) (tails : List Tail) (cs : List Connector) (i id : ℕ) : Type 0 where
  pub numbers : Numbers old old_tails lists tails (fronts (take i cs))
  pub number : GivesNumber old old_tails lists (take i cs) id

pub numbers_none : (lists : List (List Connector)) (tails : List Tail) → length tails ≡ length lists → Numbers lists tails lists tails []
numbers_none lists tails level = record {
  grown = [];
  grows = sym (append-nil lists);
  few = omega arith;
  level = level;
  numbered = λ met is. subst (λ z. AreNumbered z lists tails) (sym (append-nil met)) is;
}

pub numbers_then : (a : List (List Connector)) (ta : List Tail) (b : List (List Connector)) (tb : List Tail) (c : List (List Connector)) (tc : List Tail) (m n : List (List Connector)) → Numbers a ta b tb m → Numbers b tb c tc n → Numbers a ta c tc (m ++ n)
numbers_then a ta b tb c tc m n x y = record {
  grown = x.grown ++ y.grown;
  grows = y.grows ∙ ap (λ z. z ++ y.grown) x.grows ∙ append_assoc a x.grown y.grown;
  few = let l = length-append m n in let p = x.few in let q = y.few in omega arith;
  level = y.level;
  numbered = λ met is. subst (λ z. AreNumbered z c tc) (append_assoc met m n) (y.numbered (met ++ m) (x.numbered met is));
}

pub partly_none : (lists : List (List Connector)) (tails : List Tail) (cs : List Connector) → length tails ≡ length lists → Partly lists tails lists tails cs 0 0
partly_none lists tails cs level = record { numbers = numbers_none lists tails level; number = λ met is. record { known = omega arith; list = refl } }

pub partly_more : (old : List (List Connector)) (old_tails : List Tail) (lists : List (List Connector)) (tails : List Tail) (lists' : List (List Connector)) (tails' : List Tail) (cs front : List Connector) (i id id' : ℕ) (c : Connector)
    → Partly old old_tails lists tails cs i id → i < length cs → c ≡ get_or cs i c → front ≡ take (i + 1) cs
    → Admits lists tails lists' tails' (record { shorter = id; last = c }) front id' → Partly old old_tails lists' tails' cs (i + 1) id'
partly_more old old_tails lists tails lists' tails' cs front i id id' c p l e f a =
    let xs = take i cs in
    let t : take (i + 1) cs ≡ xs ++ c ∷ [] = take_more cs i c l ∙ ap (λ z. xs ++ z ∷ []) (sym e) in
    let more : fronts (take (i + 1) cs) ≡ fronts xs ++ front ∷ [] = ap fronts t ∙ fronts_more xs c ∙ ap (λ z. fronts xs ++ z ∷ []) (sym (f ∙ t)) in
    let admitted = λ (met : List (List Connector)) (is : AreNumbered met old old_tails).
    let n = p.number met is in
    a.admitted (met ++ fronts xs) (p.numbers.numbered met is) n.known (f ∙ t ∙ ap (λ z. z ++ c ∷ []) (sym n.list)) in
    let one : Numbers lists tails lists' tails' (front ∷ []) → Numbers old old_tails lists' tails' (fronts (take (i + 1) cs)) = λ y. subst (λ z. Numbers old old_tails lists' tails' z) (sym more) (numbers_then old old_tails lists tails lists' tails' (fronts xs) (front ∷ []) p.numbers y) in
    record {
      numbers = record {
        grown = p.numbers.grown ++ a.grown;
        grows = a.grows ∙ ap (λ z. z ++ a.grown) p.numbers.grows ∙ append_assoc old p.numbers.grown a.grown;
        few = let x = ap (λ z. length z) more ∙ length-append (fronts xs) (front ∷ []) in let u = a.few in let v = p.numbers.few in omega arith;
        level = a.level;
        numbered = λ met is. subst (λ z. AreNumbered z lists' tails') (append_assoc met (fronts xs) (front ∷ []) ∙ ap (λ z. met ++ z) (sym more)) (admitted met is).0;
      };
      number = λ met is. subst (λ z. IsNumberOf lists' id' z) f (admitted met is).1;
    }

pub partly_all : (old : List (List Connector)) (old_tails : List Tail) (lists : List (List Connector)) (tails : List Tail) (cs : List Connector) (i id : ℕ) → length cs ≤ i → Partly old old_tails lists tails cs i id
    → Numbers old old_tails lists tails (fronts cs) × GivesNumber old old_tails lists cs id
partly_all old old_tails lists tails cs i id l p =
    let e = take_all i cs l in
    (subst (λ z. Numbers old old_tails lists tails (fronts z)) e p.numbers, subst (λ z. GivesNumber old old_tails lists z id) e p.number)

number_grows : (lists lists' rest : List (List Connector)) (id : ℕ) (cs : List Connector) → lists' ≡ lists ++ rest → IsNumberOf lists id cs → IsNumberOf lists' id cs
number_grows lists lists' rest id cs e is =
    let l = ap (λ z. length z) e ∙ length-append lists rest in
    let k = is.known in
    record { known = omega arith; list = ap (λ z. list_of z id) e ∙ list_of_grown lists rest id is.known ∙ is.list }

sides_grow : (lists lists' rest : List (List Connector)) (d : Disjunct) (s : Sides) → lists' ≡ lists ++ rest → HasSides lists d s → HasSides lists' d s
sides_grow lists lists' rest d s e is =
    record { left = number_grows lists lists' rest s.left d.left e is.left; right = number_grows lists lists' rest s.right d.right e is.right }

zip_map : {A B : Type 0} (R S : A → B → Type 0) → ((x : A) (y : B) → R x y → S x y) → (xs : List A) (ys : List B) → AllZip R xs ys → AllZip S xs ys
zip_map R S f [] [] h = tt
zip_map R S f [] (y ∷ ys) h = absurd h
zip_map R S f (x ∷ xs) [] h = absurd h
zip_map R S f (x ∷ xs) (y ∷ ys) h = (f x y h.0, zip_map R S f xs ys h.1)

pub zip_push : {A B : Type 0} (R : A → B → Type 0) (xs : List A) (ys : List B) (x : A) (y : B) → AllZip R xs ys → R x y → AllZip R (xs ++ x ∷ []) (ys ++ y ∷ [])
zip_push R [] [] x y h r = (r, tt)
zip_push R [] (b ∷ bs) x y h r = absurd h
zip_push R (a ∷ as') [] x y h r = absurd h
zip_push R (a ∷ as') (b ∷ bs) x y h r = (h.0, zip_push R as' bs x y h.1 r)

row_grows : (lists lists' rest : List (List Connector)) (ds : List Disjunct) (row : List Sides) → lists' ≡ lists ++ rest → AllZip (HasSides lists) ds row → AllZip (HasSides lists') ds row
row_grows lists lists' rest ds row e = zip_map (HasSides lists) (HasSides lists') (λ d s. sides_grow lists lists' rest d s e) ds row

-- what stands after some disjuncts of a position
pub record RowSoFar (old : List (List Connector)) (old_tails : List Tail) (lists : List (List Connector)) (tails : List Tail) (ds : List Disjunct) (row : List Sides) : Type 0 where
  pub numbers : Numbers old old_tails lists tails (flat_map fronts_of ds)
  pub sides : GivesSides old old_tails lists ds row

pub row_more : (old : List (List Connector)) (old_tails : List Tail) (a : List (List Connector)) (ta : List Tail) (b : List (List Connector)) (tb : List Tail) (c : List (List Connector)) (tc : List Tail) (ds : List Disjunct) (d : Disjunct) (row : List Sides) (left right : ℕ)
    → RowSoFar old old_tails a ta ds row → Numbers a ta b tb (fronts d.left) → GivesNumber a ta b d.left left → Numbers b tb c tc (fronts d.right) → GivesNumber b tb c d.right right
    → RowSoFar old old_tails c tc (ds ++ d ∷ []) (row ++ record { left = left; right = right } ∷ [])
row_more old old_tails a ta b tb c tc ds d row left right so x gx y gy =
    let m = flat_map fronts_of ds in
    let both : Numbers a ta c tc (fronts_of d) = numbers_then a ta b tb c tc (fronts d.left) (fronts d.right) x y in
    let e : m ++ fronts_of d ≡ flat_map fronts_of (ds ++ d ∷ []) = sym (flat_map-append fronts_of ds (d ∷ []) ∙ ap (λ z. m ++ z) (append-nil (fronts_of d))) in
    record {
      numbers = subst (λ z. Numbers old old_tails c tc z) e (numbers_then old old_tails a ta c tc m (fronts_of d) so.numbers both);
      sides = λ met is.
          let n = so.numbers.numbered met is in
          let k = x.numbered (met ++ m) n in
          zip_push (HasSides c) ds row d (record { left = left; right = right }) (row_grows a c both.grown ds row both.grows (so.sides met is))
          (record { left = number_grows b c y.grown left d.left y.grows (gx (met ++ m) n); right = gy ((met ++ m) ++ fronts d.left) k });
    }

-- and after some positions
pub record RowsSoFar (old : List (List Connector)) (old_tails : List Tail) (lists : List (List Connector)) (tails : List Tail) (positions : List (List Disjunct)) (rows : List (List Sides)) : Type 0 where
  pub numbers : Numbers old old_tails lists tails (all_fronts positions)
  pub sides : (met : List (List Connector)) → AreNumbered met old old_tails → AllZip (AllZip (HasSides lists)) positions rows

pub rows_more : (old : List (List Connector)) (old_tails : List Tail) (a : List (List Connector)) (ta : List Tail) (b : List (List Connector)) (tb : List Tail) (positions : List (List Disjunct)) (ds : List Disjunct) (rows : List (List Sides)) (row : List Sides)
    → RowsSoFar old old_tails a ta positions rows → Numbers a ta b tb (flat_map fronts_of ds) → GivesSides a ta b ds row → RowsSoFar old old_tails b tb (positions ++ ds ∷ []) (rows ++ row ∷ [])
rows_more old old_tails a ta b tb positions ds rows row so x s =
    let m = all_fronts positions in
    let n = flat_map fronts_of ds in
    let e : m ++ n ≡ all_fronts (positions ++ ds ∷ []) = sym (flat_map-append (flat_map fronts_of) positions (ds ∷ []) ∙ ap (λ z. m ++ z) (append-nil n)) in
    record {
      numbers = subst (λ z. Numbers old old_tails b tb z) e (numbers_then old old_tails a ta b tb m n so.numbers x);
      sides = λ met is.
          zip_push (AllZip (HasSides b)) positions rows ds row
          (zip_map (AllZip (HasSides a)) (AllZip (HasSides b)) (λ ds' row'. row_grows a b x.grown ds' row' x.grows) positions rows (so.sides met is))
          (s (met ++ m) (so.numbers.numbered met is));
    }

few_of_row : (ds : List Disjunct) → AllByRecursion FitsProblem ds → length (flat_map fronts_of ds) ≤ 510 * length ds
few_of_row [] h = omega arith
few_of_row (d ∷ ds) h =
    let r = few_of_row ds h.1 in
    let a = h.0.left in
    let b = h.0.right in
    let l = length_fronts d.left in
    let m = length_fronts d.right in
    let x = length-append (fronts d.left) (fronts d.right) in
    let y = length-append (fronts_of d) (flat_map fronts_of ds) in
    omega arith

few_of_rows : (positions : List (List Disjunct)) → AllByRecursion IsPosition positions → length (all_fronts positions) ≤ 510 * sum_by length positions
few_of_rows [] h = omega arith
few_of_rows (ds ∷ rest) h =
    let r = few_of_rows rest h.1 in
    let a = few_of_row ds (recursion_from_All FitsProblem ds h.0.fit) in
    let y = length-append (flat_map fronts_of ds) (all_fronts rest) in
    let z = sum_by-cons {X = List Disjunct} length ds rest in
    omega arith

-- there are fewer front parts than numbers
pub few_fronts : (positions : List (List Disjunct)) → IsProblem positions → length (all_fronts positions) < 2 ^ 32
few_fronts positions is =
    let a = few_of_rows positions (recursion_from_All IsPosition positions is.each) in
    let b = is.few_disjuncts in
    omega arith

-- room for the next front part of a list
pub room_in : (old : List (List Connector)) (old_tails : List Tail) (lists : List (List Connector)) (tails : List Tail) (cs : List Connector) (i id : ℕ) → Partly old old_tails lists tails cs i id → i < length cs → length lists + 1 ≤ length old + length (fronts cs)
room_in old old_tails lists tails cs i id p l =
    let f = p.numbers.few in
    let a = length_fronts (take i cs) in
    let b = length_fronts cs in
    let t = take_short cs i in
    omega arith

-- room for the next disjunct of a position, and for the next position
pub room_for : {X : Type 0} (f : X → List (List Connector)) (xs : List X) (i : ℕ) (x : X) (old lists : List (List Connector)) → length lists ≤ length old + length (flat_map f (take i xs)) → i < length xs → x ≡ get_or xs i x
    → length lists + length (f x) ≤ length old + length (flat_map f xs)
room_for f xs i x old lists few l e =
    let a = length-flat_map-take f xs i x l in
    let b = ap (λ z. length (f z)) e in
    omega arith

pub row_none : (lists : List (List Connector)) (tails : List Tail) (row : List Sides) → length tails ≡ length lists → row ≡ [] → RowSoFar lists tails lists tails [] row
row_none lists tails row level e = record { numbers = numbers_none lists tails level; sides = λ met is. subst (λ z. AllZip (HasSides lists) [] z) (sym e) tt }

pub row_step : (old : List (List Connector)) (old_tails : List Tail) (a : List (List Connector)) (ta : List Tail) (b : List (List Connector)) (tb : List Tail) (c : List (List Connector)) (tc : List Tail) (ds : List Disjunct) (i : ℕ) (d : Disjunct) (ls rs : List Connector) (row row' : List Sides) (left right : ℕ)
    → i < length ds → d ≡ get_or ds i d → ls ≡ d.left → rs ≡ d.right → row' ≡ row ++ record { left = left; right = right } ∷ [] → RowSoFar old old_tails a ta (take i ds) row
    → Numbers a ta b tb (fronts ls) → GivesNumber a ta b ls left → Numbers b tb c tc (fronts rs) → GivesNumber b tb c rs right → RowSoFar old old_tails c tc (take (i + 1) ds) row'
row_step old old_tails a ta b tb c tc ds i d ls rs row row' left right l e el er ew so x gx y gy =
    let t : take (i + 1) ds ≡ take i ds ++ d ∷ [] = take_more ds i d l ∙ ap (λ z. take i ds ++ z ∷ []) (sym e) in
    let r = row_more old old_tails a ta b tb c tc (take i ds) d row left right so (subst (λ z. Numbers a ta b tb (fronts z)) el x) (subst (λ z. GivesNumber a ta b z left) el gx)
    (subst (λ z. Numbers b tb c tc (fronts z)) er y) (subst (λ z. GivesNumber b tb c z right) er gy) in
    subst (λ z. RowSoFar old old_tails c tc z row') (sym t) (subst (λ z. RowSoFar old old_tails c tc (take i ds ++ d ∷ []) z) (sym ew) r)

pub row_all : (old : List (List Connector)) (old_tails : List Tail) (lists : List (List Connector)) (tails : List Tail) (ds : List Disjunct) (i : ℕ) (row : List Sides) → length ds ≤ i → RowSoFar old old_tails lists tails (take i ds) row → RowSoFar old old_tails lists tails ds row
row_all old old_tails lists tails ds i row l so = subst (λ z. RowSoFar old old_tails lists tails z row) (take_all i ds l) so

pub rows_none : (lists : List (List Connector)) (tails : List Tail) (rows : List (List Sides)) → length tails ≡ length lists → rows ≡ [] → RowsSoFar lists tails lists tails [] rows
rows_none lists tails rows level e = record { numbers = numbers_none lists tails level; sides = λ met is. subst (λ z. AllZip (AllZip (HasSides lists)) [] z) (sym e) tt }

pub rows_step : (old : List (List Connector)) (old_tails : List Tail) (a : List (List Connector)) (ta : List Tail) (b : List (List Connector)) (tb : List Tail) (positions : List (List Disjunct)) (i : ℕ) (ds ds' : List Disjunct) (rows rows' : List (List Sides)) (row : List Sides)
    → i < length positions → ds ≡ get_or positions i ds → ds' ≡ ds → rows' ≡ rows ++ row ∷ [] → RowsSoFar old old_tails a ta (take i positions) rows → Numbers a ta b tb (flat_map fronts_of ds') → GivesSides a ta b ds' row
    → RowsSoFar old old_tails b tb (take (i + 1) positions) rows'
rows_step old old_tails a ta b tb positions i ds ds' rows rows' row l e ed er so x s =
    let t : take (i + 1) positions ≡ take i positions ++ ds ∷ [] = take_more positions i ds l ∙ ap (λ z. take i positions ++ z ∷ []) (sym e) in
    let r = rows_more old old_tails a ta b tb (take i positions) ds rows row so (subst (λ z. Numbers a ta b tb (flat_map fronts_of z)) ed x) (subst (λ z. GivesSides a ta b z row) ed s) in
    subst (λ z. RowsSoFar old old_tails b tb z rows') (sym t) (subst (λ z. RowsSoFar old old_tails b tb (take i positions ++ ds ∷ []) z) (sym er) r)

pub rows_all : (old : List (List Connector)) (old_tails : List Tail) (lists : List (List Connector)) (tails : List Tail) (positions : List (List Disjunct)) (i : ℕ) (rows : List (List Sides)) → length positions ≤ i → RowsSoFar old old_tails lists tails (take i positions) rows → RowsSoFar old old_tails lists tails positions rows
rows_all old old_tails lists tails positions i rows l so = subst (λ z. RowsSoFar old old_tails lists tails z rows) (take_all i positions l) so

-- the empty table
pub none_numbered : (lists : List (List Connector)) (tails : List Tail) → length lists ≡ 0 → length tails ≡ 0 → AreNumbered [] lists tails
none_numbered [] [] l t = record {
  first_met = record { same = λ x. (λ h. h, λ h. h); once = λ i j x e f. absurd cc; first = λ i j q x y l e f g. absurd cc };
  tailed = record { same_length = refl; each = λ n t e. absurd cc };
}
none_numbered [] (t ∷ ts) l e = absurd (omega arith)
none_numbered (x ∷ xs) tails l e = absurd (omega arith)
