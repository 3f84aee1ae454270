-- Numbers of the right ends of regions.
use Rattle.std.proofs.Common.{◌≡◌, ◌≢◌, ℕ, zero, suc, ◌+◌, ◌<◌, inl, inr, List, [], ◌∷◌, ◌++◌, length, Some, get_or, replicate, set, refl, sym, ap, ◌∙◌, subst, Contains, arith}
use Rattle.std.specs.List.{slice_get}
use Rattle.std.proofs.lemmas.Bool.{cases_eq}
use Rattle.std.proofs.lemmas.List.{get_or-map, get_or-set_same, get_or-set_other, length-map, length-set, map-set}
use Rattle.std.proofs.lemmas.Option.{same_Some, slice_get_within}
use Rattle.lg_region.specs.Fronts.{AreOnce}
use Rattle.lg_region.proofs.Once.{append_cases}
use Rattle.std.specs.Global.{Vec}
use Rattle.std.specs.Vec.{with_item}
use Rattle.lg_forest.specs.RightEnds.{AreRightEnds, IsEntry, entry, rows_in}
use Rattle.lg_forest.specs.declared.right_ends.RightEnd.{RightEnd}
use Rattle.lg_forest.proofs.Once.{contains_at}

-- ---- the rows

abbrev items : Vec ℕ → List ℕ
items row = row.items

-- zeros behind a row
pub row_filled : (row : List ℕ) (more list : ℕ) → get_or (row ++ replicate more 0) list 0 ≡ get_or row list 0
row_filled [] zero list = refl
row_filled [] (suc more) zero = refl
row_filled [] (suc more) (suc list) = row_filled [] more list
row_filled (r ∷ row) more zero = refl
row_filled (r ∷ row) more (suc list) = row_filled row more list

-- another row in place of one
module _ (rows : List (List ℕ)) (word : ℕ) (row : List ℕ) where
  here : (list : ℕ) → word < length rows → entry (set rows word row) word list ≡ get_or row list 0
  here list l = ap (λ z. get_or z list 0) (get_or-set_same rows word row [] l)

  elsewhere : (w list : ℕ) → w ≢ word → entry (set rows word row) w list ≡ entry rows w list
  elsewhere w list other = ap (λ z. get_or z list 0) (get_or-set_other rows word w row [] other)

  -- one that has the same entries
  entry_filled : word < length rows → ((list : ℕ) → get_or row list 0 ≡ entry rows word list) → (w list : ℕ) → entry (set rows word row) w list ≡ entry rows w list
  entry_filled l same w list = elim (cases_eq w word) [
    | inl e ↦ ap (λ z. entry (set rows word row) z list) e ∙ here list l ∙ same list ∙ sym (ap (λ z. entry rows z list) e)
    | inr f ↦ elsewhere w list f
  ]

-- a number is put in
module _ (rows : List (List ℕ)) (word list number : ℕ) (is : IsEntry rows word list) where
  abbrev row : List ℕ
  row = set (get_or rows word []) list number

  pub entry_put : entry (set rows word row) word list ≡ number
  entry_put = here rows word row list is.0 ∙ get_or-set_same (get_or rows word []) list number 0 is.1

  pub entry_kept : (w l : ℕ) → ((w ≡ word) × (l ≡ list) → ⊥) → entry (set rows word row) w l ≡ entry rows w l
  entry_kept w l other = elim (cases_eq w word) [
    | inl e ↦ ap (λ z. entry (set rows word row) z l) e ∙ here rows word row l is.0 ∙ get_or-set_other (get_or rows word []) list l number 0 (λ f. other (e, f)) ∙ sym (ap (λ z. entry rows z l) e)
    | inr f ↦ elsewhere rows word row w l f
  ]

-- the same where the row is a vector
pub rows_put : (numbers : List (Vec ℕ)) (word list number : ℕ) (row : Vec ℕ) → row ≡ get_or numbers word row → word < length (rows_in numbers)
    → rows_in (set numbers word (with_item row list number)) ≡ set (rows_in numbers) word (set (get_or (rows_in numbers) word []) list number)
rows_put numbers word list number row is l =
    let long = length-map numbers items in
    let there : get_or (rows_in numbers) word [] ≡ row.items = get_or-map items numbers word row [] (omega arith) ∙ ap items (sym is) in
    map-set items numbers word (with_item row list number) ∙ ap (λ z. set (rows_in numbers) word (set z list number)) (sym there)

items_there : (numbers : List (Vec ℕ)) (word : ℕ) (row : Vec ℕ) → row ≡ get_or numbers word row → word < length numbers → row.items ≡ get_or (rows_in numbers) word []
items_there numbers word row is l = ap items is ∙ sym (get_or-map items numbers word row [] l)

-- a vector with the same entries in place of one
pub room_same : (numbers : List (Vec ℕ)) (word : ℕ) (row new : Vec ℕ) → row ≡ get_or numbers word row → word < length numbers → ((list : ℕ) → get_or new.items list 0 ≡ get_or row.items list 0)
    → (w l : ℕ) → entry (rows_in (set numbers word new)) w l ≡ entry (rows_in numbers) w l
room_same numbers word row new is within same w l =
    let long = length-map numbers items in
    ap (λ z. entry z w l) (map-set items numbers word new)
    ∙ entry_filled (rows_in numbers) word new.items (omega arith) (λ list. same list ∙ ap (λ z. get_or z list 0) (items_there numbers word row is within)) w l

-- and one with room
pub room_there : (numbers : List (Vec ℕ)) (word list : ℕ) (new : Vec ℕ) → word < length numbers → list < length new.items → IsEntry (rows_in (set numbers word new)) word list
room_there numbers word list new within room =
    let long = length-map numbers items in
    let l : word < length (rows_in numbers) = omega arith in
    let same = length-set (rows_in numbers) word new.items in
    subst (λ z. IsEntry z word list) (sym (map-set items numbers word new))
    (omega arith, subst (λ z. list < length z) (sym (get_or-set_same (rows_in numbers) word new.items [] l)) room)

-- ---- the ends

pub ends_once : (ends : List RightEnd) (rows : List (List ℕ)) → AreRightEnds ends rows → AreOnce ends
ends_once ends rows are i j e p q = let a = are.there i e p in let b = are.there j e q in omega arith

-- only the entries tell
pub ends_as : (ends : List RightEnd) (rows rows' : List (List ℕ)) → ((w l : ℕ) → entry rows' w l ≡ entry rows w l) → AreRightEnds ends rows → AreRightEnds ends rows'
ends_as ends rows rows' same are = record {
  there = λ n e at. same e.word e.list ∙ are.there n e at;
  back = λ word list n is. are.back word list n (sym (same word list) ∙ is);
}

-- an end more
at_left : {X : Type 0} (xs ys : List X) (n : ℕ) (x : X) → slice_get xs n ≡ Some x → slice_get (xs ++ ys) n ≡ Some x
at_left [] ys n x at = absurd (let l = slice_get_within [] n x at in omega arith)
at_left (y ∷ xs) ys zero x at = at
at_left (y ∷ xs) ys (suc n) x at = at_left xs ys n x at

pub at_seam : {X : Type 0} (xs : List X) (x : X) (n : ℕ) → n ≡ length xs → slice_get (xs ++ x ∷ []) n ≡ Some x
at_seam [] x zero e = refl
at_seam [] x (suc n) e = absurd (omega (arith, e))
at_seam (y ∷ xs) x zero e = absurd (omega (arith, e))
at_seam (y ∷ xs) x (suc n) e = at_seam xs x n (let f : suc n ≡ suc (length xs) = e in omega arith)

module _ (ends : List RightEnd) (rows rows' : List (List ℕ)) (end : RightEnd) (number : ℕ) (are : AreRightEnds ends rows) (fresh : Contains ends end → ⊥) (next : number ≡ suc (length ends))
    (there : entry rows' end.word end.list ≡ number) (others : (w l : ℕ) → ((w ≡ end.word) × (l ≡ end.list) → ⊥) → entry rows' w l ≡ entry rows w l) where
  same_end : (e : RightEnd) → e.word ≡ end.word → e.list ≡ end.list → e ≡ end
  same_end e a b = λ i. record { word = a i; list = b i }

  pub ends_pushed : AreRightEnds (ends ++ end ∷ []) rows'
  ends_pushed = record {
    there = λ n e at. elim (append_cases ends (end ∷ []) n e at) [
      | inl was ↦ others e.word e.list (λ (a, b). fresh (subst (Contains ends) (same_end e a b) (contains_at ends n e was))) ∙ are.there n e was
      | inr (j, after, last) ↦ (
          let l = slice_get_within (end ∷ []) j e last in
          let first : j ≡ 0 = omega arith in
          let is : end ≡ e = same_Some end e (subst (λ z. slice_get (end ∷ []) z ≡ Some e) first last) in
          let at_end : suc n ≡ suc (length ends) = omega arith in
          subst (λ (z : RightEnd). entry rows' z.word z.list ≡ suc n) is (there ∙ next ∙ sym at_end)
          )
    ];
    back = λ w l n is. elim (cases_eq w end.word) [
      | inl a ↦ elim (cases_eq l end.list) [
        | inl b ↦ (
            let e : RightEnd = record { word = w; list = l } in
            let this : suc n ≡ suc (length ends) = sym is ∙ ap (λ z. entry rows' z l) a ∙ ap (λ z. entry rows' end.word z) b ∙ there ∙ next in
            let place : n ≡ length ends = omega arith in
            at_seam ends end n place ∙ ap Some (sym (same_end e a b))
            )
        | inr f ↦ at_left ends (end ∷ []) n (record { word = w; list = l }) (are.back w l n (sym (others w l (λ (c, d). f d)) ∙ is))
      ]
      | inr f ↦ at_left ends (end ∷ []) n (record { word = w; list = l }) (are.back w l n (sym (others w l (λ (c, d). f c)) ∙ is))
    ];
  }
