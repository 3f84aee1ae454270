-- What waits when rows change.
use Rattle.std.proofs.Common.{◌≡◌, ◌≢◌, ℕ, zero, suc, ◌+◌, ◌-◌, ◌/◌, ◌==◌, ◌<◌, ◌≤◌, take, ◌⊎◌, false, List, [], ◌∷◌, ◌++◌, length, get_or, Option, Some, None, slice_get, cond, inl, inr, Result, Ok, Err, refl, sym, ap, ◌∙◌, subst, arith, Contains, Less, Equal, Greater}
use Rattle.std.specs.BinaryHeap.{IsHeap, KeepsHeap, PopsGreatest}
use Rattle.std.specs.Cmp.{IsTotalOrder}
use Rattle.std.specs.List.{IsDistinct}
use Rattle.std.specs.Option.{IfSome, OnSome}
use Rattle.std.specs.Result.{IsOk, OnOk, is_ok}
use Rattle.std.specs.List.Sorted.{IsPermutation}
use Rattle.std.specs.Ordering.{is_lt}
use Rattle.std.specs.declared.cmp.Ordering.{Ordering}
use Rattle.std.proofs.lemmas.Bool.{cases_lt}
use Rattle.std.proofs.lemmas.Bool.Decides.{nat_tests}
use Rattle.std.proofs.lemmas.List.{take_more}
use Rattle.std.proofs.lemmas.List.Elements.{All-from_recursion, recursion_from_All, All-contains, Contains-get_or}
use Rattle.std.proofs.lemmas.List.Sorted.{IsPermutation-sym, IsPermutation-trans, IsPermutation-append_right, Contains-permutation}
use Rattle.std.proofs.lemmas.Map.Keys.{IsDistinct-cons, IsDistinct-head, IsDistinct-tail, IsDistinct-IsPermutation}
use Rattle.std.proofs.lemmas.Option.{slice_get_within, get_or_from_slice_get}
use Rattle.lg_rank.specs.Fronts.{AtMost}
use Rattle.lg_rank.specs.Merges.{Advanced}
use Rattle.lg_rank.specs.Queues.{waiting_cmp, least_part, same_place, waiting_list, MakesAt, Waits, IsQueue, IsFirstAt, IsWaiting, IsOpened, Requeued}
use Rattle.lg_rank.specs.Values.{Value, value_of, value_cmp}
use Rattle.lg_rank.specs.declared.queue.Waiting.{Waiting}
use Rattle.lg_rank.proofs.Choosing.{not_less}
use Rattle.lg_rank.proofs.Elements.{push_old, push_here, push_from, most_trans}
use Rattle.lg_base.proofs.Elements.{contains_here, contains_later, contains_cases, contains_none}

-- ---- places that differ
same_back : (a b : ℕ) → (a == b) ≡ (b == a)
same_back a b = grind (arith, nat_tests)

differ : (a b : ℕ) → (a ≡ b → ⊥) → (a == b) ≡ false
differ a b h = grind (arith, nat_tests)

differ_back : (a b : ℕ) → (a == b) ≡ false → a ≡ b → ⊥
differ_back a b h e = absurd (grind (arith, nat_tests))

-- ---- one more that may not be there
list_cases : (o : Option Waiting) (xs : List Waiting) (w : Waiting) → Contains (waiting_list o ++ xs) w → (o ≡ Some w) ⊎ Contains xs w
list_cases None xs w i = inr i
list_cases (Some v) xs w i = elim (contains_cases v xs w i) [ inl e ↦ inl (ap Some e) | inr j ↦ inr j ]

list_in : (o : Option Waiting) (xs : List Waiting) (w : Waiting) → o ≡ Some w → Contains (waiting_list o ++ xs) w
list_in None xs w e = absurd cc
list_in (Some v) xs w e = (let f : v ≡ w = cc in subst (λ (t : Waiting). Contains (v ∷ xs) t) f (contains_here v xs))

list_past : (o : Option Waiting) (xs : List Waiting) (w : Waiting) → Contains xs w → Contains (waiting_list o ++ xs) w
list_past None xs w i = i
list_past (Some v) xs w i = contains_later v xs w i

once_more : (o : Option Waiting) (xs : List Waiting) → ((w v : Waiting) → o ≡ Some w → Contains xs v → w.place ≡ v.place → ⊥) → IsDistinct same_place xs → IsDistinct same_place (waiting_list o ++ xs)
once_more None xs h d = d
once_more (Some w) xs h d = IsDistinct-cons same_place w xs (recursion_from_All (λ v. same_place w v ≡ false) xs (λ k e l. differ w.place (get_or xs k e).place (h w (get_or xs k e) refl (Contains-get_or xs k e l)))) d

-- ---- what a row is to wait with
waits_with : {R : Type 0} (held : R → Option Value) (m : ℕ) (r : R) (o : Option Waiting) (w : Waiting) → IsWaiting held m r o → o ≡ Some w → (w.place ≡ m) × (held r ≡ Some (value_of w.part))
waits_with held m r None w i e = absurd cc
waits_with held m r (Some v) w i e = (let f : v ≡ w = cc in (ap (λ (t : Waiting). t.place) (sym f) ∙ i.0, i.1 ∙ ap (λ (t : Waiting). Some (value_of t.part)) f))

waits_for : {R : Type 0} (held : R → Option Value) (m : ℕ) (r : R) (o : Option Waiting) (v : Value) → IsWaiting held m r o → held r ≡ Some v → (w : Waiting) × (o ≡ Some w) × (w.place ≡ m)
waits_for held m r None v i e = absurd (let f : ◌≡◌ {A = Option Value} None (Some v) = sym i ∙ e in cc)
waits_for held m r (Some w) v i e = (w, refl, i.0)

opens_with : {R : Type 0} (held : R → Option Value) (m : ℕ) (begun : Option R) (o : Option Waiting) (w : Waiting) → IsOpened held m begun o → o ≡ Some w → (r : R) × (begun ≡ Some r) × (w.place ≡ m) × (held r ≡ Some (value_of w.part))
opens_with held m None o w i e = absurd (let f : ◌≡◌ {A = Option Waiting} None (Some w) = sym i ∙ e in cc)
opens_with held m (Some r) o w i e = (let a = waits_with held m r o w i e in (r, refl, a.0, a.1))

opens_for : {R : Type 0} (held : R → Option Value) (m : ℕ) (begun : Option R) (o : Option Waiting) (r : R) (v : Value) → IsOpened held m begun o → begun ≡ Some r → held r ≡ Some v → (w : Waiting) × (o ≡ Some w) × (w.place ≡ m)
opens_for held m None o r v i e h = absurd cc
opens_for held m (Some t) o r v i e h = (let f : t ≡ r = cc in waits_for held m t o v i (ap held f ∙ h))

-- ---- what waits
pub waits_none : {R : Type 0} (held : R → Option Value) → Waits held [] []
unfolding IsDistinct
waits_none held = record { once = tt; sound = λ w i. absurd (contains_none w i); all = λ m v h. absurd (let e = h.here in cc) }

pub waits_permuted : {R : Type 0} (held : R → Option Value) (rows : List R) (xs ys : List Waiting) → IsPermutation xs ys → Waits held rows xs → Waits held rows ys
waits_permuted held rows xs ys p w = record {
  once = IsDistinct-IsPermutation same_place (λ a b. same_back a.place b.place) xs ys p w.once;
  sound = λ v i. w.sound v (Contains-permutation ys xs v (IsPermutation-sym xs ys p) i);
  all = λ m v h. (let a = w.all m v h in (a.0, Contains-permutation xs ys a.0 p a.1, a.2));
}

pub queue_same : {R : Type 0} (f g : R → Option Value) (rows : List R) (q : List Waiting) → ((j : ℕ) (t : R) → slice_get rows j ≡ Some t → f t ≡ g t) → IsQueue f rows q → IsQueue g rows q
queue_same f g rows q same is = record {
  heap = is.heap;
  waits = record {
    once = is.waits.once;
    sound = λ w i. (let s = is.waits.sound w i in record { row = s.row; here = s.here; value = sym (same w.place s.row s.here) ∙ s.value });
    all = λ m v h. is.waits.all m v (record { row = h.row; here = h.here; value = same m h.row h.here ∙ h.value });
  };
}

-- one more row
pub waits_push : {R : Type 0} (held : R → Option Value) (rows : List R) (r : R) (o : Option Waiting) (q : List Waiting) → Waits held rows q → IsWaiting held (length rows) r o → Waits held (rows ++ r ∷ []) (waiting_list o ++ q)
waits_push {R} held rows r o q waits is = record {
  once = once_more o q (λ w v e i same. let a = waits_with held (length rows) r o w is e in let b = waits.sound v i in let l = slice_get_within rows v.place b.row b.here in let p = a.0 in absurd (omega arith)) waits.once;
  sound = λ w i. elim (list_cases o q w i) [
    | inl e ↦ (let a = waits_with held (length rows) r o w is e in record { row = r; here = (λ k. slice_get (rows ++ r ∷ []) (a.0 k)) ∙ push_here rows r; value = a.1 })
    | inr j ↦ (let s = waits.sound w j in record { row = s.row; here = push_old rows r w.place s.row s.here; value = s.value })
  ];
  all = λ m v h. elim (push_from rows r m h.row h.here) [
    | inl p ↦ (let a = waits.all m v (record { row = h.row; here = p; value = h.value }) in (a.0, list_past o q a.0 a.1, a.2))
    | inr p ↦ (let a = waits_for held (length rows) r o v is (ap held (sym p.1) ∙ h.value) in (a.0, list_in o q a.0 a.1, a.2 ∙ sym p.0))
  ];
}

-- the row of the first goes on, and a row may come behind the others
pub waits_turn : {R : Type 0} (held : R → Option Value) (rows : List R) (m : ℕ) (after : R) (begun : Option R) (rows' : List R) (first : Waiting) (again opened : Option Waiting) (rest : List Waiting)
    → Waits held rows (first ∷ rest) → first.place ≡ m → Advanced rows m after begun rows' → IsWaiting held m after again → IsOpened held (length rows) begun opened → Waits held rows' (waiting_list opened ++ (waiting_list again ++ rest))
waits_turn {R} held rows m after begun rows' first again opened rest waits at moved goes opens =
    let others = waiting_list again ++ rest in
    let old : (w : Waiting) → Contains rest w → MakesAt held rows w.place (value_of w.part) = λ w i. waits.sound w (contains_later first rest w i) in
    let within : (w : Waiting) → Contains rest w → w.place < length rows = λ w i. (let s = old w i in slice_get_within rows w.place s.row s.here) in
    let before : m < length rows = (let s = waits.sound first (contains_here first rest) in let l = slice_get_within rows first.place s.row s.here in omega arith) in
    let apart : (w : Waiting) → Contains rest w → w.place ≢ m = λ w i e. (
    differ_back first.place w.place (All-contains (λ v. same_place first v ≡ false) rest w (All-from_recursion (λ v. same_place first v ≡ false) rest (IsDistinct-head same_place first rest waits.once)) i) (at ∙ sym e)) in
    record {
      once = once_more opened others
          (λ w v e i same. let a = opens_with held (length rows) begun opened w opens e in let p = a.2 in elim (list_cases again rest v i) [
            | inl f ↦ (let b = waits_with held m after again v goes f in let q = b.0 in absurd (omega arith))
            | inr j ↦ (let l = within v j in absurd (omega arith))
          ])
          (once_more again rest (λ w v e i same. apart v i (sym same ∙ (waits_with held m after again w goes e).0)) (IsDistinct-tail same_place first rest waits.once));
      sound = λ w i. elim (list_cases opened others w i) [
        | inl e ↦ (let a = opens_with held (length rows) begun opened w opens e in record { row = a.0; here = (λ k. slice_get rows' (a.2 k)) ∙ moved.new a.0 a.1; value = a.3 })
        | inr j ↦ elim (list_cases again rest w j) [
          | inl e ↦ (let a = waits_with held m after again w goes e in record { row = after; here = (λ k. slice_get rows' (a.0 k)) ∙ moved.here; value = a.1 })
          | inr k ↦ (let s = old w k in record { row = s.row; here = moved.kept w.place s.row s.here (apart w k); value = s.value })
        ]
      ];
      all = λ k v h. elim (moved.from k h.row h.here) [
        | inl e ↦ (let a = waits_for held m after again v goes (ap held (sym e.1) ∙ h.value) in (a.0, list_past opened others a.0 (list_in again rest a.0 a.1), a.2 ∙ sym e.0))
        | inr r ↦ elim r [
          | inl e ↦ (let a = waits.all k v (record { row = h.row; here = e.1; value = h.value }) in elim (contains_cases first rest a.0 a.1) [
            | inl f ↦ absurd (e.0 (sym a.2 ∙ ap (λ (t : Waiting). t.place) (sym f) ∙ at))
            | inr j ↦ (a.0, list_past opened others a.0 (list_past again rest a.0 j), a.2)
          ])
          | inr e ↦ (let a = opens_for held (length rows) begun opened h.row v opens e.1 h.value in (a.0, list_in opened others a.0 a.1, a.2 ∙ sym e.0))
        ]
      ];
    }

-- ---- the first of a queue
pub one_at : {X : Type 0} (xs : List X) (i : ℕ) (a b : X) → slice_get xs i ≡ Some a → slice_get xs i ≡ Some b → a ≡ b
one_at xs i a b p q = cc

first_in : (q : List Waiting) (m : ℕ) → (f : IsFirstAt q m) → Contains q f.first
first_in q m f = (0, slice_get_within q 0 f.first f.here, get_or_from_slice_get q 0 f.first f.first f.here)

pub first_makes : {R : Type 0} (held : R → Option Value) (rows : List R) (q : List Waiting) (m : ℕ) → Waits held rows q → (f : IsFirstAt q m) → MakesAt held rows m (value_of f.first.part)
first_makes held rows q m waits f = subst (λ (k : ℕ). MakesAt held rows k (value_of f.first.part)) f.place (waits.sound f.first (first_in q m f))

pub first_value : {R : Type 0} (held : R → Option Value) (rows : List R) (q : List Waiting) (m : ℕ) (r : R) → Waits held rows q → (f : IsFirstAt q m) → slice_get rows m ≡ Some r → held r ≡ Some (value_of f.first.part)
first_value held rows q m r waits f at = (let a = first_makes held rows q m waits f in ap held (one_at rows m r a.row at a.here) ∙ a.value)

not_lt : (o : Ordering) → is_lt o ≡ false → o ≡ Less → ⊥
not_lt Less h e = cc
not_lt Equal h e = cc
not_lt Greater h e = cc

-- the first of a heap is at most each
heap_most : IsTotalOrder value_cmp → (q : List Waiting) (d : Waiting) → IsHeap waiting_cmp q → (fuel k : ℕ) → k ≤ fuel → k < length q → AtMost value_cmp (value_of (get_or q 0 d).part) (value_of (get_or q k d).part)
unfolding IsHeap
heap_most total q d h zero k le less = (let e : 0 ≡ k = omega arith in inr (λ i. value_of (get_or q (e i) d).part))
heap_most total q d h (suc fuel) k le less =
    elim (cases_lt 0 k) [
      | inl more ↦
          most_trans total (value_of (get_or q 0 d).part) (value_of (get_or q ((k - 1) / 2) d).part) (value_of (get_or q k d).part) (heap_most total q d h fuel ((k - 1) / 2) (omega arith) (omega arith))
          (not_less total (value_of (get_or q k d).part) (value_of (get_or q ((k - 1) / 2) d).part) (not_lt (value_cmp (value_of (get_or q k d).part) (value_of (get_or q ((k - 1) / 2) d).part)) (h ((k - 1) / 2) k d (omega arith) (omega arith) (omega arith) less)))
      | inr none ↦ (let e : 0 ≡ k = omega arith in inr (λ i. value_of (get_or q (e i) d).part))
    ]

pub first_least : {R : Type 0} (held : R → Option Value) (rows : List R) (q : List Waiting) (m : ℕ) → IsTotalOrder value_cmp → IsQueue held rows q → (f : IsFirstAt q m) → (k : ℕ) (t : R) (v : Value) → slice_get rows k ≡ Some t → held t ≡ Some v → AtMost value_cmp (value_of f.first.part) v
first_least held rows q m total is f k t v at live =
    let a = is.waits.all k v (record { row = t; here = at; value = live }) in
    let s = is.waits.sound a.0 a.1 in
    let same : s.row ≡ t = (let p = s.here in let e = a.2 in let r : slice_get rows k ≡ Some s.row = (λ i. slice_get rows (sym e i)) ∙ p in cc) in
    let value : value_of a.0.part ≡ v = (let p : Some (value_of a.0.part) ≡ Some v = sym s.value ∙ ap held same ∙ live in cc) in
    let (i, less, here) = a.1 in
    let most = heap_most total q a.0 is.heap i i (omega arith) less in
    let first : get_or q 0 a.0 ≡ f.first = get_or_from_slice_get q 0 f.first a.0 f.here in
    subst (λ (x : Value). AtMost value_cmp (value_of f.first.part) x) (ap (λ (t : Waiting). value_of t.part) here ∙ value) (subst (λ (t : Waiting). AtMost value_cmp (value_of t.part) (value_of (get_or q i a.0).part)) first most)

-- what the first waits with, and what can be read of a queue
pub least_is : (q : List Waiting) (w : Waiting) → slice_get q 0 ≡ Some w → least_part q ≡ value_of w.part ∷ []
least_is [] w e = absurd cc
least_is (v ∷ q) w e = (let f : v ≡ w = cc in ap (λ (t : Waiting). value_of t.part ∷ []) f)

-- where nothing waits, no row makes a value
pub none_made : {R : Type 0} (held : R → Option Value) (rows : List R) (q : List Waiting) → q ≡ [] → Waits held rows q → (k : ℕ) (t : R) → slice_get rows k ≡ Some t → held t ≡ None
none_made {R} held rows q empty waits k t at = none (held t) refl
  where
    none : (o : Option Value) → held t ≡ o → held t ≡ None
    none None e = e
    none (Some v) e = absurd (let a = waits.all k v (record { row = t; here = at; value = e }) in contains_none a.0 (subst (λ (l : List Waiting). Contains l a.0) empty a.1))

-- ---- what the calls of a heap come to
pub ok_is : {T E P : Type 0} (r : Result T E) → IsOk r → OnOk r P → P
ok_is (Ok v) i h = h
ok_is (Err e) i h = absurd cc

if_some : (P : Waiting → Type 0) (r : Option Waiting) (w : Waiting) → r ≡ Some w → IfSome r P → P w
if_some P r w e h = subst (λ (o : Option Waiting). IfSome o P) e h

pub on_some : {P : Type 0} (r : Option Waiting) (w : Waiting) → r ≡ Some w → OnSome r P → P
on_some {P} r w e h = subst (λ (o : Option Waiting). OnSome o P) e h

pub one_waits : (q : List Waiting) (m : ℕ) → IsFirstAt q m → q ≡ [] → ⊥
one_waits q m f e = (let p : slice_get [] 0 ≡ Some f.first = (λ i. slice_get (sym e i) 0) ∙ f.here in cc)

pub pushed_is : {A T E : Type 0} (r : Result T E) (xs ys zs : List A) → IsOk r → ys ≡ cond (is_ok r) zs xs → ys ≡ zs
pushed_is (Ok v) xs ys zs i e = e
pushed_is (Err w) xs ys zs i e = absurd cc

first_at : (xs : List Waiting) (w : Waiting) → Contains xs w → w ≡ get_or xs 0 w → slice_get xs 0 ≡ Some w
first_at [] w i e = absurd (contains_none w i)
first_at (x ∷ xs) w i e = ap Some (sym e)

-- the first was taken out, and the others were put in
pub requeued : (old rest mid new : List Waiting) (r again opened : Option Waiting) (first : Waiting) → r ≡ Some first → IfSome r (λ w. w ≡ get_or old 0 w) → IfSome r (λ w. IsPermutation old (w ∷ rest)) → IfSome r (λ w. PopsGreatest waiting_cmp old w rest) → IsPermutation (waiting_list again ++ rest) mid → KeepsHeap waiting_cmp rest mid
    → IsPermutation (waiting_list opened ++ mid) new → KeepsHeap waiting_cmp mid new → Requeued old again opened first.part new
requeued old rest mid new r again opened first is top taken pops one keeps two keeps' =
    let out = if_some (λ w. IsPermutation old (w ∷ rest)) r first is taken in
    record {
      first = first;
      here = first_at old first (Contains-permutation (first ∷ rest) old first (IsPermutation-sym old (first ∷ rest) out) (contains_here first rest)) (if_some (λ w. w ≡ get_or old 0 w) r first is top);
      part_is = refl;
      rest = rest;
      taken = out;
      put = IsPermutation-trans (waiting_list opened ++ (waiting_list again ++ rest)) (waiting_list opened ++ mid) new (IsPermutation-append_right (waiting_list opened) (waiting_list again ++ rest) mid one) two;
      heap = λ h. keeps' (keeps (if_some (λ w. PopsGreatest waiting_cmp old w rest) r first is pops h).0);
    }

-- ---- a loop over the rows with which a node begins
pub queue_begins : {R : Type 0} (held : R → Option Value) (rows : List R) (q : List Waiting) → q ≡ [] → IsHeap waiting_cmp q → IsQueue held (take 0 rows) q
queue_begins {R} held rows q e h = record { heap = h; waits = subst (λ (l : List Waiting). Waits held [] l) (sym e) (waits_none held) }

take_long : {X : Type 0} (xs : List X) (i : ℕ) → i < length xs → length (take i xs) ≡ i
take_long [] i less = absurd (omega arith)
take_long (x ∷ xs) zero less = refl
take_long (x ∷ xs) (suc i) less = ap suc (take_long xs i (omega arith))

pub queue_step : {R : Type 0} (held : R → Option Value) (rows : List R) (i : ℕ) (d : R) (o : Option Waiting) (q q' : List Waiting) → i < length rows → IsQueue held (take i rows) q → IsWaiting held i (get_or rows i d) o → IsPermutation (waiting_list o ++ q) q' → KeepsHeap waiting_cmp q q' → IsQueue held (take (i + 1) rows) q'
queue_step {R} held rows i d o q q' less is goes put keeps =
    let r = get_or rows i d in
    let last = subst (λ (m : ℕ). IsWaiting held m r o) (sym (take_long rows i less)) goes in
    record {
      heap = keeps is.heap;
      waits = subst (λ (l : List R). Waits held l q') (sym (take_more rows i d less)) (waits_permuted held (take i rows ++ r ∷ []) (waiting_list o ++ q) q' put (waits_push held (take i rows) r o q is.waits last));
    }

take_all : {X : Type 0} (xs : List X) (i : ℕ) → length xs ≤ i → take i xs ≡ xs
take_all [] zero less = refl
take_all [] (suc i) less = refl
take_all (x ∷ xs) zero less = absurd (omega arith)
take_all (x ∷ xs) (suc i) less = ap (λ t. x ∷ t) (take_all xs i (omega arith))

pub queue_ends : {R : Type 0} (held : R → Option Value) (rows : List R) (i : ℕ) (q : List Waiting) → length rows ≤ i → IsQueue held (take i rows) q → IsQueue held rows q
queue_ends {R} held rows i q le is = subst (λ (l : List R). IsQueue held l q) (take_all rows i le) is
