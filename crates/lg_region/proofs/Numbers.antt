-- Numbers of lists, and keys, tell what they stand for.
use Rattle.std.proofs.Common.{◌≡◌, ◌≢◌, ℕ, zero, suc, ◌+◌, ◌<◌, ◌≤◌, List, [], ◌∷◌, length, take, get_or, refl, sym, ◌∙◌, ap, subst, Option, Some, None, ◌⊎◌, inl, inr, Contains, arith}
use Rattle.std.specs.List.{flat_map, range_with_len, slice_get}
use Rattle.std.proofs.lemmas.Option.{slice_get-get_or, slice_get_within, get_or_from_slice_get}
use Rattle.std.proofs.lemmas.Bool.{cases_lt}
use Rattle.std.proofs.lemmas.List.{take_all, get_or_past}
use Rattle.std.proofs.lemmas.List.Elements.{Contains-append_left, Contains-append_right, Contains-append_cases, Contains-get_or}
use Rattle.lg_gram.specs.Connectors.{Connector}
use Rattle.lg_gram.specs.declared.disjunct.Disjunct.{Disjunct}
use Rattle.lg_region.specs.Parts.{Region, IsKnown}
use Rattle.lg_region.specs.Cuts.{Split, IsValid}
use Rattle.lg_region.specs.Whole.{First}
use Rattle.lg_region.specs.Fronts.{fronts, fronts_of, all_fronts, AreListsOf, list_of}
use Rattle.lg_region.specs.Keys.{region_of_numbers, IsKeyOf, IsValidKey, IsAltOf, IsFirstOf, IsSplitOf}
use Rattle.lg_region.specs.Laws.{HasKey, NumbersTellListsApart}
use Rattle.lg_region.specs.declared.key.Joint.{Joint}
use Rattle.lg_region.specs.declared.key.Key.{Key}
use Rattle.lg_region.specs.declared.key.Key.TheVariants.{Whole, Region as Between}
use Rattle.lg_region.specs.declared.alternative.Alt.{Alt}
use Rattle.lg_region.specs.declared.alternative.Alt.TheVariants.{AllNull, Split as At}
use Rattle.lg_base.proofs.Elements.{contains_here, contains_later, contains_cases, contains_none, map_in, map_out, flat_in, flat_out}
use Rattle.lg_region.proofs.Valid.{known_right, cut_valid, first_valid}

pub range_in : (a n x : ℕ) → a ≤ x → x < a + n → Contains (range_with_len a n) x
range_in a zero x l h = absurd (omega arith)
range_in a (suc n) x l h =
    elim (cases_lt a x) [
      | inl p ↦ contains_later a (range_with_len (a + 1) n) x (range_in (a + 1) n x (omega arith) (omega arith))
      | inr p ↦ (let e : a ≡ x = omega arith in subst (λ v. Contains (range_with_len a (suc n)) v) e (contains_here a (range_with_len (a + 1) n)))
    ]

pub range_out : (a n x : ℕ) → Contains (range_with_len a n) x → (a ≤ x) × (x < a + n)
range_out a zero x c = absurd (contains_none x c)
range_out a (suc n) x c =
    elim (contains_cases a (range_with_len (a + 1) n) x c) [
      | inl e ↦ (omega arith, omega arith)
      | inr d ↦ (let r = range_out (a + 1) n x d in (omega arith, omega arith))
    ]

-- an element, by its place
pub contains_get : {X : Type 0} (xs : List X) (x : X) → Contains xs x → (i : ℕ) × (i < length xs) × (slice_get xs i ≡ Some x)
contains_get xs x (i, l, e) = (i, l, subst (λ z. slice_get xs i ≡ Some z) e (slice_get-get_or xs i x l))

pub get_contains : {X : Type 0} (xs : List X) (i : ℕ) (x : X) → slice_get xs i ≡ Some x → Contains xs x
get_contains xs i x e = (i, slice_get_within xs i x e, get_or_from_slice_get xs i x x e)

take_not_nil : (cs : List Connector) (n : ℕ) → 1 ≤ n → n < 1 + length cs → take n cs ≢ []
take_not_nil [] n l h e = omega arith
take_not_nil (c ∷ cs) zero l h e = omega arith
take_not_nil (c ∷ cs) (suc n) l h e = cc

fronts_not_nil : (cs x : List Connector) → Contains (fronts cs) x → x ≢ []
fronts_not_nil cs x c e =
    let r = map_out (λ n. take n cs) (range_with_len 1 (length cs)) x c in
    let b = range_out 1 (length cs) r.0 r.1 in
    take_not_nil cs r.0 b.0 b.1 (r.2 ∙ e)

pub all_not_nil : (positions : List (List Disjunct)) (x : List Connector) → Contains (all_fronts positions) x → x ≢ []
all_not_nil positions x c =
    let r = flat_out (flat_map fronts_of) positions x c in
    let s = flat_out fronts_of r.0 x r.2 in
    let d = s.0 in
    elim (Contains-append_cases (fronts d.left) (fronts d.right) x s.2) [
      | inl h ↦ fronts_not_nil d.left x h
      | inr h ↦ fronts_not_nil d.right x h
    ]

pub lists_not_nil : (positions : List (List Disjunct)) (lists : List (List Connector)) → AreListsOf positions lists → (n : ℕ) → n < length lists → get_or lists n [] ≢ []
lists_not_nil positions lists are n l e =
    let x = get_or lists n [] in
    all_not_nil positions x ((are.same x).0 (get_contains lists n x (slice_get-get_or lists n [] l))) e

pub apart : (positions : List (List Disjunct)) (lists : List (List Connector)) → AreListsOf positions lists → (m n : ℕ) → m ≤ length lists → n ≤ length lists → list_of lists m ≡ list_of lists n → m ≡ n
apart positions lists are zero zero lm ln e = refl
apart positions lists are zero (suc n) lm ln e = absurd (lists_not_nil positions lists are n (omega arith) (sym e))
apart positions lists are (suc m) zero lm ln e = absurd (lists_not_nil positions lists are m (omega arith) e)
apart positions lists are (suc m) (suc n) lm ln e =
    let g = slice_get-get_or lists m [] (omega arith) in
    let h = slice_get-get_or lists n [] (omega arith) in
    let o = are.once m n (get_or lists m []) g (h ∙ ap (λ z. Some z) (sym e)) in
    ap (λ z. suc z) o

same_key : (a b c d e a' b' c' d' e' : ℕ) → a ≡ a' → b ≡ b' → c ≡ c' → d ≡ d' → e ≡ e' → Between a b c d e ≡ Between a' b' c' d' e'
same_key a b c d e a' b' c' d' e' p q r s t = cc

pub one_key : (positions : List (List Disjunct)) (lists : List (List Connector)) → AreListsOf positions lists → (a b : Key) (k : Region) → IsKeyOf lists a k → IsKeyOf lists b k → a ≡ b
one_key positions lists are (Whole n) b k x y = absurd x
one_key positions lists are (Between l r ll rl n) (Whole m) k x y = absurd y
one_key positions lists are (Between l r ll rl n) (Between l' r' ll' rl' n') k x y =
    let e : region_of_numbers lists l r ll rl n ≡ region_of_numbers lists l' r' ll' rl' n' = sym x.2 ∙ y.2 in
    same_key l r ll rl n l' r' ll' rl' n' (ap (λ z. z.left) e) (ap (λ z. z.right) e)
    (apart positions lists are ll ll' x.0 y.0 (ap (λ z. z.llist) e)) (apart positions lists are rl rl' x.1 y.1 (ap (λ z. z.rlist) e)) (ap (λ z. z.nulls) e)

all_of : (cs : List Connector) → (cs ≡ []) ⊎ Contains (fronts cs) cs
all_of [] = inl refl
all_of (c ∷ cs) =
    let n = length (c ∷ cs) in
    inr (subst (λ z. Contains (fronts (c ∷ cs)) z) (take_all n (c ∷ cs) (omega arith)) (map_in (λ n. take n (c ∷ cs)) (range_with_len 1 n) n (range_in 1 n n (omega arith) (omega arith))))

long_cases : (cs : List Connector) (m : ℕ) → length cs ≤ m → (take m cs ≡ []) ⊎ Contains (fronts cs) (take m cs)
long_cases cs m l = subst (λ z. (z ≡ []) ⊎ Contains (fronts cs) z) (sym (take_all m cs l)) (all_of cs)

pub take_cases : (cs : List Connector) (m : ℕ) → (take m cs ≡ []) ⊎ Contains (fronts cs) (take m cs)
take_cases cs m =
    elim (cases_lt m 1) [
      | inl p ↦ (let e : m ≡ 0 = omega arith in inl (ap (λ z. take z cs) e))
      | inr p ↦ elim (cases_lt m (1 + length cs)) [
        | inl q ↦ inr (map_in (λ n. take n cs) (range_with_len 1 (length cs)) m (range_in 1 (length cs) m p q))
        | inr q ↦ long_cases cs m (omega arith)
      ]
    ]

-- a list that may stand in a region has a number
numbered : (positions : List (List Disjunct)) (lists : List (List Connector)) → AreListsOf positions lists → (cs : List Connector) → Contains (all_fronts positions) cs → (n : ℕ) × (n ≤ length lists) × (list_of lists n ≡ cs)
numbered positions lists are cs c =
    let g = contains_get lists cs ((are.same cs).1 c) in
    (suc g.0, g.1, get_or_from_slice_get lists g.0 cs [] g.2)

side_front : (positions : List (List Disjunct)) (i : ℕ) (d : Disjunct) (cs : List Connector) → Contains (get_or positions i []) d → Contains (fronts_of d) cs → Contains (all_fronts positions) cs
side_front positions i d cs c h =
    elim (cases_lt i (length positions)) [
      | inl p ↦ flat_in (flat_map fronts_of) positions (get_or positions i []) cs (Contains-get_or positions i [] p) (flat_in fronts_of (get_or positions i []) d cs c h)
      | inr p ↦ absurd (contains_none d (rw (get_or_past positions i [] p) at c))
    ]

pub known_number : (positions : List (List Disjunct)) (lists : List (List Connector)) → AreListsOf positions lists → (cs : List Connector) → IsKnown positions cs → (n : ℕ) × (n ≤ length lists) × (list_of lists n ≡ cs)
known_number positions lists are cs (inl e) = (0, omega arith, sym e)
known_number positions lists are cs (inr (i, d, m, c, inl e)) =
    elim (take_cases d.left m) [
      | inl z ↦ (0, omega arith, sym (e ∙ z))
      | inr z ↦ numbered positions lists are cs (subst (λ v. Contains (all_fronts positions) v) (sym e) (side_front positions i d (take m d.left) c (Contains-append_left (fronts d.left) (fronts d.right) (take m d.left) z)))
    ]
known_number positions lists are cs (inr (i, d, m, c, inr e)) =
    elim (take_cases d.right m) [
      | inl z ↦ (0, omega arith, sym (e ∙ z))
      | inr z ↦ numbered positions lists are cs (subst (λ v. Contains (all_fronts positions) v) (sym e) (side_front positions i d (take m d.right) c (Contains-append_right (fronts d.left) (fronts d.right) (take m d.right) z)))
    ]

front_known : (positions : List (List Disjunct)) (x : List Connector) → Contains (all_fronts positions) x → IsKnown positions x
front_known positions x c =
    let r = flat_out (flat_map fronts_of) positions x c in
    let s = flat_out fronts_of r.0 x r.2 in
    let d = s.0 in
    let p = contains_get positions r.0 r.1 in
    let has : Contains (get_or positions p.0 []) d = subst (λ z. Contains z d) (sym (get_or_from_slice_get positions p.0 r.0 [] p.2)) s.1 in
    elim (Contains-append_cases (fronts d.left) (fronts d.right) x s.2) [
      | inl h ↦ (let m = map_out (λ n. take n d.left) (range_with_len 1 (length d.left)) x h in inr (p.0, d, m.0, has, inl (sym m.2)))
      | inr h ↦ (let m = map_out (λ n. take n d.right) (range_with_len 1 (length d.right)) x h in inr (p.0, d, m.0, has, inr (sym m.2)))
    ]

-- the list of a number may stand in a region
pub list_known : (positions : List (List Disjunct)) (lists : List (List Connector)) → AreListsOf positions lists → (n : ℕ) → n ≤ length lists → IsKnown positions (list_of lists n)
list_known positions lists are zero l = inl refl
list_known positions lists are (suc n) l =
    let x = get_or lists n [] in
    front_known positions x ((are.same x).0 (get_contains lists n x (slice_get-get_or lists n [] (omega arith))))

-- the right list of a disjunct has a number
pub right_number : (positions : List (List Disjunct)) (lists : List (List Connector)) → AreListsOf positions lists → (i : ℕ) (d : Disjunct) → Contains (get_or positions i []) d → (n : ℕ) × (n ≤ length lists) × (list_of lists n ≡ d.right)
right_number positions lists are i d c = known_number positions lists are d.right (known_right positions i d c)

region_again : (k : Region) (a b : List Connector) → a ≡ k.llist → b ≡ k.rlist → k ≡ record { left = k.left; right = k.right; llist = a; rlist = b; nulls = k.nulls }
region_again k a b e f =
    let g : k ≡ record { left = k.left; right = k.right; llist = k.llist; rlist = k.rlist; nulls = k.nulls } = refl in
    subst (λ z. k ≡ record { left = k.left; right = k.right; llist = z; rlist = b; nulls = k.nulls }) (sym e)
    (subst (λ z. k ≡ record { left = k.left; right = k.right; llist = k.llist; rlist = z; nulls = k.nulls }) (sym f) g)

some_key : (positions : List (List Disjunct)) (lists : List (List Connector)) → AreListsOf positions lists → (k : Region) → IsValid positions k → (key : Key) × IsKeyOf lists key k
some_key positions lists are k v =
    let a = known_number positions lists are k.llist v.llist in
    let b = known_number positions lists are k.rlist v.rlist in
    (Between k.left k.right a.0 b.0 k.nulls, (a.1, b.1, region_again k (list_of lists a.0) (list_of lists b.0) a.2 b.2))

pub valid_key : (positions : List (List Disjunct)) (lists : List (List Connector)) (key : Key) (k : Region) → IsKeyOf lists key k → IsValid positions k → IsValidKey positions lists key
valid_key positions lists (Whole n) k is v = absurd is
valid_key positions lists (Between l r ll rl n) k is v = (is.0, is.1, subst (λ z. IsValid positions z) is.2 v)

key_is : (a b : Key) → ◌≡◌ {A = Option Key} (Some a) (Some b) → a ≡ b
key_is a b e = cc

below_first : (positions : List (List Disjunct)) (lists : List (List Connector)) (nulls word number : ℕ) (rkey below : Key) (c : First) → IsFirstOf positions lists nulls word number rkey c → HasKey (At word number None None None (Some rkey)) below → IsValidKey positions lists below
below_first positions lists nulls word number rkey below c is (inl e) = absurd cc
below_first positions lists nulls word number rkey below c is (inr e) =
    subst (λ z. IsValidKey positions lists z) (key_is rkey below e) (valid_key positions lists rkey c.rkey is.behind (first_valid positions nulls c is.first))

below_split : (positions : List (List Disjunct)) (lists : List (List Connector)) (k : Region) (word number : ℕ) (to_left to_right : Option Joint) (lkey rkey below : Key) (c : Split) → IsValid positions k → IsSplitOf positions lists k word number to_left to_right lkey rkey c → HasKey (At word number to_left to_right (Some lkey) (Some rkey)) below → IsValidKey positions lists below
below_split positions lists k word number to_left to_right lkey rkey below c v is (inl e) =
    subst (λ z. IsValidKey positions lists z) (key_is lkey below e) (valid_key positions lists lkey c.lkey is.before (cut_valid positions k c v is.cut).0)
below_split positions lists k word number to_left to_right lkey rkey below c v is (inr e) =
    subst (λ z. IsValidKey positions lists z) (key_is rkey below e) (valid_key positions lists rkey c.rkey is.behind (cut_valid positions k c v is.cut).1)

valid_below : (positions : List (List Disjunct)) (lists : List (List Connector)) (key : Key) (a : Alt) (below : Key) → IsValidKey positions lists key → IsAltOf positions lists key a → HasKey a below → IsValidKey positions lists below
valid_below positions lists key AllNull below v is h = absurd h
valid_below positions lists (Whole nulls) (At word number None None None (Some rkey)) below v is h = below_first positions lists nulls word number rkey below is.0 is.1 h
valid_below positions lists (Whole nulls) (At word number None None None None) below v is h = absurd is
valid_below positions lists (Whole nulls) (At word number None None (Some x) rkey) below v is h = absurd is
valid_below positions lists (Whole nulls) (At word number None (Some x) lkey rkey) below v is h = absurd is
valid_below positions lists (Whole nulls) (At word number (Some x) to_right lkey rkey) below v is h = absurd is
valid_below positions lists (Between l r ll rl n) (At word number to_left to_right (Some lkey) (Some rkey)) below v is h =
    below_split positions lists (region_of_numbers lists l r ll rl n) word number to_left to_right lkey rkey below is.0 v.2 is.1 h
valid_below positions lists (Between l r ll rl n) (At word number to_left to_right None rkey) below v is h = absurd is
valid_below positions lists (Between l r ll rl n) (At word number to_left to_right (Some lkey) None) below v is h = absurd is

pub tell_apart : (positions : List (List Disjunct)) (lists : List (List Connector)) → AreListsOf positions lists → NumbersTellListsApart positions lists
tell_apart positions lists are = record {
  lists_apart = apart positions lists are;
  keys_apart = one_key positions lists are;
  some_key = some_key positions lists are;
  valid_key = valid_key positions lists;
  valid_below = valid_below positions lists;
}
