-- Links that are compared one by one compare as they do pair by pair.
use Rattle.std.proofs.Common.{◌≡◌, ℕ, zero, suc, ◌+◌, ◌<◌, ◌≤◌, Bool, true, false, cond, List, [], ◌∷◌, ◌++◌, map, ◌⊎◌, inl, inr, refl, sym, ap, ◌∙◌, subst, arith, ◌==◌, ◌&&◌, Ordering, Less, Equal, Greater}
use Rattle.std.specs.List.{All, AllByRecursion, Contains, filter, flat_map, range_with_len}
use Rattle.std.specs.List.Sorted.{IsStrictlySortedBy}
use Rattle.std.specs.Ordering.{ordering_then}
use Rattle.std.specs.Cmp.Lexicographic.{slice_cmp}
use Rattle.std.proofs.lemmas.Bool.{cases_lt, false≢true}
use Rattle.std.proofs.lemmas.Bool.Decides.{nat_tests}
use Rattle.std.proofs.lemmas.List.{map-append}
use Rattle.std.proofs.lemmas.List.Elements.{recursion_from_All, All-from_recursion, All-contains, Contains-append_left, Contains-append_right}
use Rattle.std.proofs.lemmas.List.FromFn.{length-map-range_with_len, get_or-map-range_with_len}
use Rattle.std.proofs.lemmas.Map.Keys.{sorted_head, sorted_tail}
use Rattle.lg_gram.specs.Linkages.{link_cmp, tie_cmp, places_cmp, places_between, pairs_cmp}
use Rattle.lg_gram.specs.Pairs.{LiesAmong}
use Rattle.lg_gram.specs.declared.linkage.Link.{Link}

abbrev pair_of : Link → ℕ × ℕ
pair_of l = (l.left, l.right)

abbrev places_of : Link → ℕ × ℕ
places_of l = (l.lplace, l.rplace)

abbrev is_at : ℕ × ℕ → Link → Bool
is_at p l = (l.left == p.0) && (l.right == p.1)

-- the places of the links of a pair
abbrev places_at : List Link → ℕ × ℕ → List (ℕ × ℕ)
places_at links p = places_between links p.0 p.1

-- the link's pair comes after p
abbrev IsBehind : ℕ × ℕ → Link → Type 0
IsBehind p l = places_cmp p (pair_of l) ≡ Less

-- each link joins one of the pairs
abbrev Reaches : List (ℕ × ℕ) → List Link → Type 0
Reaches ps links = AllByRecursion (λ l. Contains ps (pair_of l)) links

true_or_false : (b : Bool) → (b ≡ true) ⊎ (b ≡ false)
true_or_false true = inl refl
true_or_false false = inr refl

then_assoc : (a b c : Ordering) → ordering_then a (ordering_then b c) ≡ ordering_then (ordering_then a b) c
then_assoc Less b c = refl
then_assoc Equal b c = refl
then_assoc Greater b c = refl

tie_here : (p : ℕ × ℕ) (x y : Link) → is_at p x ≡ true → is_at p y ≡ true → tie_cmp x y ≡ places_cmp (places_of x) (places_of y)
tie_here p x y h g = grind (arith, nat_tests)

tie_before : (p : ℕ × ℕ) (x y : Link) → is_at p x ≡ true → IsBehind p y → tie_cmp x y ≡ Greater
tie_before p x y h g = grind (arith, nat_tests)

tie_after : (p : ℕ × ℕ) (x y : Link) → IsBehind p x → is_at p y ≡ true → tie_cmp x y ≡ Less
tie_after p x y h g = grind (arith, nat_tests)

not_at_later : (p q : ℕ × ℕ) (x : Link) → places_cmp p q ≡ Less → is_at p x ≡ true → is_at q x ≡ false
not_at_later p q x h g = grind (arith, nat_tests)

not_at_behind : (p : ℕ × ℕ) (x : Link) → IsBehind p x → is_at p x ≡ false
not_at_behind p x h = grind (arith, nat_tests)

behind_next : (p : ℕ × ℕ) (x z : Link) → IsBehind p x → link_cmp x z ≡ Less → IsBehind p z
behind_next p x z h g = grind (arith, nat_tests)

at_itself : (p : ℕ × ℕ) (x : Link) → p ≡ pair_of x → is_at p x ≡ true
at_itself p x e = subst (λ (q : ℕ × ℕ). is_at q x ≡ true) (sym e) (grind (arith, nat_tests))

-- a pair that is not the first is a later one
later_pair : (p : ℕ × ℕ) (ps : List (ℕ × ℕ)) (x : Link) → is_at p x ≡ false → Contains (p ∷ ps) (pair_of x) → Contains ps (pair_of x)
later_pair p ps x h (zero, within, e) = absurd (false≢true (sym h ∙ at_itself p x e))
later_pair p ps x h (suc k, within, e) = (k, omega arith, e)

places_more : (p : ℕ × ℕ) (x : Link) (xs : List Link) → is_at p x ≡ true → places_at (x ∷ xs) p ≡ places_of x ∷ places_at xs p
places_more p x xs h = ap (λ t. map places_of (cond t (x ∷ filter (is_at p) xs) (filter (is_at p) xs))) h

places_same : (p : ℕ × ℕ) (x : Link) (xs : List Link) → is_at p x ≡ false → places_at (x ∷ xs) p ≡ places_at xs p
places_same p x xs h = ap (λ t. map places_of (cond t (x ∷ filter (is_at p) xs) (filter (is_at p) xs))) h

-- a link of an earlier pair has no part in the pairs behind it
others_same : (p : ℕ × ℕ) (ps : List (ℕ × ℕ)) (x : Link) (xs : List Link) → AllByRecursion (λ q. places_cmp p q ≡ Less) ps → is_at p x ≡ true → map (places_at (x ∷ xs)) ps ≡ map (places_at xs) ps
others_same p [] x xs above h = refl
others_same p (q ∷ ps) x xs above h = λ i. places_same q x xs (not_at_later p q x above.0 h) i ∷ others_same p ps x xs above.1 h i

-- links that are all behind p
record Past (p : ℕ × ℕ) (ps : List (ℕ × ℕ)) (xs : List Link) : Type 0 where
  behind : AllByRecursion (IsBehind p) xs
  reaches : Reaches ps xs
  none : places_at xs p ≡ []

past : (p : ℕ × ℕ) (ps : List (ℕ × ℕ)) (xs : List Link) → AllByRecursion (IsBehind p) xs → Reaches (p ∷ ps) xs → Past p ps xs
past p ps [] behind reaches = record { behind = tt; reaches = tt; none = refl }
past p ps (x ∷ xs) behind reaches =
    let apart = not_at_behind p x behind.0 in
    let rest = past p ps xs behind.1 reaches.1 in
    record {
      behind = behind;
      reaches = (later_pair p ps x apart reaches.0, rest.reaches);
      none = places_same p x xs apart ∙ rest.none;
    }

all_behind : (p : ℕ × ℕ) (x : Link) (xs : List Link) → IsBehind p x → AllByRecursion (λ z. link_cmp x z ≡ Less) xs → AllByRecursion (IsBehind p) xs
all_behind p x [] h less = tt
all_behind p x (z ∷ xs) h less = (behind_next p x z h less.0, all_behind p x xs h less.1)

-- where the first link is not at p, none is
past_all : (p : ℕ × ℕ) (ps : List (ℕ × ℕ)) (x : Link) (xs : List Link) → AllByRecursion (λ q. places_cmp p q ≡ Less) ps → IsStrictlySortedBy link_cmp (x ∷ xs) → Reaches (p ∷ ps) (x ∷ xs) → is_at p x ≡ false → Past p ps (x ∷ xs)
past_all p ps x xs above rise reaches apart =
    let behind : IsBehind p x = All-contains (λ (q : ℕ × ℕ). places_cmp p q ≡ Less) ps (pair_of x) (All-from_recursion (λ (q : ℕ × ℕ). places_cmp p q ≡ Less) ps above) (later_pair p ps x apart reaches.0) in
    past p ps (x ∷ xs) (behind, all_behind p x xs behind (sorted_head link_cmp x xs rise)) reaches

-- the order of two sets of links is that of their places pair by pair
abbrev Decide : List (ℕ × ℕ) → List Link → List Link → Type 0
Decide ps xs ys = slice_cmp tie_cmp xs ys ≡ slice_cmp (slice_cmp places_cmp) (map (places_at xs) ps) (map (places_at ys) ps)

-- by the places at the first pair, and then at the others
abbrev from_first : List (ℕ × ℕ) → List (ℕ × ℕ) → Ordering → Ordering
from_first these those rest = ordering_then (slice_cmp places_cmp these those) rest

abbrev rest_of : List (ℕ × ℕ) → List Link → List Link → Ordering
rest_of ps xs ys = slice_cmp (slice_cmp places_cmp) (map (places_at xs) ps) (map (places_at ys) ps)

both_past : (p : ℕ × ℕ) (ps : List (ℕ × ℕ)) (xs ys : List Link) → Past p ps xs → Past p ps ys → Decide ps xs ys → Decide (p ∷ ps) xs ys
both_past p ps xs ys h g decide = decide ∙ (λ i. from_first (sym h.none i) (sym g.none i) (rest_of ps xs ys))

first_here : (p : ℕ × ℕ) (ps : List (ℕ × ℕ)) (x : Link) (xs ys : List Link) → is_at p x ≡ true → Past p ps ys → Decide (p ∷ ps) (x ∷ xs) ys
first_here p ps x xs ys h g = greater ys g.behind ∙ (λ i. from_first (sym (places_more p x xs h) i) (sym g.none i) (rest_of ps (x ∷ xs) ys))
  where
    greater : (ys : List Link) → AllByRecursion (IsBehind p) ys → slice_cmp tie_cmp (x ∷ xs) ys ≡ Greater
    greater [] behind = refl
    greater (y ∷ ys) behind = ap (λ o. ordering_then o (slice_cmp tie_cmp xs ys)) (tie_before p x y h behind.0)

second_here : (p : ℕ × ℕ) (ps : List (ℕ × ℕ)) (xs : List Link) (y : Link) (ys : List Link) → Past p ps xs → is_at p y ≡ true → Decide (p ∷ ps) xs (y ∷ ys)
second_here p ps xs y ys h g = less xs h.behind ∙ (λ i. from_first (sym h.none i) (sym (places_more p y ys g) i) (rest_of ps xs (y ∷ ys)))
  where
    less : (xs : List Link) → AllByRecursion (IsBehind p) xs → slice_cmp tie_cmp xs (y ∷ ys) ≡ Less
    less [] behind = refl
    less (x ∷ xs) behind = ap (λ o. ordering_then o (slice_cmp tie_cmp xs ys)) (tie_after p x y behind.0 g)

both_here : (p : ℕ × ℕ) (ps : List (ℕ × ℕ)) (x : Link) (xs : List Link) (y : Link) (ys : List Link) → AllByRecursion (λ q. places_cmp p q ≡ Less) ps →
    is_at p x ≡ true → is_at p y ≡ true → Decide (p ∷ ps) xs ys → Decide (p ∷ ps) (x ∷ xs) (y ∷ ys)
both_here p ps x xs y ys above h g decide =
    let one : Ordering = places_cmp (places_of x) (places_of y) in
    (λ i. ordering_then (tie_here p x y h g i) (decide i))
    ∙ then_assoc one (slice_cmp places_cmp (places_at xs p) (places_at ys p)) (rest_of ps xs ys)
    ∙ (λ i. from_first (sym (places_more p x xs h) i) (sym (places_more p y ys g) i)
    (slice_cmp (slice_cmp places_cmp) (sym (others_same p ps x xs above h) i) (sym (others_same p ps y ys above g) i)))

first_pair : (p : ℕ × ℕ) (ps : List (ℕ × ℕ)) → AllByRecursion (λ q. places_cmp p q ≡ Less) ps →
    ((xs ys : List Link) → IsStrictlySortedBy link_cmp xs → IsStrictlySortedBy link_cmp ys → Reaches ps xs → Reaches ps ys → Decide ps xs ys) →
    (xs ys : List Link) → IsStrictlySortedBy link_cmp xs → IsStrictlySortedBy link_cmp ys → Reaches (p ∷ ps) xs → Reaches (p ∷ ps) ys → Decide (p ∷ ps) xs ys
first_pair p ps above later [] [] up vp r s = later [] [] up vp tt tt
first_pair p ps above later [] (y ∷ ys) up vp r s =
    let nothing = past p ps [] tt tt in
    elim (true_or_false (is_at p y)) [
      | inl g ↦ second_here p ps [] y ys nothing g
      | inr g ↦
          let w = past_all p ps y ys above vp s g in
          both_past p ps [] (y ∷ ys) nothing w (later [] (y ∷ ys) up vp tt w.reaches)
    ]
first_pair p ps above later (x ∷ xs) [] up vp r s =
    let nothing = past p ps [] tt tt in
    elim (true_or_false (is_at p x)) [
      | inl h ↦ first_here p ps x xs [] h nothing
      | inr h ↦
          let v = past_all p ps x xs above up r h in
          both_past p ps (x ∷ xs) [] v nothing (later (x ∷ xs) [] up vp v.reaches tt)
    ]
first_pair p ps above later (x ∷ xs) (y ∷ ys) up vp r s =
    elim (true_or_false (is_at p x)) [
      | inl h ↦ elim (true_or_false (is_at p y)) [
        | inl g ↦
            both_here p ps x xs y ys above h g
            (first_pair p ps above later xs ys (sorted_tail link_cmp x xs up) (sorted_tail link_cmp y ys vp) r.1 s.1)
        | inr g ↦ first_here p ps x xs (y ∷ ys) h (past_all p ps y ys above vp s g)
      ]
      | inr h ↦
          let v = past_all p ps x xs above up r h in
          elim (true_or_false (is_at p y)) [
            | inl g ↦ second_here p ps (x ∷ xs) y ys v g
            | inr g ↦
                let w = past_all p ps y ys above vp s g in
                both_past p ps (x ∷ xs) (y ∷ ys) v w (later (x ∷ xs) (y ∷ ys) up vp v.reaches w.reaches)
          ]
    ]

-- over pairs that rise and that the links keep to
by_pairs : (ps : List (ℕ × ℕ)) → IsStrictlySortedBy places_cmp ps → (xs ys : List Link) → IsStrictlySortedBy link_cmp xs → IsStrictlySortedBy link_cmp ys →
    Reaches ps xs → Reaches ps ys → Decide ps xs ys
by_pairs [] rise [] [] up vp r s = refl
by_pairs [] rise [] (y ∷ ys) up vp r s = absurd (omega (arith, s.0.1))
by_pairs [] rise (x ∷ xs) ys up vp r s = absurd (omega (arith, r.0.1))
by_pairs (p ∷ ps) rise xs ys up vp r s = first_pair p ps (sorted_head places_cmp p ps rise) (by_pairs ps (sorted_tail places_cmp p ps rise)) xs ys up vp r s

-- the pairs of position i and m positions from j on
abbrev row : ℕ → ℕ → ℕ → List (ℕ × ℕ)
row i j m = map (λ k. (i, k)) (range_with_len j m)

-- the pairs of m positions from i on and n positions
abbrev rows : ℕ → ℕ → ℕ → List (ℕ × ℕ)
rows n i m = flat_map (λ k. row k 0 n) (range_with_len i m)

each-append : (P : ℕ × ℕ → Type 0) (xs ys : List (ℕ × ℕ)) → AllByRecursion P xs → AllByRecursion P ys → AllByRecursion P (xs ++ ys)
each-append P [] ys h g = g
each-append P (x ∷ xs) ys h g = (h.0, each-append P xs ys h.1 g)

row_above : (i j k m : ℕ) → j < k → AllByRecursion (λ q. places_cmp (i, j) q ≡ Less) (row i k m)
row_above i j k zero less = tt
row_above i j k (suc m) less = (grind (arith, nat_tests), row_above i j (k + 1) m (omega arith))

row_later : (i j k l m : ℕ) → i < k → AllByRecursion (λ q. places_cmp (i, j) q ≡ Less) (row k l m)
row_later i j k l zero less = tt
row_later i j k l (suc m) less = (grind (arith, nat_tests), row_later i j k (l + 1) m less)

rows_later : (n i j k m : ℕ) → i < k → AllByRecursion (λ q. places_cmp (i, j) q ≡ Less) (rows n k m)
rows_later n i j k zero less = tt
rows_later n i j k (suc m) less = each-append (λ (q : ℕ × ℕ). places_cmp (i, j) q ≡ Less) (row k 0 n) (rows n (k + 1) m) (row_later i j k 0 n less) (rows_later n i j (k + 1) m (omega arith))

row_rises : (i j m : ℕ) (ps : List (ℕ × ℕ)) → ((k : ℕ) → AllByRecursion (λ q. places_cmp (i, k) q ≡ Less) ps) → IsStrictlySortedBy places_cmp ps → IsStrictlySortedBy places_cmp (row i j m ++ ps)
unfolding IsStrictlySortedBy
row_rises i j zero ps later rise = rise
row_rises i j (suc m) ps later rise = (each-append (λ (q : ℕ × ℕ). places_cmp (i, j) q ≡ Less) (row i (j + 1) m) ps (row_above i j (j + 1) m (omega arith)) (later j), row_rises i (j + 1) m ps later rise)

rows_rise : (n i m : ℕ) → IsStrictlySortedBy places_cmp (rows n i m)
unfolding IsStrictlySortedBy
rows_rise n i zero = tt
rows_rise n i (suc m) = row_rises i 0 n (rows n (i + 1) m) (λ k. rows_later n i k (i + 1) m (omega arith)) (rows_rise n (i + 1) m)

in_row : (i n k : ℕ) → k < n → Contains (row i 0 n) (i, k)
in_row i n k less =
    let pair : ℕ → ℕ × ℕ = λ j. (i, j) in
    (k, omega (arith, length-map-range_with_len pair 0 n), get_or-map-range_with_len pair 0 n k k (i, k) less (omega arith))

in_rows : (n i m k l : ℕ) → i ≤ k → k < i + m → l < n → Contains (rows n i m) (k, l)
in_rows n i zero k l low high within = absurd (omega arith)
in_rows n i (suc m) k l low high within =
    elim (cases_lt i k) [
      | inl less ↦ Contains-append_right (row i 0 n) (rows n (i + 1) m) (k, l) (in_rows n (i + 1) m k l (omega arith) (omega arith) within)
      | inr here ↦
          let same : i ≡ k = omega arith in
          Contains-append_left (row i 0 n) (rows n (i + 1) m) (k, l) (subst (λ (j : ℕ). Contains (row i 0 n) (j, l)) same (in_row i n l within))
    ]

among : (n : ℕ) (xs : List Link) → AllByRecursion (LiesAmong n) xs → Reaches (rows n 0 n) xs
among n [] h = tt
among n (x ∷ xs) h = (in_rows n 0 n x.left x.right (omega arith) (omega (arith, h.0.0)) h.0.1, among n xs h.1)

row_places : (links : List Link) (i : ℕ) (js : List ℕ) → map (places_at links) (map (λ k. (i, k)) js) ≡ map (places_between links i) js
row_places links i [] = refl
row_places links i (j ∷ js) = ap (λ x. places_between links i j ∷ x) (row_places links i js)

rows_places : (links : List Link) (js is : List ℕ) → map (places_at links) (flat_map (λ i. map (λ k. (i, k)) js) is) ≡ flat_map (λ i. map (places_between links i) js) is
rows_places links js [] = refl
rows_places links js (i ∷ is) =
    map-append (places_at links) (map (λ k. (i, k)) js) (flat_map (λ i. map (λ k. (i, k)) js) is)
    ∙ (λ t. row_places links i js t ++ rows_places links js is t)

pub pairs_decide : (n : ℕ) (a b : List Link) → IsStrictlySortedBy link_cmp a → IsStrictlySortedBy link_cmp b → All (LiesAmong n) a → All (LiesAmong n) b →
    slice_cmp tie_cmp a b ≡ pairs_cmp n a b
pairs_decide n a b up vp within beside =
    let all : List ℕ = range_with_len 0 n in
    by_pairs (rows n 0 n) (rows_rise n 0 n) a b up vp (among n a (recursion_from_All (LiesAmong n) a within)) (among n b (recursion_from_All (LiesAmong n) b beside))
    ∙ (λ t. slice_cmp (slice_cmp places_cmp) (rows_places a all all t) (rows_places b all all t))
