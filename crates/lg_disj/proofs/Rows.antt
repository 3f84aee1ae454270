-- Rows of choices, and the places that they are cut from.
use Rattle.std.proofs.Common.{◌≡◌, ℕ, ◌+◌, ◌-◌, ◌≤◌, ℤ, ◌+ℤ◌, List, [], ◌∷◌, ◌++◌, map, length, take, drop, refl, sym, ap, ap₂, subst, ◌∙◌, arith, append_assoc, append-nil, length-append}
use Rattle.std.proofs.Math.Seq.{drop-append_seam, drop-append-add, take-append_seam, take-length, drop-length}
use Rattle.std.proofs.lemmas.List.{take-append-le, drop-append-le, length-drop, length-map, map-append, take-map, take_at, take-append-drop}
use Rattle.std.specs.List.{drop-map}
use Rattle.std.specs.List.{All}
use Rattle.std.proofs.lemmas.List.Elements.{All-append, All-head, All-tail, All-weaker, All-map}
use Rattle.lg_disj.specs.declared.arena.Row.{Row}
use Rattle.lg_disj.specs.Places.{part, row_in, raised, raised_row, IsCheap, LiesIn}
use Rattle.lg_gram.specs.Problems.{IsDisjunctCost}
use Rattle.lg_base.specs.Costs.{IsWithinCosts}
use Rattle.lg_disj.proofs.Parts.{at_back, in_front, from_map}
use Rattle.lg_disj.proofs.Bounded.{small_sum}

pub part_grown : {X : Type 0} (from to : ℕ) (xs ys : List X) → from ≤ to → to ≤ length xs → take (to - from) (drop from (xs ++ ys)) ≡ take (to - from) (drop from xs)
part_grown from to xs ys low high =
    ap (take (to - from)) (drop-append-le from xs ys (omega (arith, low, high)))
    ∙ take-append-le (to - from) (drop from xs) ys (omega (arith, length-drop from xs, low, high))

pub part_at : {X : Type 0} (from to : ℕ) (xs ys zs : List X) → from ≡ length xs → to ≡ length (xs ++ ys) → take (to - from) (drop from ((xs ++ ys) ++ zs)) ≡ ys
part_at from to xs ys zs low high =
    let long : to - from ≡ length ys = omega (arith, low, high, length-append xs ys) in
    ap₂ (λ n m. take n (drop m ((xs ++ ys) ++ zs))) long low
    ∙ ap (λ all. take (length ys) (drop (length xs) all)) (append_assoc xs ys zs)
    ∙ ap (take (length ys)) (drop-append_seam xs (ys ++ zs))
    ∙ take-append_seam ys zs

row_grown : (ps more : List ℕ) (row : Row) → LiesIn ps row → row_in (ps ++ more) row ≡ row_in ps row
row_grown ps more row lies =
    let left = part_grown row.from row.middle ps more lies.left (omega (arith, lies.right, lies.within)) in
    let right = part_grown row.middle row.end ps more lies.right lies.within in
    λ i. record { left = left i; right = right i; cost = row.cost }

rows_grown : (ps more : List ℕ) (rows : List Row) → All (LiesIn ps) rows → map (row_in (ps ++ more)) rows ≡ map (row_in ps) rows
rows_grown ps more [] lie = refl
rows_grown ps more (row ∷ rows) lie =
    λ i. row_grown ps more row (All-head (LiesIn ps) row rows lie) i ∷ rows_grown ps more rows (All-tail (LiesIn ps) row rows lie) i

new_row : (ps l r : List ℕ) (row : Row) → row.from ≡ length ps → row.middle ≡ length (ps ++ l) → row.end ≡ length ((ps ++ l) ++ r) →
    row_in ((ps ++ l) ++ r) row ≡ record { left = l; right = r; cost = row.cost }
new_row ps l r row from middle end =
    let left = part_at row.from row.middle ps l r from middle in
    let right = ap (part row.middle row.end) (sym (append-nil ((ps ++ l) ++ r))) ∙ part_at row.middle row.end (ps ++ l) r [] middle end in
    λ i. record { left = left i; right = right i; cost = row.cost }

pub pushed : (ps l r new : List ℕ) (rows : List Row) (row : Row) → All (LiesIn ps) rows → new ≡ (ps ++ l) ++ r →
    row.from ≡ length ps → row.middle ≡ length (ps ++ l) → row.end ≡ length new →
    map (row_in new) (rows ++ row ∷ []) ≡ map (row_in ps) rows ++ record { left = l; right = r; cost = row.cost } ∷ []
pushed ps l r new rows row lie is from middle end =
    ap (λ all. map (row_in all) (rows ++ row ∷ [])) (is ∙ append_assoc ps l r)
    ∙ map-append (row_in (ps ++ (l ++ r))) rows (row ∷ [])
    ∙ ap₂ (λ old new. old ++ new ∷ []) (rows_grown ps (l ++ r) rows lie)
    (ap (λ all. row_in all row) (sym (append_assoc ps l r)) ∙ new_row ps l r row from middle (end ∙ ap length is))

raised_listed : (ps : List ℕ) (price : ℤ) (rows : List Row) → map (row_in ps) (map (raised_row price) rows) ≡ map (raised price) (map (row_in ps) rows)
raised_listed ps price [] = refl
raised_listed ps price (row ∷ rows) = ap (λ all. raised price (row_in ps row) ∷ all) (raised_listed ps price rows)

rest_of : (first : ℕ) (d rows : List Row) → d ≡ rows → take (length d - first) (drop first d) ≡ drop first rows
rest_of first d rows same = ap (λ n. take n (drop first d)) (sym (length-drop first d)) ∙ take-length (drop first d) ∙ ap (drop first) same

-- the rows after those behind a place have got a price
pub raised_rows : (price : ℤ) (rows d new post rest : List Row) (first n : ℕ) → d ≡ rows →
    new ≡ map (raised_row price) (take (length d - first) (drop first d)) → post ≡ [] → n ≡ length rows →
    take n ((take first d ++ (new ++ post)) ++ rest) ≡ take first rows ++ map (raised_row price) (drop first rows)
raised_rows price rows d new post rest first n same is none many =
    let whole = rest_of first d rows same in
    let behind : new ++ post ≡ map (raised_row price) (drop first rows) = ap₂ (λ xs ys. xs ++ ys) (is ∙ ap (map (raised_row price)) whole) none ∙ append-nil _ in
    let all : take first d ++ (new ++ post) ≡ take first rows ++ map (raised_row price) (drop first rows) = ap₂ (λ xs ys. take first xs ++ ys) same behind in
    let long : n ≡ length (take first d ++ (new ++ post)) =
    many ∙ ap length (sym (take-append-drop first rows)) ∙ length-append (take first rows) (drop first rows)
    ∙ ap (λ k. length (take first rows) + k) (sym (length-map (drop first rows) (raised_row price)))
    ∙ sym (length-append (take first rows) (map (raised_row price) (drop first rows))) ∙ sym (ap length all) in
    take_at (take first d ++ (new ++ post)) rest n (sym long) ∙ all

pub raised_exact : (ps : List ℕ) (price : ℤ) (rows : List Row) (first : ℕ) →
    map (row_in ps) (take first rows ++ map (raised_row price) (drop first rows)) ≡ take first (map (row_in ps) rows) ++ map (raised price) (drop first (map (row_in ps) rows))
raised_exact ps price rows first =
    map-append (row_in ps) (take first rows) (map (raised_row price) (drop first rows))
    ∙ ap₂ (λ xs ys. xs ++ ys) (sym (take-map (row_in ps) first rows))
    (raised_listed ps price (drop first rows) ∙ ap (map (raised price)) (sym (drop-map (row_in ps) first rows)))

pub raised_lie : (ps : List ℕ) (price : ℤ) (rows : List Row) (first : ℕ) → All (LiesIn ps) rows → All (LiesIn ps) (take first rows ++ map (raised_row price) (drop first rows))
raised_lie ps price rows first lie =
    let parts = subst (All (LiesIn ps)) (sym (take-append-drop first rows)) lie in
    All-append (LiesIn ps) (take first rows) (map (raised_row price) (drop first rows)) (in_front (LiesIn ps) (take first rows) (drop first rows) parts)
    (All-map (LiesIn ps) (raised_row price) (drop first rows)
    (All-weaker (LiesIn ps) (λ row. LiesIn ps (raised_row price row)) (λ row h. record { left = h.left; right = h.right; within = h.within }) (drop first rows)
    (at_back (LiesIn ps) (take first rows) (drop first rows) parts)))

-- what they cost with a price is within costs
pub raised_costs : (ps : List ℕ) (price : ℤ) (rows d : List Row) (first : ℕ) → d ≡ rows → IsDisjunctCost price → All IsCheap (drop first (map (row_in ps) rows)) →
    All (λ row. IsWithinCosts (row.cost +ℤ price)) (take (length d - first) (drop first d))
raised_costs ps price rows d first same small cheap =
    let whole = rest_of first d rows same in
    let P : Row → Type 0 = λ row. IsWithinCosts (row.cost +ℤ price) in
    subst (All P) (sym whole)
    (All-weaker (λ row. IsCheap (row_in ps row)) P (λ row h. small_sum row.cost price h small) (drop first rows)
    (from_map IsCheap (row_in ps) (drop first rows) (subst (All IsCheap) (drop-map (row_in ps) first rows) cheap)))

pub none_after : (first : ℕ) (d : List Row) → drop (length d - first) (drop first d) ≡ []
none_after first d = ap (λ n. drop n (drop first d)) (sym (length-drop first d)) ∙ drop-length (drop first d)

-- a row behind so many places
abbrev pub behind : ℕ → Row → Row
behind n row = record { from = n + row.from; middle = n + row.middle; end = n + row.end; cost = row.cost }

part_behind : (from to : ℕ) (ps qs : List ℕ) → part (length ps + from) (length ps + to) (ps ++ qs) ≡ part from to qs
part_behind from to ps qs =
    let long : (length ps + to) - (length ps + from) ≡ to - from = omega arith in
    ap₂ take long (drop-append-add ps qs from)

rows_behind : (ps qs : List ℕ) (rows : List Row) → map (row_in (ps ++ qs)) (map (behind (length ps)) rows) ≡ map (row_in qs) rows
rows_behind ps qs [] = refl
rows_behind ps qs (row ∷ rows) =
    let left = part_behind row.from row.middle ps qs in
    let right = part_behind row.middle row.end ps qs in
    λ i. record { left = left i; right = right i; cost = row.cost } ∷ rows_behind ps qs rows i

-- the rows of two lists, the places of the second behind those of the first
pub appended : (ps qs new : List ℕ) (old rows all : List Row) (n : ℕ) → All (LiesIn ps) old → new ≡ ps ++ qs → n ≡ length ps → all ≡ old ++ map (behind n) rows →
    map (row_in new) all ≡ map (row_in ps) old ++ map (row_in qs) rows
appended ps qs new old rows all n lie is start joined =
    ap₂ (λ new all. map (row_in new) all) is (joined ∙ ap (λ n. old ++ map (behind n) rows) start)
    ∙ map-append (row_in (ps ++ qs)) old (map (behind (length ps)) rows)
    ∙ ap₂ (λ xs ys. xs ++ ys) (rows_grown ps qs old lie) (rows_behind ps qs rows)

pub appended_lie : (ps qs new : List ℕ) (old rows all : List Row) (n : ℕ) → All (LiesIn ps) old → All (LiesIn qs) rows → new ≡ ps ++ qs → n ≡ length ps →
    all ≡ old ++ map (behind n) rows → All (LiesIn new) all
appended_lie ps qs new old rows all n first second is start joined =
    let within : length new ≡ length ps + length qs = ap length is ∙ length-append ps qs in
    subst (All (LiesIn new)) (sym joined)
    (All-append (LiesIn new) old (map (behind n) rows)
    (All-weaker (LiesIn ps) (LiesIn new) (λ row h. record { left = h.left; right = h.right; within = omega (arith, h.within, within) }) old first)
    (All-map (LiesIn new) (behind n) rows (All-weaker (LiesIn qs) (λ row. LiesIn new (behind n row))
    (λ row h. record { left = omega (arith, h.left); right = omega (arith, h.right); within = omega (arith, h.within, within, start) }) rows second)))
