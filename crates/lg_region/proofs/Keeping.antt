-- What the numbering keeps, for its methods.
use Rattle.std.proofs.Common.{◌≡◌, ◌≢◌, ℕ, suc, ◌-◌, ◌<◌, ◌≤◌, List, [], length, get_or, map, sym, ◌∙◌, ap, subst, Some, Vec, Global, Bor, arith}
use Rattle.std.specs.List.{AllZip, slice_get}
use Rattle.std.proofs.lemmas.List.{length-map}
use Rattle.std.proofs.lemmas.Option.{slice_get-get_or}
use Rattle.lg_gram.specs.Connectors.{Connector}
use Rattle.lg_gram.specs.declared.disjunct.Disjunct.{Disjunct}
use Rattle.lg_region.specs.Fronts.{Numbering}
use Rattle.lg_region.specs.Keys.{IsDisjunctAt}
use Rattle.lg_region.specs.Kept.{IsKept, lists_in, numbering}
use Rattle.lg_region.specs.Numbered.{HasSides}
use Rattle.lg_region.specs.Chains.{IsByClass}
use Rattle.lg_region.specs.Ways.{IsEndOf}
use Rattle.lg_region.specs.declared.lists.Lists.TheInside.{Inside}
use Rattle.lg_region.specs.declared.numbering.Sides.{Sides}
use Rattle.lg_region.specs.declared.chains.Side.{Side}
use Rattle.lg_region.specs.declared.chains.ByClass.{ByClass}
use Rattle.lg_region.specs.declared.ways.End.{End}
use Rattle.lg_region.proofs.Elements.{zip_at, zip_length}
use Rattle.lg_region.proofs.Ends.{map_at, row_within, row_at, number_within, sides_at}

-- the rows of the numbers of disjuncts
abbrev pub rows_in : Inside → List (List Sides)
rows_in a = map (λ v. v.items) a.sides.items

pub word_within : (a : Inside) (v : Numbering) (word number : ℕ) → IsKept a → numbering a ≡ v → number < length (get_or v.positions word []) → word < length a.sides.items
word_within a v word number is e l =
    let h : number < length (get_or a.problem.now word []) = subst (λ z. number < length (get_or z.positions word [])) (sym e) l in
    let r = row_within (lists_in a) a.problem.now (rows_in a) word number is.sides h in
    let m : length (rows_in a) ≡ length a.sides.items = length-map a.sides.items (λ v. v.items) in
    omega arith

row_is : (a : Inside) (word : ℕ) (row : Vec Sides Global) → word < length a.sides.items → row ≡ get_or a.sides.items word row → get_or (rows_in a) word [] ≡ row.items
row_is a word row l e = map_at {X = Vec Sides Global} (λ v. v.items) a.sides.items word row [] l e

pub number_within_row : (a : Inside) (v : Numbering) (word number : ℕ) (row : Vec Sides Global) → IsKept a → numbering a ≡ v → row ≡ get_or a.sides.items word row → number < length (get_or v.positions word []) → number < length row.items
number_within_row a v word number row is e r l =
    let h : number < length (get_or a.problem.now word []) = subst (λ z. number < length (get_or z.positions word [])) (sym e) l in
    let w = row_is a word row (word_within a v word number is e l) r in
    let z = row_at (lists_in a) a.problem.now (rows_in a) word number is.sides h in
    let n = number_within (lists_in a) (get_or a.problem.now word []) (get_or (rows_in a) word []) number z h in
    subst (λ z. number < length z) w n

pub sides_are : (a : Inside) (v : Numbering) (word number : ℕ) (row : Vec Sides Global) (s : Sides) → IsKept a → numbering a ≡ v → row ≡ get_or a.sides.items word row → s ≡ get_or row.items number s → number < length (get_or v.positions word [])
    → (d : Disjunct) → IsDisjunctAt v.positions word number d → HasSides v.lists d s
sides_are a v word number row s is e r t l d at =
    let h : number < length (get_or a.problem.now word []) = subst (λ z. number < length (get_or z.positions word [])) (sym e) l in
    let w = row_is a word row (word_within a v word number is e l) r in
    let z = row_at (lists_in a) a.problem.now (rows_in a) word number is.sides h in
    let u : s ≡ get_or (get_or (rows_in a) word []) number s = t ∙ ap (λ x. get_or x number s) (sym w) in
    let at' : IsDisjunctAt a.problem.now word number d = subst (λ z. IsDisjunctAt z.positions word number d) (sym e) at in
    subst (λ x. HasSides x.lists d s) e (sides_at (lists_in a) a.problem.now (get_or (rows_in a) word []) word number s d z u at')

fronts_count : (a : Inside) → IsKept a → length (lists_in a) ≡ length a.fronts.items
fronts_count a is = length-map a.fronts.items (λ f. f.now)

pub front_is : (a : Inside) (v : Numbering) (n : ℕ) (f : Bor (List Connector)) → IsKept a → numbering a ≡ v → n < length a.fronts.items → f ≡ get_or a.fronts.items n f → (suc n ≤ length v.lists) × (get_or v.lists n [] ≡ f.now)
front_is a v n f is e l t =
    let c = fronts_count a is in
    let k : suc n ≤ length (lists_in a) = omega arith in
    (subst (λ z. suc n ≤ length z.lists) e k, subst (λ z. get_or z.lists n [] ≡ f.now) e (map_at {X = Bor (List Connector)} (λ f. f.now) a.fronts.items n f [] l t))

-- the ends of the lists
pub ends_within : (a : Inside) (v : Numbering) (n : ℕ) → IsKept a → numbering a ≡ v → suc n ≤ length v.lists → n < length a.ends.items
ends_within a v n is e l =
    let h : suc n ≤ length (lists_in a) = subst (λ z. suc n ≤ length z.lists) (sym e) l in
    let s = is.ends.same_length in
    omega arith

pub end_is : (a : Inside) (v : Numbering) (n : ℕ) (x : End) → IsKept a → numbering a ≡ v → suc n ≤ length v.lists → x ≡ get_or a.ends.items n x → IsEndOf v.lists (suc n) x
end_is a v n x is e l r =
    let at : slice_get a.ends.items n ≡ Some x = slice_get-get_or a.ends.items n x (ends_within a v n is e l) ∙ ap (λ z. Some z) (sym r) in
    subst (λ z. IsEndOf z.lists (suc n) x) e (is.ends.each n x at)

pub pred_of : (n : ℕ) → n ≢ 0 → n ≡ suc (n - 1)
pred_of n h = omega arith

-- the disjuncts of a word by class
pub word_listed : (a : Inside) (v : Numbering) (side : Side) (words : List ByClass) (word : ℕ) → AllZip (IsByClass side) a.problem.now words → numbering a ≡ v → word < length v.positions → word < length words
word_listed a v side words word are e l =
    let h : word < length a.problem.now = subst (λ z. word < length z.positions) (sym e) l in
    let n = zip_length (IsByClass side) a.problem.now words are in
    omega arith

pub word_at : (a : Inside) (v : Numbering) (side : Side) (words : List ByClass) (word : ℕ) (t : ByClass) → AllZip (IsByClass side) a.problem.now words → numbering a ≡ v → word < length v.positions → t ≡ get_or words word t → IsByClass side (get_or v.positions word []) t
word_at a v side words word t are e l r =
    let h : word < length a.problem.now = subst (λ z. word < length z.positions) (sym e) l in
    subst (λ z. IsByClass side (get_or z.positions word []) t) e (subst (λ z. IsByClass side (get_or a.problem.now word []) z) (sym r) (zip_at (IsByClass side) a.problem.now words word [] t are h))
