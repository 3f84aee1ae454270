-- The keys of an alternative may be asked for where its own key may, and they are narrower.
use Rattle.std.proofs.Common.{ℕ, suc, ◌-◌, ◌<◌, ◌≤◌, List, length, Some, None, ap, subst, arith}
use Rattle.lg_gram.specs.Connectors.{Connector}
use Rattle.lg_gram.specs.declared.disjunct.Disjunct.{Disjunct}
use Rattle.lg_region.specs.Parts.{Region}
use Rattle.lg_region.specs.Cuts.{IsValid}
use Rattle.lg_region.specs.Laws.{CutsAreValid}
use Rattle.lg_region.specs.Keys.{IsValidKey, IsAltOf, IsAltOfWhole, IsAltOfRegion, IsKeyOf, region_of_numbers}
use Rattle.lg_region.specs.declared.key.Key.{Key}
use Rattle.lg_region.specs.declared.key.Key.TheVariants.{Whole, Region as Between}
use Rattle.lg_region.specs.declared.alternative.Alt.{Alt}
use Rattle.lg_region.specs.declared.alternative.Alt.TheVariants.{AllNull, Split as At}
use Rattle.lg_forest.specs.Search.{key_width, alt_bound, HasValidKeys}

-- a key that may be asked for, narrower than n
abbrev IsBelow : List (List Disjunct) → List (List Connector) → ℕ → Key → Type 0
IsBelow positions lists n k = IsValidKey positions lists k × (key_width positions k < n)

-- both keys of an alternative are
abbrev AreBelow : List (List Disjunct) → List (List Connector) → ℕ → Alt → Type 0
AreBelow positions lists n a = HasValidKeys (record { positions = positions; lists = lists }) a × (alt_bound positions a ≤ n)

-- a key of a valid region may be asked for, and is as wide as the region
valid_key : (positions : List (List Disjunct)) (lists : List (List Connector)) (n : ℕ) (m : Key) (k : Region) → IsKeyOf lists m k → IsValid positions k → k.right - k.left < n → IsBelow positions lists n m
valid_key positions lists n (Whole nulls) k is v w = absurd is
valid_key positions lists n (Between left right llist rlist nulls) k is v w =
    let e = ap (λ (z : Region). z.right - z.left) is.2 in
    ((is.0, is.1, subst (λ z. IsValid positions z) is.2 v), omega (arith, e))

below_whole : (positions : List (List Disjunct)) (lists : List (List Connector)) (nulls : ℕ) (a : Alt) → CutsAreValid → IsAltOfWhole positions lists nulls a → AreBelow positions lists (suc (length positions)) a
below_whole positions lists nulls AllNull laws is = (record { left = tt; right = tt }, omega arith)
below_whole positions lists nulls (At word number None None None (Some rkey)) laws (c, is) =
    let e = ap (λ (z : Region). z.right - z.left) is.first.rkey in
    let r = valid_key positions lists (suc (length positions)) rkey c.rkey is.behind (laws.first positions nulls c is.first) (omega (arith, e)) in
    let lt = r.1 in
    (record { left = tt; right = r.0 }, omega arith)
below_whole positions lists nulls (At word number None None None None) laws is = absurd is
below_whole positions lists nulls (At word number None None (Some lkey) rkey) laws is = absurd is
below_whole positions lists nulls (At word number None (Some j) lkey rkey) laws is = absurd is
below_whole positions lists nulls (At word number (Some j) to_right lkey rkey) laws is = absurd is

below_region : (positions : List (List Disjunct)) (lists : List (List Connector)) (k : Region) (a : Alt) → CutsAreValid → IsValid positions k → IsAltOfRegion positions lists k a → AreBelow positions lists (k.right - k.left) a
below_region positions lists k AllNull laws v is = (record { left = tt; right = tt }, omega arith)
below_region positions lists k (At word number to_left to_right (Some lkey) (Some rkey)) laws v (c, is) =
    let s = laws.split positions k c v is.cut in
    let ends_left = is.cut.ends_left in
    let ends_right = is.cut.ends_right in
    let x = is.cut.after in
    let y = is.cut.before in
    let l = valid_key positions lists (k.right - k.left) lkey c.lkey is.before s.0 (omega arith) in
    let r = valid_key positions lists (k.right - k.left) rkey c.rkey is.behind s.1 (omega arith) in
    let lt = l.1 in
    let rt = r.1 in
    (record { left = l.0; right = r.0 }, omega arith)
below_region positions lists k (At word number to_left to_right (Some lkey) None) laws v is = absurd is
below_region positions lists k (At word number to_left to_right None rkey) laws v is = absurd is

pub below : (positions : List (List Disjunct)) (lists : List (List Connector)) (k : Key) (a : Alt) → CutsAreValid → IsValidKey positions lists k → IsAltOf positions lists k a → AreBelow positions lists (key_width positions k) a
below positions lists (Whole nulls) a laws v is = below_whole positions lists nulls a laws is
below positions lists (Between left right llist rlist nulls) a laws v is = below_region positions lists (region_of_numbers lists left right llist rlist nulls) a laws v.2 is
