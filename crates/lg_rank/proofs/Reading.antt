-- What is read of a table.
use Rattle.std.proofs.Common.{◌≡◌, ℕ, ◌<◌, ◌≤◌, Bool, true, false, not, List, [], length, get_or, Option, Some, None, slice_get, refl, sym, ap, ◌∙◌, subst, arith}
use Rattle.std.proofs.lemmas.Option.{slice_get_within, slice_get-get_or, get_or_from_slice_get}
use Rattle.lg_rank.specs.Fronts.{IsAll, IsListOf}
use Rattle.lg_rank.specs.Merges.{Ahead, IsRow, held}
use Rattle.lg_rank.specs.Values.{Value, value_cmp}
use Rattle.lg_rank.specs.Nodes.{Has, ways_of, way_at, no_way, setting, IsForest}
use Rattle.lg_rank.specs.Tables.{seen, place_of, forest_of, values_of, parts, IsTable, Grown, end_of, IsNth, IsBegun, IsIdle, IsWayOf, Holds, value_at, held_by, rows_in, rows_at}
use Rattle.lg_rank.specs.declared.part.Way.{Way}
use Rattle.lg_rank.specs.declared.node.Node.{Node}
use Rattle.lg_rank.specs.declared.node.Row.{Row}
use Rattle.lg_rank.proofs.Places.{map_at}
use Rattle.lg_rank.proofs.Placing.{same_seen}
use Rattle.lg_rank.proofs.Listed.{nth_listed}
use Rattle.lg_rank.proofs.Forests.{parts_front, more_parts}

pub begun_here : (n : List Node) (k : ℕ) (d : Node) → k < length n → (get_or n k d).begun ≡ true → IsBegun n k
begun_here n k d less e = record { node = get_or n k d; here = slice_get-get_or n k d less; begun = e }

pub idle_here : (n : List Node) (k : ℕ) (d : Node) → k < length n → (get_or n k d).begun ≡ false → IsIdle n k
idle_here n k d less e = record { node = get_or n k d; here = slice_get-get_or n k d less; idle = e }

pub idle_more : (n k : ℕ) (old new : List Node) → n ≤ k → Grown n old new → IsIdle old k → IsIdle new k
idle_more n k old new le g b = record { node = b.node; here = g.above k le ∙ b.here; idle = b.idle }

end_below : (o : Option ℕ) (k : ℕ) → ((j : ℕ) → o ≡ Some j → j < k) → end_of o ≤ k
end_below None k h = omega arith
end_below (Some j) k h = (let a = h j refl in omega arith)

pub way_read : (z : Value) (n : List Node) (k p : ℕ) (d : Node) (e : Way) → IsForest z (forest_of n) → k < length n → p < length (ways_of (forest_of n) k) → IsWayOf n k p (get_or (get_or n k d).ways.items p e)
way_read z n k p d e forest within less =
    let node = get_or n k d in
    let ways : ways_of (forest_of n) k ≡ node.ways.items = map_at (λ (t : Node). t.ways.items) n k node [] (slice_get-get_or n k d within) in
    let at : slice_get (ways_of (forest_of n) k) p ≡ Some (get_or node.ways.items p e) = (λ i. slice_get (ways i) p) ∙ slice_get-get_or node.ways.items p e (subst (λ (t : List Way). p < length t) ways less) in
    let is : get_or node.ways.items p e ≡ way_at (forest_of n) k p = sym (get_or_from_slice_get (ways_of (forest_of n) k) p (get_or node.ways.items p e) no_way at) in
    record {
      is = is;
      left = end_below (get_or node.ways.items p e).left k (λ j f. forest.left_below k p j less (ap (λ (t : Way). t.left) (sym is) ∙ f));
      right = end_below (get_or node.ways.items p e).right k (λ j f. forest.right_below k p j less (ap (λ (t : Way). t.right) (sym is) ∙ f));
    }

-- ---- what can be read of a node

-- ---- rows
rows_are : (n : List Node) (k : ℕ) (b : IsBegun n k) → rows_at n k ≡ b.node.rows.items
rows_are n k b = ap rows_in b.here

pub row_is : (z : Value) (n : List Node) (k m : ℕ) (r : Row) → IsTable z n → (b : IsBegun n k) → slice_get (rows_at n k) m ≡ Some r
    → IsRow (setting z (forest_of n) k) (length (ways_of (forest_of n) k)) (λ p. parts z n (way_at (forest_of n) k p).left) (λ p. parts z n (way_at (forest_of n) k p).right) (values_of b.node) (seen z (forest_of n) (parts z n) k r)
row_is z n k m r table b at = ((table k b.node b.here).busy b.begun).each m r ((λ i. slice_get (sym (rows_are n k b) i) m) ∙ at)

pub row_holds : (z : Value) (n : List Node) (k : ℕ) (made : List Value) (r : Row) → IsRow (setting z (forest_of n) k) (length (ways_of (forest_of n) k)) (λ p. parts z n (way_at (forest_of n) k p).left) (λ p. parts z n (way_at (forest_of n) k p).right) made (seen z (forest_of n) (parts z n) k r) → r.live ≡ true → Holds z n k r
row_holds z n k made r is live =
    let w = way_at (forest_of n) k r.way in
    let ahead : Ahead (setting z (forest_of n) k) (parts z n w.left) made r.way r.next is.y (Some (value_at z n k r)) =
    subst (λ (t : Bool). Ahead (setting z (forest_of n) k) (parts z n w.left) made r.way r.next is.y (held t (value_at z n k r))) live is.ahead in
    record { way_in = is.alt_in; left = slice_get_within (parts z n w.left) r.next ahead.0 ahead.1; right = slice_get_within (parts z n w.right) r.at is.y is.y_at }

pub live_holds : (z : Value) (n : List Node) (k m : ℕ) (r : Row) → IsTable z n → IsBegun n k → slice_get (rows_at n k) m ≡ Some r → r.live ≡ true → Holds z n k r
live_holds z n k m r table b at live = row_holds z n k (values_of b.node) r (row_is z n k m r table b at) live

held_live : (b : Bool) (v w : Value) → held b v ≡ Some w → (b ≡ true) × (v ≡ w)
held_live false v w e = absurd cc
held_live true v w e = (refl, cc)

-- a test of `!` that failed
pub not_false : (b : Bool) → not b ≡ false → b ≡ true
not_false true e = refl
not_false false e = absurd cc

pub held_is : (z : Value) (n : List Node) (k : ℕ) (r : Row) (v : Value) → held_by z n k r ≡ Some v → (r.live ≡ true) × (value_at z n k r ≡ v)
held_is z n k r v e = held_live r.live (value_at z n k r) v e

-- a row holds the same in a later table
pub held_grown : (z : Value) (g : ℕ) (m n : List Node) (k j : ℕ) (r : Row) → IsTable z m → IsBegun m k → Grown g m n → slice_get (rows_at m k) j ≡ Some r → held_by z m k r ≡ held_by z n k r
held_grown z g m n k j r table b grown at =
    let f = forest_of m in
    let more = more_parts z m n grown.more in
    let same = same_seen (setting z f k) (length (ways_of f k)) (λ p. parts z m (way_at f k p).left) (λ p. parts z m (way_at f k p).right) (λ p. parts z n (way_at f k p).left) (λ p. parts z n (way_at f k p).right) (values_of b.node) z (place_of r)
    (λ p less. more (way_at f k p).left) (λ p less. more (way_at f k p).right) (row_is z m k j r table b at) in
    ap (λ t. t.value) same ∙ ap (λ (t : List (List Way)). (seen z t (parts z n) k r).value) (sym grown.forest)

-- ---- the value at a place is that of the list
pub nth_read : (z : Value) (old new : List Node) (o : Option ℕ) (i : ℕ) (b : Bool) (all : List Value) → IsForest z (forest_of old) → IsTable z new → forest_of new ≡ forest_of old → IsNth z new o i b → IsListOf value_cmp (Has z (forest_of old) o) all → slice_get all i ≡ slice_get (parts z new o) i
nth_read z old new o i b all forest table same nth is =
    nth_listed (forest.laws 0).total (Has z (forest_of new) o) (parts z new o) all i (slice_get (parts z new o) i) (parts_front z new table o) (subst (λ (f : List (List Way)). IsListOf value_cmp (Has z f o) all) (sym same) is) refl (all_made b nth)
  where
    all_made : (b : Bool) → IsNth z new o i b → slice_get (parts z new o) i ≡ None → IsAll (Has z (forest_of new) o) (parts z new o)
    all_made true less none = absurd (let e : slice_get (parts z new o) i ≡ Some (get_or (parts z new o) i z) = slice_get-get_or (parts z new o) i z less in let f : ◌≡◌ {A = Option Value} None (Some (get_or (parts z new o) i z)) = sym none ∙ e in cc)
    all_made false nth none = λ v h. (let j = nth v h in (j.0, j.2))
