-- The values of a node are what its ways make, and what was made of them is the first of them.
use Rattle.std.proofs.Common.{◌≡◌, ℕ, suc, ◌≤◌, List, [], ◌∷◌, length, set, Option, Some, None, slice_get, inl, inr, refl, sym, ap, ◌∙◌, subst, arith}
use Rattle.std.proofs.lemmas.Option.{slice_get_within, slice_get-get_or, get_or_from_slice_get}
use Rattle.lg_rank.specs.Fronts.{IsFront, Extends}
use Rattle.lg_rank.specs.Merges.{Makes, PartsAre}
use Rattle.std.specs.BinaryHeap.{heap_items}
use Rattle.lg_rank.proofs.Placing.{merged_placed, same_seen}
use Rattle.lg_rank.proofs.Queued.{queue_same}
use Rattle.lg_rank.proofs.Taking.{same_or}
use Rattle.lg_rank.specs.Values.{Value, value_cmp, combine}
use Rattle.lg_rank.specs.Nodes.{Has, no_way, ways_of, way_at, setting, IsForest}
use Rattle.lg_rank.specs.Nodes.Has.{nothing, made}
use Rattle.lg_rank.specs.Tables.{place_of, forest_of, values_of, ready_of, ready_in, ready_at, parts, held_in, IsNode, IsTable, RowsOf, Grown, IsBegun}
use Rattle.lg_rank.specs.declared.part.Way.{Way}
use Rattle.lg_rank.specs.declared.node.Node.{Node}
use Rattle.lg_rank.specs.declared.node.Row.{Row}
use Rattle.lg_rank.proofs.Places.{set_here, set_other, set_long, map_set}

makes_has : (z : Value) (forest : List (List Way)) (k : ℕ) (v : Value) → Makes (setting z forest k) (length (ways_of forest k)) v → Has z forest (Some k) v
makes_has z forest k v m =
    made (Some k) v k m.alt (way_at forest k m.alt) m.x m.y refl (slice_get-get_or (ways_of forest k) m.alt no_way m.alt_in) m.left m.right m.is

pub has_makes : (z : Value) (forest : List (List Way)) (o : Option ℕ) (v : Value) (k : ℕ) → Has z forest o v → o ≡ Some k → Makes (setting z forest k) (length (ways_of forest k)) v
has_makes z forest o v k (nothing p w e i) h = absurd cc
has_makes z forest o v k (made q w j p a x y e at l r is) h =
    let same : j ≡ k = cc in
    let at' : slice_get (ways_of forest k) p ≡ Some a = (λ i. slice_get (ways_of forest (sym same i)) p) ∙ at in
    let a_is : a ≡ way_at forest k p = sym (get_or_from_slice_get (ways_of forest k) p a no_way at') in
    record {
      alt = p;
      alt_in = slice_get_within (ways_of forest k) p a at';
      x = x;
      y = y;
      left = subst (λ (b : Way). Has z forest b.left x) a_is l;
      right = subst (λ (b : Way). Has z forest b.right y) a_is r;
      is = is ∙ ap (λ (b : Way). combine b x y) a_is;
    }

has_nothing : (z : Value) (forest : List (List Way)) (o : Option ℕ) (v : Value) → Has z forest o v → o ≡ None → v ≡ z
has_nothing z forest o v (nothing p w e i) h = i
has_nothing z forest o v (made q w j p a x y e at l r is) h = absurd cc

front_along : (A B : Value → Type 0) (xs : List Value) → ((v : Value) → A v → B v) → ((v : Value) → B v → A v) → IsFront value_cmp A xs → IsFront value_cmp B xs
front_along A B xs to from f = record { rise = f.rise; sound = λ i a p. to a (f.sound i a p); below = λ v h. f.below v (from v h) }

pub empty_front : (A : Value → Type 0) (xs : List Value) → xs ≡ [] → IsFront value_cmp A xs
empty_front A xs e = subst (λ (l : List Value). IsFront value_cmp A l) (sym e) (record { rise = λ i j a b less p q. absurd cc; sound = λ i a p. absurd cc; below = λ v h. inr (λ i a p. absurd cc) })

-- the first values that the ways make are the first of the node
pub makes_front : (z : Value) (forest : List (List Way)) (k : ℕ) (xs : List Value) → IsFront value_cmp (Makes (setting z forest k) (length (ways_of forest k))) xs → IsFront value_cmp (Has z forest (Some k)) xs
makes_front z forest k xs f = front_along (Makes (setting z forest k) (length (ways_of forest k))) (Has z forest (Some k)) xs (makes_has z forest k) (λ v h. has_makes z forest (Some k) v k h refl) f

front_in : (z : Value) (nodes : List Node) (k : ℕ) (o : Option Node) → IsTable z nodes → slice_get nodes k ≡ o → IsFront value_cmp (Has z (forest_of nodes) (Some k)) (ready_in o)
front_in z nodes k None table e = empty_front (Has z (forest_of nodes) (Some k)) [] refl
front_in z nodes k (Some node) table e = (table k node e).front

one_front : (z : Value) (forest : List (List Way)) → IsFront value_cmp (Has z forest None) (z ∷ [])
one_front z forest = record {
  rise = λ i j a b less p q. absurd (let x = slice_get_within (z ∷ []) j b q in omega arith);
  sound = λ i a p. nothing None a refl (let x = slice_get_within (z ∷ []) i a p in let e : i ≡ 0 = omega arith in let q : Some z ≡ Some a = (λ k. slice_get (z ∷ []) (sym e k)) ∙ p in cc);
  below = λ v h. inl (0, ap Some (sym (has_nothing z forest None v h refl)));
}

pub parts_front : (z : Value) (nodes : List Node) → IsTable z nodes → (o : Option ℕ) → IsFront value_cmp (Has z (forest_of nodes) o) (parts z nodes o)
parts_front z nodes table None = one_front z (forest_of nodes)
parts_front z nodes table (Some j) = front_in z nodes j (slice_get nodes j) table refl

pub parts_are : (z : Value) (nodes : List Node) → IsTable z nodes → (k n : ℕ) → PartsAre (setting z (forest_of nodes) k) n (λ p. parts z nodes (way_at (forest_of nodes) k p).left) (λ p. parts z nodes (way_at (forest_of nodes) k p).right)
parts_are z nodes table k n = record { left = λ p less. parts_front z nodes table (way_at (forest_of nodes) k p).left; right = λ p less. parts_front z nodes table (way_at (forest_of nodes) k p).right }

-- ---- one node that changes
pub same_node : (nodes : List Node) (k : ℕ) (node new : Node) → slice_get nodes k ≡ Some node → new.ways.items ≡ node.ways.items → forest_of (set nodes k new) ≡ forest_of nodes
same_node nodes k node new here e = map_set (λ (n : Node). n.ways.items) nodes k new node here e

more_at : (nodes : List Node) (k : ℕ) (node new : Node) → slice_get nodes k ≡ Some node → Extends (ready_of node) (ready_of new) → (q : ℕ) → Extends (ready_at nodes q) (ready_at (set nodes k new) q)
more_at nodes k node new here more q =
    elim (same_or q k) [
      | inl e ↦
          let old : ready_at nodes q ≡ ready_of node = (λ i. ready_at nodes (e i)) ∙ ap ready_in here in
          let now : ready_at (set nodes k new) q ≡ ready_of new = (λ i. ready_at (set nodes k new) (e i)) ∙ ap ready_in (set_here nodes k new (slice_get_within nodes k node here)) in
          λ i v p. (λ j. slice_get (now j) i) ∙ more i v ((λ j. slice_get (sym old j) i) ∙ p)
      | inr e ↦
          let same : ready_at (set nodes k new) q ≡ ready_at nodes q = ap ready_in (set_other nodes k q new e) in
          λ i v p. (λ j. slice_get (same j) i) ∙ p
    ]

pub more_parts : (z : Value) (old new : List Node) → ((q : ℕ) → Extends (ready_at old q) (ready_at new q)) → (o : Option ℕ) → Extends (parts z old o) (parts z new o)
more_parts z old new more None = λ i v p. p
more_parts z old new more (Some j) = more j

pub rows_more : (z : Value) (forest : List (List Way)) (lists lists' : Option ℕ → List Value) (k n : ℕ) (taken : List Value) (rows : List Row) → ((o : Option ℕ) → Extends (lists o) (lists' o)) → RowsOf z forest lists k n taken rows → RowsOf z forest lists' k n taken rows
rows_more z forest lists lists' k n taken rows more h =
    merged_placed (setting z forest k) place_of n (λ p. lists (way_at forest k p).left) (λ p. lists (way_at forest k p).right) (λ p. lists' (way_at forest k p).left) (λ p. lists' (way_at forest k p).right) taken z rows
    (λ p less. more (way_at forest k p).left) (λ p less. more (way_at forest k p).right) h

node_more : (z : Value) (forest : List (List Way)) (lists lists' : Option ℕ → List Value) (k : ℕ) (node : Node) → ((o : Option ℕ) → Extends (lists o) (lists' o)) → IsNode z forest lists k node → IsNode z forest lists' k node
node_more z forest lists lists' k node more is = record {
  ways = is.ways;
  idle = is.idle;
  busy = λ e. rows_more z forest lists lists' k (length (ways_of forest k)) (values_of node) node.rows.items more (is.busy e);
  queue = λ e. queue_same (held_in z forest lists k) (held_in z forest lists' k) node.rows.items (heap_items node.queue)
      (λ j t at. ap (λ q. q.value) (same_seen (setting z forest k) (length (ways_of forest k)) (λ p. lists (way_at forest k p).left) (λ p. lists (way_at forest k p).right) (λ p. lists' (way_at forest k p).left) (λ p. lists' (way_at forest k p).right) (values_of node) z (place_of t)
      (λ p less. more (way_at forest k p).left) (λ p less. more (way_at forest k p).right) ((is.busy e).each j t at)))
      (is.queue e);
  front = is.front;
}

-- the table after node k became `new`
pub table_set : (z : Value) (nodes : List Node) (k : ℕ) (node new : Node) → IsTable z nodes → slice_get nodes k ≡ Some node → new.ways.items ≡ node.ways.items → Extends (ready_of node) (ready_of new) → IsNode z (forest_of nodes) (parts z nodes) k new → IsTable z (set nodes k new)
table_set z nodes k node new table here ways more is q other at =
    let after : List Node = set nodes k new in
    let grown : (o : Option ℕ) → Extends (parts z nodes o) (parts z after o) = more_parts z nodes after (more_at nodes k node new here more) in
    subst (λ (f : List (List Way)). IsNode z f (parts z after) q other) (sym (same_node nodes k node new here ways)) (elim (same_or q k) [
      | inl e ↦
          let same : new ≡ other = (let a = set_here nodes k new (slice_get_within nodes k node here) in let b : slice_get after k ≡ Some other = (λ i. slice_get after (sym e i)) ∙ at in cc) in
          node_more z (forest_of nodes) (parts z nodes) (parts z after) q other grown (subst (λ (t : Node). IsNode z (forest_of nodes) (parts z nodes) q t) same (subst (λ (j : ℕ). IsNode z (forest_of nodes) (parts z nodes) j new) (sym e) is))
      | inr e ↦ node_more z (forest_of nodes) (parts z nodes) (parts z after) q other grown (table q other (sym (set_other nodes k q new e) ∙ at))
    ])

pub grown_set : (nodes : List Node) (k : ℕ) (node new : Node) → slice_get nodes k ≡ Some node → new.ways.items ≡ node.ways.items → Extends (ready_of node) (ready_of new) → Grown (suc k) nodes (set nodes k new)
grown_set nodes k node new here ways more = record {
  forest = same_node nodes k node new here ways;
  long = set_long nodes k new;
  more = more_at nodes k node new here more;
  above = λ q le. set_other nodes k q new (λ e. omega arith);
}

pub grown_none : (n : ℕ) (nodes : List Node) → Grown n nodes nodes
grown_none n nodes = record { forest = refl; long = refl; more = λ k i v p. p; above = λ k at. refl }

-- what has grown up to m, and then up to n
pub grown_more : (m n : ℕ) (old mid new : List Node) → m ≤ n → Grown m old mid → Grown n mid new → Grown n old new
grown_more m n old mid new le a b = record {
  forest = b.forest ∙ a.forest;
  long = b.long ∙ a.long;
  more = λ k i v p. b.more k i v (a.more k i v p);
  above = λ k at. b.above k at ∙ a.above k (omega arith);
}

pub begun_more : (n k : ℕ) (old new : List Node) → n ≤ k → Grown n old new → IsBegun old k → IsBegun new k
begun_more n k old new le g b = record { node = b.node; here = g.above k le ∙ b.here; begun = b.begun }

pub forest_more : (z : Value) (n : ℕ) (old new : List Node) → Grown n old new → IsForest z (forest_of old) → IsForest z (forest_of new)
forest_more z n old new g f = subst (λ (t : List (List Way)). IsForest z t) (sym g.forest) f
