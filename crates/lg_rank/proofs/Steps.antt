-- The steps of the table: what each function's parts come to.
use Rattle.std.proofs.Common.{◌≡◌, ℕ, zero, suc, ◌+◌, ◌<◌, ◌≤◌, nat_lt, Bool, true, false, List, [], ◌∷◌, ◌++◌, length, set, get_or, map, Option, Some, None, slice_get, ◌⊎◌, inl, inr, Less, Result, Ok, Err, refl, sym, ap, ◌∙◌, subst, arith}
use Rattle.std.specs.Result.{OnOk, OnErr}
use Rattle.std.proofs.lemmas.Bool.Decides.{nat_tests}
use Rattle.std.proofs.lemmas.Option.{slice_get_within, slice_get-get_or, get_or_from_slice_get}
use Rattle.lg_rank.specs.Fronts.{IsIn, IsAll, IsFront, AtMost, Extends}
use Rattle.lg_rank.specs.Merges.{Turn, Begins, Following, held}
use Rattle.lg_base.specs.declared.memory.NoMemory.{NoMemory}
use Rattle.lg_rank.specs.Queues.{waiting_list, least_part, IsLeastOf, IsQueue, IsFirstAt, IsWaiting, IsOpened}
use Rattle.lg_rank.specs.declared.queue.Waiting.{Waiting}
use Rattle.std.specs.BinaryHeap.{heap_items}
use Rattle.std.specs.Cmp.{IsTotalOrder}
use Rattle.lg_rank.proofs.Queued.{waits_permuted, waits_turn, one_at, first_makes, first_value, first_least, least_is, none_made}
use Rattle.lg_rank.specs.Values.{Value, value_of, value_cmp, combine, IsSmall, IsSmallWay}
use Rattle.lg_rank.specs.Nodes.{Has, ways_of, way_at, setting, IsForest}
use Rattle.lg_rank.specs.Tables.{seen, forest_of, values_of, made_in, made_at, ready_of, ready_in, ready_at, parts, IsNode, IsTable, RowsOf, Grown, IsNth, IsBegun, IsIdle, IsWayOf, Holds, value_at, held_by, rows_in, rows_at, queue_in, queue_at, GoesOn, IsFirst, IsFirstOf, Begin, IsLeastRow, Chosen, Puts, IsSameNode, Starts, Stepped, Advances, row_list}
use Rattle.lg_rank.specs.declared.part.Part.{Part}
use Rattle.lg_rank.specs.declared.part.Way.{Way}
use Rattle.lg_rank.specs.declared.node.Choice.{Choice}
use Rattle.lg_rank.specs.declared.node.Node.{Node}
use Rattle.lg_rank.specs.declared.node.Row.{Row}
use Rattle.lg_rank.proofs.Covering.{front_more, finished}
use Rattle.lg_rank.proofs.Elements.{append_old, append_none, less_not}
use Rattle.lg_rank.proofs.Forests.{makes_front, rows_more, parts_front, parts_are, has_makes, table_set, grown_set, more_parts, begun_more}
use Rattle.lg_rank.proofs.Growing.{merged_begun, merged_passed}
use Rattle.lg_rank.proofs.Places.{set_here}
use Rattle.lg_rank.proofs.Reading.{row_holds, live_holds, held_is, held_grown}
use Rattle.lg_rank.proofs.Rows.{merged_more}
use Rattle.lg_rank.proofs.Taking.{same_or}

true_false : (b : Bool) → b ≡ true → b ≡ false → ⊥
true_false true e f = absurd cc
true_false false e f = absurd cc

-- ---- the rows in a later table
rows_grown : (z : Value) (b : ℕ) (m n : List Node) (k p : ℕ) (taken : List Value) (rows : List Row) → Grown b m n → RowsOf z (forest_of m) (parts z m) k p taken rows → RowsOf z (forest_of n) (parts z n) k p taken rows
rows_grown z b m n k p taken rows g h =
    subst (λ (f : List (List Way)). RowsOf z f (parts z n) k p taken rows) (sym g.forest) (rows_more z (forest_of m) (parts z m) (parts z n) k p taken rows (more_parts z m n g.more) h)

abbrev pub row_made : ℕ → ℕ → ℕ → Bool → Row
row_made p j i b = record { way = p; at = j; next = i; live = b }

-- ---- a node that begins
first_row : (z : Value) (n : List Node) (k p : ℕ) (w : Way) (j : ℕ) (b : Row) → w ≡ way_at (forest_of n) k p → IsFirst z n p w j b
    → Begins (setting z (forest_of n) k) (seen z (forest_of n) (parts z n) k) (parts z n (way_at (forest_of n) k p).left) (parts z n (way_at (forest_of n) k p).right) p j b
first_row z n k p w j b is f =
    let ls = parts z n (way_at (forest_of n) k p).left in
    let rs = parts z n (way_at (forest_of n) k p).right in
    let b_is : b ≡ row_made p j 0 true = λ i. record { way = f.way i; at = f.at i; next = f.next i; live = f.live i } in
    let left : 0 < length ls = subst (λ (t : Way). 0 < length (parts z n t.left)) is f.left in
    let right : j < length rs = subst (λ (t : Way). j < length (parts z n t.right)) is f.right in
    subst (λ (t : Row). Begins (setting z (forest_of n) k) (seen z (forest_of n) (parts z n) k) ls rs p j t) (sym b_is) (record {
      alt = refl;
      at = refl;
      next = refl;
      x = get_or ls 0 z;
      y = get_or rs j z;
      x_at = slice_get-get_or ls 0 z left;
      y_at = slice_get-get_or rs j z right;
      value = refl;
    })

-- a part with no value at 0 has none
no_value : (z : Value) (n : List Node) (o : Option ℕ) (v : Value) → IsNth z n o 0 false → Has z (forest_of n) o v → ⊥
no_value z n o v nth h = (let j = nth v h in omega (arith, j.1))

-- one more way of a node that begins
rows_begun : (z : Value) (n : List Node) (k p : ℕ) (w : Way) (rows : List Row) (first : Option Row) → w ≡ way_at (forest_of n) k p → RowsOf z (forest_of n) (parts z n) k p [] rows → IsFirstOf z n p w 0 first → RowsOf z (forest_of n) (parts z n) k (suc p) [] (rows ++ row_list first)
rows_begun z n k p w rows None is h f =
    subst (λ (t : List Row). RowsOf z (forest_of n) (parts z n) k (suc p) [] t) (sym (append_none rows))
    (merged_passed (setting z (forest_of n) k) (seen z (forest_of n) (parts z n) k) p (λ q. parts z n (way_at (forest_of n) k q).left) (λ q. parts z n (way_at (forest_of n) k q).right) rows h
    (elim f [
      | inl a ↦ inl (λ x hx. no_value z n (way_at (forest_of n) k p).left x (subst (λ (t : Way). IsNth z n t.left 0 false) is a) hx)
      | inr a ↦ inr (λ y hy. no_value z n (way_at (forest_of n) k p).right y (subst (λ (t : Way). IsNth z n t.right 0 false) is a) hy)
    ]))
rows_begun z n k p w rows (Some b) is h f =
    merged_begun (setting z (forest_of n) k) (seen z (forest_of n) (parts z n) k) p (λ q. parts z n (way_at (forest_of n) k q).left) (λ q. parts z n (way_at (forest_of n) k q).right) rows b h (first_row z n k p w 0 b is f)

pub begin_holds : (z : Value) (n : List Node) (k i : ℕ) (rows : List Row) (d : Row) → RowsOf z (forest_of n) (parts z n) k (length (ways_of (forest_of n) k)) [] rows → i < length rows → (get_or rows i d).live ≡ true → Holds z n k (get_or rows i d)
begin_holds z n k i rows d all less live = row_holds z n k [] (get_or rows i d) (all.each i (get_or rows i d) (slice_get-get_or rows i d less)) live

pub begin_step : (z : Value) (b : ℕ) (m n slice : List Node) (k p : ℕ) (w : Way) (rows rows' : List Row) (first : Option Row) → slice ≡ m → IsWayOf slice k p w → Grown b m n → RowsOf z (forest_of m) (parts z m) k p [] rows → IsFirstOf z n p w 0 first → rows' ≡ rows ++ row_list first
    → RowsOf z (forest_of n) (parts z n) k (p + 1) [] rows'
begin_step z b m n slice k p w rows rows' first e way g h f r =
    let is : w ≡ way_at (forest_of n) k p = way.is ∙ (λ i. way_at (forest_of (e i)) k p) ∙ (λ i. way_at (sym g.forest i) k p) in
    let next : suc p ≡ p + 1 = omega arith in
    subst (λ (t : List Row). RowsOf z (forest_of n) (parts z n) k (p + 1) [] t) (sym r) (subst (λ (q : ℕ). RowsOf z (forest_of n) (parts z n) k q [] (rows ++ row_list first)) next (rows_begun z n k p w rows first is (rows_grown z b m n k p [] rows g h) f))

pub begin_all : (z : Value) (b : ℕ) (m n : List Node) (k p count : ℕ) (rows : List Row) → Grown b m n → count ≤ p → p ≤ count → count ≡ length (ways_of (forest_of m) k) → RowsOf z (forest_of n) (parts z n) k p [] rows → RowsOf z (forest_of n) (parts z n) k (length (ways_of (forest_of n) k)) [] rows
begin_all z b m n k p count rows g low high e h =
    let same : p ≡ length (ways_of (forest_of m) k) = omega arith in
    let is : p ≡ length (ways_of (forest_of n) k) = same ∙ (λ i. length (ways_of (sym g.forest i) k)) in
    subst (λ (q : ℕ). RowsOf z (forest_of n) (parts z n) k q [] rows) is h

-- the same of slices of them
pub begin_slices : (z : Value) (n slice : List Node) (k : ℕ) (rows few : List Row) → slice ≡ n → few ≡ rows → RowsOf z (forest_of n) (parts z n) k (length (ways_of (forest_of n) k)) [] rows → RowsOf z (forest_of slice) (parts z slice) k (length (ways_of (forest_of slice) k)) [] few
begin_slices z n slice k rows few e f h =
    subst (λ (l : List Row). RowsOf z (forest_of slice) (parts z slice) k (length (ways_of (forest_of slice) k)) [] l) (sym f) (subst (λ (m : List Node). RowsOf z (forest_of m) (parts z m) k (length (ways_of (forest_of m) k)) [] rows) (sym e) h)

pub queue_slices : (z : Value) (n slice : List Node) (k : ℕ) (rows few : List Row) (queue : List Waiting) → slice ≡ n → few ≡ rows → IsQueue (held_by z slice k) few queue → IsQueue (held_by z n k) rows queue
queue_slices z n slice k rows few queue e f h = subst (λ (l : List Row). IsQueue (held_by z n k) l queue) f (subst (λ (m : List Node). IsQueue (held_by z m k) few queue) e h)

-- the values that were made and the least that the rows make are the first of the node
pub least_front : (z : Value) (n : List Node) (k : ℕ) (taken : List Value) (rows : List Row) (o : Option Waiting) → IsForest z (forest_of n) → IsTable z n → RowsOf z (forest_of n) (parts z n) k (length (ways_of (forest_of n) k)) taken rows → IsLeastOf (held_by z n k) rows o
    → IsFront value_cmp (Has z (forest_of n) (Some k)) (taken ++ least_part (waiting_list o))
least_front z n k taken rows None forest table all least = subst (λ (l : List Value). IsFront value_cmp (Has z (forest_of n) (Some k)) l) (sym (append_none taken)) (makes_front z (forest_of n) k taken all.front)
least_front z n k taken rows (Some w) forest table all least =
    let size = length (ways_of (forest_of n) k) in
    let a = least.0 in
    makes_front z (forest_of n) k (taken ++ value_of w.part ∷ [])
    (front_more (setting z (forest_of n) k) (seen z (forest_of n) (parts z n) k) size (forest.laws k) (λ p. parts z n (way_at (forest_of n) k p).left) (λ p. parts z n (way_at (forest_of n) k p).right) taken rows all (parts_are z n table k size) w.place a.row (value_of w.part)
    (record { here = a.here; live = a.value; least = least.1 }))

-- the same of the least that waits
ready_front : (z : Value) (n : List Node) (k : ℕ) (taken : List Value) (rows : List Row) (q : List Waiting) → IsForest z (forest_of n) → IsTable z n → RowsOf z (forest_of n) (parts z n) k (length (ways_of (forest_of n) k)) taken rows → IsQueue (held_by z n k) rows q
    → IsFront value_cmp (Has z (forest_of n) (Some k)) (taken ++ least_part q)
ready_front z n k taken rows [] forest table all waits = least_front z n k taken rows None forest table all (none_made (held_by z n k) rows [] refl waits.waits)
ready_front z n k taken rows (w ∷ rest) forest table all waits =
    let first : IsFirstAt (w ∷ rest) w.place = record { first = w; here = refl; place = refl } in
    least_front z n k taken rows (Some w) forest table all
    (first_makes (held_by z n k) rows (w ∷ rest) w.place waits.waits first, first_least (held_by z n k) rows (w ∷ rest) w.place (forest.laws k).total waits first)

-- a node whose parts and queue have not changed
same_ready : (old new : Node) → new.made.items ≡ old.made.items → heap_items new.queue ≡ heap_items old.queue → ready_of new ≡ ready_of old
same_ready old new e f = λ i. map value_of (e i) ++ least_part (f i)

extends_same : (xs ys : List Value) → ys ≡ xs → Extends xs ys
extends_same xs ys e = λ i v p. (λ j. slice_get (e j) i) ∙ p

pub extends_none : (xs ys : List Value) → xs ≡ [] → Extends xs ys
extends_none xs ys e = λ i v p. absurd (let q : slice_get [] i ≡ Some v = (λ j. slice_get (sym e j) i) ∙ p in cc)

-- two firsts are the same
same_first : (z : Value) (n : List Node) (k : ℕ) (a b : Value) → IsTotalOrder value_cmp → IsFront value_cmp (Has z (forest_of n) (Some k)) (a ∷ []) → IsFront value_cmp (Has z (forest_of n) (Some k)) (b ∷ []) → a ≡ b
same_first z n k a b total fa fb =
    elim (first_before a fa b (fb.sound 0 b refl)) [
      | inr e ↦ e
      | inl less ↦ elim (first_before b fb a (fa.sound 0 a refl)) [
        | inr e ↦ sym e
        | inl more ↦ absurd (less_not total a a (total.trans a b a less more) refl)
      ]
    ]
  where
    only : (x v : Value) → IsIn (x ∷ []) v → x ≡ v
    only x v (zero, e) = cc
    only x v (suc i, e) = absurd cc

    first_before : (x : Value) → IsFront value_cmp (Has z (forest_of n) (Some k)) (x ∷ []) → (v : Value) → Has z (forest_of n) (Some k) v → (value_cmp x v ≡ Less) ⊎ (x ≡ v)
    first_before x f v h = elim (f.below v h) [ inl i ↦ inr (only x v i) | inr before ↦ inl (before 0 x refl) ]

-- what could be read before the node began can be read at its place then
again_least : (z : Value) (n : List Node) (k : ℕ) (rows : List Row) (queue old : List Waiting) → IsForest z (forest_of n) → IsTable z n → RowsOf z (forest_of n) (parts z n) k (length (ways_of (forest_of n) k)) [] rows → IsQueue (held_by z n k) rows queue
    → IsFront value_cmp (Has z (forest_of n) (Some k)) (least_part old) → Extends (least_part old) (least_part queue)
again_least z n k rows queue [] forest table all waits front i v p = absurd cc
again_least z n k rows [] (w ∷ old) forest table all waits front i v p =
    let size = length (ways_of (forest_of n) k) in
    let none = none_made (held_by z n k) rows [] refl waits.waits in
    let x = finished (setting z (forest_of n) k) (seen z (forest_of n) (parts z n) k) size (forest.laws k) (λ p. parts z n (way_at (forest_of n) k p).left) (λ p. parts z n (way_at (forest_of n) k p).right) [] rows all (parts_are z n table k size) none (value_of w.part) (has_makes z (forest_of n) (Some k) (value_of w.part) k (front.sound 0 (value_of w.part) refl) refl) in
    absurd (let q = x.1 in cc)
again_least z n k rows (u ∷ queue) (w ∷ old) forest table all waits front i v p =
    let same = same_first z n k (value_of u.part) (value_of w.part) (forest.laws k).total (ready_front z n k [] rows (u ∷ queue) forest table all waits) front in
    subst (λ (x : Value). slice_get (x ∷ []) i ≡ Some v) (sym same) p

pub started : (z : Value) (n : List Node) (k : ℕ) (node new : Node) (rows : List Row) (queue : List Waiting) → IsForest z (forest_of n) → IsTable z n → (b : IsIdle n k) → node ≡ get_or n k node → Starts node rows queue new → RowsOf z (forest_of n) (parts z n) k (length (ways_of (forest_of n) k)) [] rows → IsQueue (held_by z n k) rows queue
    → Stepped z n (set n k new) k
started z n k node new rows queue forest table b at starts' all waits =
    let e : node ≡ b.node = at ∙ get_or_from_slice_get n k b.node node b.here in
    let starts : Starts b.node rows queue new = subst (λ (t : Node). Starts t rows queue new) e starts' in
    let is = table k b.node b.here in
    let empty : values_of new ≡ [] = (λ i. map value_of (starts.made i)) ∙ is.idle b.idle in
    let ready : ready_of new ≡ least_part queue = λ i. empty i ++ least_part (starts.queue_is i) in
    let size = length (ways_of (forest_of n) k) in
    let old_ready : ready_of b.node ≡ least_part (heap_items b.node.queue) = λ i. is.idle b.idle i ++ least_part (heap_items b.node.queue) in
    let more : Extends (ready_of b.node) (ready_of new) = λ i v p. (λ j. slice_get (ready j) i)
    ∙ again_least z n k rows queue (heap_items b.node.queue) forest table all waits (subst (λ (l : List Value). IsFront value_cmp (Has z (forest_of n) (Some k)) l) old_ready is.front) i v ((λ j. slice_get (sym old_ready j) i) ∙ p) in
    let new_is : IsNode z (forest_of n) (parts z n) k new = record {
      ways = starts.ways ∙ is.ways;
      idle = λ f. absurd (true_false new.begun starts.begun f);
      busy = λ f. subst (λ (t : List Value). RowsOf z (forest_of n) (parts z n) k size t new.rows.items) (sym empty) (subst (λ (t : List Row). RowsOf z (forest_of n) (parts z n) k size [] t) (sym starts.rows_are) all);
      queue = λ f. subst (λ (t : List Row). IsQueue (held_by z n k) t (heap_items new.queue)) (sym starts.rows_are) (subst (λ (q : List Waiting). IsQueue (held_by z n k) rows q) (sym starts.queue_is) waits);
      front = subst (λ (l : List Value). IsFront value_cmp (Has z (forest_of n) (Some k)) l) (sym ready) (ready_front z n k [] rows queue forest table all waits);
    } in
    record { table = table_set z n k b.node new table b.here starts.ways more new_is; grown = grown_set n k b.node new b.here starts.ways more; begun = record { node = new; here = set_here n k new (slice_get_within n k b.node b.here); begun = starts.begun } }

-- ---- the chosen row
-- what the chosen row holds, and that it is the least
pub record Least (z : Value) (n : List Node) (k : ℕ) (c : Choice) : Type 0 where
  pub holds : Holds z n k c.row
  pub live : held_by z n k c.row ≡ Some (value_at z n k c.row)
  pub least : (j : ℕ) (t : Row) (v : Value) → slice_get (rows_at n k) j ≡ Some t → held_by z n k t ≡ Some v → AtMost value_cmp (value_at z n k c.row) v

pub chosen_least : (z : Value) (n : List Node) (k : ℕ) (c : Choice) → IsTable z n → Chosen z n k c → Least z n k c
chosen_least z n k c table h =
    let b = h.least in
    let same : b.row ≡ c.row = (let p = b.here in let q = h.row in cc) in
    let live : held_by z n k c.row ≡ Some b.value = ap (held_by z n k) (sym same) ∙ b.live in
    let is = held_is z n k c.row b.value live in
    record {
      holds = live_holds z n k c.place c.row table h.begun h.row is.0;
      live = live ∙ ap Some (sym is.1);
      least = λ j t v p e. subst (λ (x : Value). AtMost value_cmp x v) (sym is.1) (b.least j t v p e);
    }

-- the queue of a node that is begun
queue_is : (z : Value) (n : List Node) (k : ℕ) → IsTable z n → IsBegun n k → IsQueue (held_by z n k) (rows_at n k) (queue_at n k)
queue_is z n k table b = subst (λ (o : Option Node). IsQueue (held_by z n k) (rows_in o) (queue_in o)) (sym b.here) ((table k b.node b.here).queue b.begun)

-- the first of the queue is the least row
pub least_first : (z : Value) (n : List Node) (k m : ℕ) → IsTotalOrder value_cmp → IsTable z n → IsBegun n k → IsFirstAt (queue_at n k) m → IsLeastRow (held_by z n k) (rows_at n k) m
least_first z n k m total table b f =
    let q = queue_is z n k table b in
    let a = first_makes (held_by z n k) (rows_at n k) (queue_at n k) m q.waits f in
    record { row = a.row; here = a.here; value = value_of f.first.part; live = a.value; least = first_least (held_by z n k) (rows_at n k) (queue_at n k) m total q f }

pub chosen_left : (z : Value) (n slice : List Node) (k : ℕ) (c : Choice) → slice ≡ n → IsTable z n → Chosen z slice k c → c.row.next < length (parts z n c.way.left)
chosen_left z n slice k c e table h' =
    let h : Chosen z n k c = subst (λ (t : List Node). Chosen z t k c) e h' in
    subst (λ (w : Way). c.row.next < length (parts z n w.left)) (sym h.way.is) (chosen_least z n k c table h).holds.left

pub chosen_right : (z : Value) (n : List Node) (k : ℕ) (c : Choice) → IsTable z n → Chosen z n k c → c.row.at < length (parts z n c.way.right)
chosen_right z n k c table h = subst (λ (w : Way). c.row.at < length (parts z n w.right)) (sym h.way.is) (chosen_least z n k c table h).holds.right

least_along : (f g : Row → Option Value) (rows : List Row) (m : ℕ) → ((j : ℕ) (t : Row) → slice_get rows j ≡ Some t → f t ≡ g t) → IsLeastRow f rows m → IsLeastRow g rows m
least_along f g rows m same b = record { row = b.row; here = b.here; value = b.value; live = sym (same m b.row b.here) ∙ b.live; least = λ k t v p e. b.least k t v p (same k t p ∙ e) }

pub chosen_grown : (z : Value) (m n : List Node) (k : ℕ) (c : Choice) → IsTable z m → Grown k m n → Chosen z m k c → Chosen z n k c
chosen_grown z m n k c table g h =
    let rows : rows_at n k ≡ rows_at m k = ap rows_in (g.above k (omega arith)) in
    record {
      begun = begun_more k k m n (omega arith) g h.begun;
      row = (λ i. slice_get (rows i) c.place) ∙ h.row;
      least = subst (λ (t : List Row). IsLeastRow (held_by z n k) t c.place) (sym rows) (least_along (held_by z m k) (held_by z n k) (rows_at m k) c.place (λ j t p. held_grown z k m n k j t table h.begun g p) h.least);
      first = subst (λ (q : List Waiting). IsFirstAt q c.place) (sym (ap queue_in (g.above k (omega arith)))) h.first;
      way = record { is = h.way.is ∙ (λ i. way_at (sym g.forest i) k c.row.way); left = h.way.left; right = h.way.right };
    }

nth_grown : (z : Value) (b : ℕ) (m n : List Node) (o : Option ℕ) (i : ℕ) (t : Bool) → Grown b m n → IsNth z m o i t → IsNth z n o i t
nth_grown z b m n o i true g less = (let a = slice_get-get_or (parts z m o) i z less in slice_get_within (parts z n o) i (get_or (parts z m o) i z) (more_parts z m n g.more o i (get_or (parts z m o) i z) a))
nth_grown z b m n o i false g nth = λ x h. (let j = nth x (subst (λ (f : List (List Way)). Has z f o x) g.forest h) in (j.0, j.1, more_parts z m n g.more o j.0 x j.2))

pub goes_on_grown : (z : Value) (b : ℕ) (m n : List Node) (w : Way) (r after : Row) → Grown b m n → GoesOn z m w r after → GoesOn z n w r after
goes_on_grown z b m n w r after g h = record { way = h.way; at = h.at; next = h.next; live = nth_grown z b m n w.left (suc r.next) after.live g h.live }

pub first_made : (z : Value) (b : ℕ) (m n : List Node) (p : ℕ) (w : Way) (j : ℕ) → Grown b m n → IsNth z m w.left 0 true → IsNth z n w.right j true → IsFirst z n p w j (row_made p j 0 true)
first_made z b m n p w j g left right = record { way = refl; at = refl; next = refl; live = refl; left = nth_grown z b m n w.left 0 true g left; right = right }

-- ---- what the rows that go on or begin make
pub after_holds : (z : Value) (n : List Node) (k : ℕ) (c : Choice) (after : Row) → IsTable z n → Chosen z n k c → GoesOn z n c.way c.row after → after.live ≡ true → Holds z n k after
after_holds z n k c after table chosen goes' live =
    let r = c.row in
    let w = way_at (forest_of n) k r.way in
    let goes : GoesOn z n w r after = subst (λ (v : Way). GoesOn z n v r after) chosen.way.is goes' in
    let h = (chosen_least z n k c table chosen).holds in
    let is : row_made r.way r.at (suc r.next) after.live ≡ after = λ i. record { way = sym goes.way i; at = sym goes.at i; next = sym goes.next i; live = after.live } in
    subst (λ (t : Row). Holds z n k t) is (record { way_in = h.way_in; left = subst (λ (b : Bool). IsNth z n w.left (suc r.next) b) live goes.live; right = h.right })

pub first_holds : (z : Value) (n : List Node) (k : ℕ) (c : Choice) (first : Option Row) (b : Row) → IsTable z n → Chosen z n k c → Begin z n c.way c.row first → first ≡ Some b → Holds z n k b
first_holds z n k c first b table chosen begin' e =
    let r = c.row in
    let w = way_at (forest_of n) k r.way in
    let begin : Begin z n w r first = subst (λ (v : Way). Begin z n v r first) chosen.way.is begin' in
    let h = (chosen_least z n k c table chosen).holds in
    elim (same_or r.next 0) [
      | inl now ↦
          let f : IsFirst z n r.way w (suc r.at) b = subst (λ (o : Option Row). IsFirstOf z n r.way w (suc r.at) o) e (begin.now now) in
          let is : row_made r.way (suc r.at) 0 b.live ≡ b = λ i. record { way = sym f.way i; at = sym f.at i; next = sym f.next i; live = b.live } in
          subst (λ (t : Row). Holds z n k t) is (record { way_in = h.way_in; left = f.left; right = f.right })
      | inr later ↦ absurd (let q = begin.later later in let g : ◌≡◌ {A = Option Row} None (Some b) = sym q ∙ e in cc)
    ]

-- ---- the value is taken
follows : (z : Value) (n : List Node) (k p i : ℕ) (y : Value) (rs : List Value) (j : ℕ) (b : Bool) → slice_get rs j ≡ Some y → IsNth z n (way_at (forest_of n) k p).left i b
    → Following (setting z (forest_of n) k) (parts z n (way_at (forest_of n) k p).left) p i y (held b (combine (way_at (forest_of n) k p) (get_or (parts z n (way_at (forest_of n) k p).left) i z) (get_or rs j z)))
follows z n k p i y rs j false at nth = nth
follows z n k p i y rs j true at less =
    let ls = parts z n (way_at (forest_of n) k p).left in
    (get_or ls i z, slice_get-get_or ls i z less, ap (λ (v : Value). combine (way_at (forest_of n) k p) (get_or ls i z) v) (get_or_from_slice_get rs j y z at))

-- what stands when node k is to make one more value
pub record Ready (z : Value) (n : List Node) (k : ℕ) (c : Choice) (after : Row) (first : Option Row) : Type 0 where
  pub forest : IsForest z (forest_of n)
  pub table : IsTable z n
  pub chosen : Chosen z n k c
  pub goes_on : GoesOn z n c.way c.row after
  pub begin : Begin z n c.way c.row first

turn : (z : Value) (n : List Node) (k : ℕ) (c : Choice) (after : Row) (first : Option Row) → (t : Ready z n k c after first) → (rows : List Row) → rows ≡ rows_at n k
    → Turn (setting z (forest_of n) k) (seen z (forest_of n) (parts z n) k) (λ p. parts z n (way_at (forest_of n) k p).left) (λ p. parts z n (way_at (forest_of n) k p).right) rows c.place c.row (value_at z n k c.row) after first
turn z n k c after first t rows rows_is =
    let r = c.row in
    let w = way_at (forest_of n) k r.way in
    let s = setting z (forest_of n) k in
    let l = chosen_least z n k c t.table t.chosen in
    let goes : GoesOn z n w r after = subst (λ (v : Way). GoesOn z n v r after) t.chosen.way.is t.goes_on in
    let begin : Begin z n w r first = subst (λ (v : Way). Begin z n v r first) t.chosen.way.is t.begin in
    let after_is : after ≡ row_made r.way r.at (suc r.next) after.live = λ i. record { way = goes.way i; at = goes.at i; next = goes.next i; live = after.live } in
    let lefts : ℕ → List Value = λ p. parts z n (way_at (forest_of n) k p).left in
    let rights : ℕ → List Value = λ p. parts z n (way_at (forest_of n) k p).right in
    let hx = (parts_front z n t.table w.left).sound r.next (get_or (lefts r.way) r.next z) (slice_get-get_or (lefts r.way) r.next z l.holds.left) in
    record {
      least = record {
        here = (λ i. slice_get (rows_is i) c.place) ∙ t.chosen.row;
        live = l.live;
        least = λ j q v p e. l.least j q v ((λ i. slice_get (sym rows_is i) j) ∙ p) e;
      };
      alt = goes.way;
      at = goes.at;
      next = goes.next;
      value = λ y at. subst (λ (q : Row). Following s (lefts r.way) r.way (suc r.next) y (seen z (forest_of n) (parts z n) k q).value) (sym after_is) (follows z n k r.way (suc r.next) y (rights r.way) r.at after.live at goes.live);
      begins = λ b e. begins_of z n k w r first b refl begin e;
      ends = λ e now y hy. ends_of z n k w r first (get_or (lefts r.way) r.next z) begin hx e now y hy;
    }
  where
    begins_of : (z : Value) (n : List Node) (k : ℕ) (w : Way) (r : Row) (first : Option Row) (b : Row) → w ≡ way_at (forest_of n) k r.way → Begin z n w r first → first ≡ Some b
        → (r.next ≡ 0) × Begins (setting z (forest_of n) k) (seen z (forest_of n) (parts z n) k) (parts z n (way_at (forest_of n) k r.way).left) (parts z n (way_at (forest_of n) k r.way).right) r.way (suc r.at) b
    begins_of z n k w r first b is begin e =
        elim (same_or r.next 0) [
          | inl now ↦ (now, first_row z n k r.way w (suc r.at) b is (subst (λ (o : Option Row). IsFirstOf z n r.way w (suc r.at) o) e (begin.now now)))
          | inr later ↦ absurd (let q = begin.later later in let f : ◌≡◌ {A = Option Row} None (Some b) = sym q ∙ e in cc)
        ]

    ends_of : (z : Value) (n : List Node) (k : ℕ) (w : Way) (r : Row) (first : Option Row) (x : Value) → Begin z n w r first → Has z (forest_of n) w.left x → first ≡ None → r.next ≡ 0
        → (y : Value) → Has z (forest_of n) w.right y → (j : ℕ) × (j ≤ r.at) × (slice_get (parts z n w.right) j ≡ Some y)
    ends_of z n k w r first x begin hx e now y hy =
        let f : IsFirstOf z n r.way w (suc r.at) None = subst (λ (o : Option Row). IsFirstOf z n r.way w (suc r.at) o) e (begin.now now) in
        elim f [
          | inl none ↦ absurd (no_value z n w.left x none hx)
          | inr none ↦ (let j = none y hy in (j.0, (let less = j.1 in omega arith), j.2))
        ]

pushed : (xs : List Part) (p : Part) → map value_of (xs ++ p ∷ []) ≡ map value_of xs ++ value_of p ∷ []
pushed [] p = refl
pushed (x ∷ xs) p = ap (λ t. value_of x ∷ t) (pushed xs p)

pushed_long : (xs : List Value) (v : Value) → length (xs ++ v ∷ []) ≡ length xs + 1
pushed_long [] v = refl
pushed_long (x ∷ xs) v = (let r = pushed_long xs v in omega arith)

pub took : (z : Value) (n : List Node) (k : ℕ) (c : Choice) (after : Row) (first : Option Row) (again opened : Option Waiting) (node new : Node) → Ready z n k c after first → slice_get n k ≡ Some node → IsWaiting (held_by z n k) c.place after again → IsOpened (held_by z n k) (length (rows_at n k)) first opened → Puts node c.place after first again opened new
    → Stepped z n (set n k new) k × (length (made_at (set n k new) k) ≡ length (made_at n k) + 1)
took z n k c after first again opened node new t here goes opens puts =
    let v = value_at z n k c.row in
    let b = t.chosen.begun in
    let same : b.node ≡ node = (let p = b.here in cc) in
    let begun : node.begun ≡ true = (λ i. (sym same i).begun) ∙ b.begun in
    let is = t.table k node here in
    let size = length (ways_of (forest_of n) k) in
    let rows : rows_at n k ≡ node.rows.items = ap rows_in here in
    let queue = is.queue begun in
    let f : IsFirstAt (heap_items node.queue) c.place = subst (λ (q : List Waiting). IsFirstAt q c.place) (ap queue_in here) t.chosen.first in
    let top = one_at (heap_items node.queue) 0 f.first puts.queue.first f.here puts.queue.here in
    let live : held_by z n k c.row ≡ Some (value_of f.first.part) = first_value (held_by z n k) node.rows.items (heap_items node.queue) c.place c.row queue.waits f ((λ i. slice_get (sym rows i) c.place) ∙ t.chosen.row) in
    let value : value_of puts.part ≡ v = ap value_of puts.queue.part_is ∙ (λ i. value_of (sym top i).part) ∙ sym (held_is z n k c.row (value_of f.first.part) live).1 in
    let waits = waits_permuted (held_by z n k) new.rows.items (waiting_list opened ++ (waiting_list again ++ puts.queue.rest)) (heap_items new.queue) puts.queue.put
    (waits_turn (held_by z n k) node.rows.items c.place after first new.rows.items puts.queue.first again opened puts.queue.rest
    (waits_permuted (held_by z n k) node.rows.items (heap_items node.queue) (puts.queue.first ∷ puts.queue.rest) puts.queue.taken queue.waits) ((λ i. (sym top i).place) ∙ f.place) puts.rows goes
    (subst (λ (l : List Row). IsOpened (held_by z n k) (length l) first opened) rows opens)) in
    let values : values_of new ≡ values_of node ++ v ∷ [] = (λ i. map value_of (puts.made i)) ∙ pushed node.made.items puts.part ∙ (λ i. values_of node ++ value i ∷ []) in
    let before : ready_of node ≡ values_of node ++ v ∷ [] = (λ i. values_of node ++ least_is (heap_items node.queue) puts.queue.first puts.queue.here i) ∙ (λ i. values_of node ++ (sym (ap value_of puts.queue.part_is) ∙ value) i ∷ []) in
    let ready : ready_of new ≡ (values_of node ++ v ∷ []) ++ least_part (heap_items new.queue) = λ i. values i ++ least_part (heap_items new.queue) in
    let more : Extends (ready_of node) (ready_of new) = λ i x p. (λ j. slice_get (ready j) i) ∙ append_old (values_of node ++ v ∷ []) (least_part (heap_items new.queue)) i x ((λ j. slice_get (sym before j) i) ∙ p) in
    let waiting : IsQueue (held_by z n k) new.rows.items (heap_items new.queue) = record { heap = puts.queue.heap queue.heap; waits = waits } in
    let next : RowsOf z (forest_of n) (parts z n) k size (values_of node ++ v ∷ []) new.rows.items =
    merged_more (setting z (forest_of n) k) (seen z (forest_of n) (parts z n) k) size (t.forest.laws k) (λ p. parts z n (way_at (forest_of n) k p).left) (λ p. parts z n (way_at (forest_of n) k p).right) (values_of node) node.rows.items (is.busy begun) (parts_are z n t.table k size)
    c.place c.row v after first new.rows.items (turn z n k c after first t node.rows.items (sym rows)) puts.rows in
    let new_is : IsNode z (forest_of n) (parts z n) k new = record {
      ways = puts.ways ∙ is.ways;
      idle = λ e. absurd (true_false new.begun (puts.begun ∙ begun) e);
      busy = λ e. subst (λ (l : List Value). RowsOf z (forest_of n) (parts z n) k size l new.rows.items) (sym values) next;
      queue = λ e. waiting;
      front = subst (λ (l : List Value). IsFront value_cmp (Has z (forest_of n) (Some k)) l) (sym ready) (ready_front z n k (values_of node ++ v ∷ []) new.rows.items (heap_items new.queue) t.forest t.table next waiting);
    } in
    let here' = set_here n k new (slice_get_within n k node here) in
    let old : made_at n k ≡ values_of node = ap made_in here in
    let now : made_at (set n k new) k ≡ values_of node ++ v ∷ [] = ap made_in here' ∙ values in (
      record { table = table_set z n k node new t.table here puts.ways more new_is; grown = grown_set n k node new here puts.ways more; begun = record { node = new; here = here'; begun = puts.begun ∙ begun } },
      (λ i. length (now i)) ∙ pushed_long (values_of node) v ∙ (λ i. length (sym old i) + 1),
    )

-- the node was left as it was
pub unchanged : (z : Value) (n : List Node) (k : ℕ) (node new : Node) → IsTable z n → IsBegun n k → slice_get n k ≡ Some node → IsSameNode node new → Stepped z n (set n k new) k
unchanged z n k node new table b here same =
    let is = table k node here in
    let at : b.node ≡ node = (let p = b.here in cc) in
    let begun : node.begun ≡ true = ap (λ (q : Node). q.begun) (sym at) ∙ b.begun in
    let ready = same_ready node new same.made same.queue in
    let more = extends_same (ready_of node) (ready_of new) ready in
    let size = length (ways_of (forest_of n) k) in
    let new_is : IsNode z (forest_of n) (parts z n) k new = record {
      ways = same.ways ∙ is.ways;
      idle = λ e. absurd (true_false new.begun (same.begun ∙ begun) e);
      busy = λ e. subst (λ (l : List Part). RowsOf z (forest_of n) (parts z n) k size (map value_of l) new.rows.items) (sym same.made) (subst (λ (l : List Row). RowsOf z (forest_of n) (parts z n) k size (values_of node) l) (sym same.rows) (is.busy begun));
      queue = λ e. subst (λ (l : List Row). IsQueue (held_by z n k) l (heap_items new.queue)) (sym same.rows) (subst (λ (q : List Waiting). IsQueue (held_by z n k) node.rows.items q) (sym same.queue) (is.queue begun));
      front = subst (λ (l : List Value). IsFront value_cmp (Has z (forest_of n) (Some k)) l) (sym ready) is.front;
    } in
    record { table = table_set z n k node new table here same.ways more new_is; grown = grown_set n k node new here same.ways more; begun = record { node = new; here = set_here n k new (slice_get_within n k node here); begun = same.begun ∙ begun } }

-- no row waits, so all are there
pub all_made : (z : Value) (n : List Node) (k : ℕ) → IsForest z (forest_of n) → IsTable z n → IsBegun n k → queue_at n k ≡ [] → IsAll (Has z (forest_of n) (Some k)) (made_at n k)
all_made z n k forest table b empty v h =
    let size = length (ways_of (forest_of n) k) in
    let none : (j : ℕ) (t : Row) → slice_get b.node.rows.items j ≡ Some t → held_by z n k t ≡ None = none_made (held_by z n k) b.node.rows.items (heap_items b.node.queue) (sym (ap queue_in b.here) ∙ empty) ((table k b.node b.here).queue b.begun).waits in
    let i = finished (setting z (forest_of n) k) (seen z (forest_of n) (parts z n) k) size (forest.laws k) (λ p. parts z n (way_at (forest_of n) k p).left) (λ p. parts z n (way_at (forest_of n) k p).right) (values_of b.node) b.node.rows.items ((table k b.node b.here).busy b.begun) (parts_are z n table k size) none v (has_makes z (forest_of n) (Some k) v k h refl) in
    subst (λ (o : Option Node). IsIn (made_in o) v) (sym b.here) i

-- what was made can be read
made_ready : (n : List Node) (k j : ℕ) (x : Value) → slice_get (made_at n k) j ≡ Some x → slice_get (ready_at n k) j ≡ Some x
made_ready n k j x p = in_node (slice_get n k) refl
  where
    in_node : (o : Option Node) → slice_get n k ≡ o → slice_get (ready_at n k) j ≡ Some x
    in_node None e = absurd (let q : slice_get [] j ≡ Some x = (λ i. slice_get (made_in (sym e i)) j) ∙ p in cc)
    in_node (Some node) e = (λ i. slice_get (ready_in (e i)) j) ∙ append_old (values_of node) (least_part (heap_items node.queue)) j x ((λ i. slice_get (made_in (sym e i)) j) ∙ p)

-- no more values than i
pub nth_none : (z : Value) (old new : List Node) (k i : ℕ) → length (made_at old k) ≤ i → Advances z old new k false → IsNth z new (Some k) i false
nth_none z old new k i le a = λ x h. (let j = a.1 x h in let less = slice_get_within (made_at new k) j.0 x j.1 in let same = ap length a.0 in (j.0, omega arith, made_ready new k j.0 x j.1))

-- as many can be read as were made, so nothing waits
read_all : (z : Value) (n : List Node) (k : ℕ) → IsForest z (forest_of n) → IsTable z n → IsBegun n k → length (ready_at n k) ≤ length (made_at n k) → IsAll (Has z (forest_of n) (Some k)) (made_at n k)
read_all z n k forest table b le = all_made z n k forest table b (ap queue_in b.here ∙ nothing_waits (values_of b.node) (heap_items b.node.queue) (subst (λ (o : Option Node). length (ready_in o) ≤ length (made_in o)) b.here le))
  where
    nothing_waits : (xs : List Value) (q : List Waiting) → length (xs ++ least_part q) ≤ length xs → q ≡ []
    nothing_waits xs [] h = refl
    nothing_waits xs (w ∷ q) h = absurd (let m = pushed_long xs (value_of w.part) in omega arith)

-- at the place behind those that were made
pub nth_last : (z : Value) (n : List Node) (k i : ℕ) (b : Bool) → IsForest z (forest_of n) → IsTable z n → IsBegun n k → i ≤ length (made_at n k) → (b ≡ true → i < length (ready_at n k)) → (b ≡ false → length (ready_at n k) ≤ i) → IsNth z n (Some k) i b
nth_last z n k i true forest table begun le up down = up refl
nth_last z n k i false forest table begun le up down = λ x h. (
    let few : length (ready_at n k) ≤ i = down refl in
    let all : length (ready_at n k) ≤ length (made_at n k) = omega arith in
    let j = read_all z n k forest table begun all x h in
    let p = made_ready n k j.0 x j.1 in
    let less = slice_get_within (ready_at n k) j.0 x p in
    (j.0, omega arith, p))

lt_yes : (i n : ℕ) → nat_lt i n ≡ true → i < n
lt_yes i n e = grind (arith, nat_tests)

lt_no : (i n : ℕ) → nat_lt i n ≡ false → n ≤ i
lt_no i n e = grind (arith, nat_tests)

-- the same by counts of a slice
pub nth_ready : (z : Value) (n slice last : List Node) (k i made count : ℕ) → slice ≡ n → last ≡ n → IsForest z (forest_of n) → IsTable z n → IsBegun n k → made ≡ length (made_at slice k) → i ≤ made → count ≡ length (ready_at last k) → IsNth z n (Some k) i (nat_lt i count)
nth_ready z n slice last k i made count e f forest table begun made_is le count_is =
    let many : made ≡ length (made_at n k) = made_is ∙ (λ j. length (made_at (e j) k)) in
    let all : count ≡ length (ready_at n k) = count_is ∙ (λ j. length (ready_at (f j) k)) in
    nth_last z n k i (nat_lt i count) forest table begun (omega arith) (λ a. let h = lt_yes i count a in omega arith) (λ a. let h = lt_no i count a in omega arith)

-- ---- what the small functions come to
pub candidate_sound : (z : Value) (n : List Node) (k : ℕ) (r : Row) (w : Way) (x y : Value) → IsForest z (forest_of n) → IsTable z n → Holds z n k r → IsWayOf n k r.way w → slice_get (parts z n w.left) r.next ≡ Some x → slice_get (parts z n w.right) r.at ≡ Some y
    → IsSmallWay (length z.choices) w × IsSmall (length z.choices) x × IsSmall (length z.choices) y
candidate_sound z n k r w x y forest table h way p q = (
  subst (λ (v : Way). IsSmallWay (length z.choices) v) (sym way.is) (forest.small_ways k r.way h.way_in),
  forest.small w.left x ((parts_front z n table w.left).sound r.next x p),
  forest.small w.right y ((parts_front z n table w.right).sound r.at y q),
)

pub candidate_value : (z : Value) (n : List Node) (k : ℕ) (r : Row) (w : Way) (x y : Value) → IsWayOf n k r.way w → slice_get (parts z n w.left) r.next ≡ Some x → slice_get (parts z n w.right) r.at ≡ Some y → combine w x y ≡ value_at z n k r
candidate_value z n k r w x y way p q =
    sym (λ h. combine w (get_or_from_slice_get (parts z n w.left) r.next x z p h) (get_or_from_slice_get (parts z n w.right) r.at y z q h))
    ∙ ap (λ (b : Way). combine b (get_or (parts z n b.left) r.next z) (get_or (parts z n b.right) r.at z)) way.is

-- the least row makes something
pub least_live : (z : Value) (n : List Node) (k m : ℕ) (r : Row) → IsLeastRow (held_by z n k) (rows_at n k) m → slice_get (rows_at n k) m ≡ Some r → r.live ≡ true
least_live z n k m r b at =
    let same : b.row ≡ r = (let p = b.here in cc) in
    (held_is z n k r b.value (ap (held_by z n k) (sym same) ∙ b.live)).0

pub place_in : (z : Value) (n : List Node) (k : ℕ) (c : Choice) (node : Node) → Chosen z n k c → node ≡ get_or n k node → slice_get n k ≡ Some node × (c.place < length node.rows.items) × IsFirstAt (heap_items node.queue) c.place
place_in z n k c node h at =
    let b = h.begun in
    let same : node ≡ b.node = at ∙ get_or_from_slice_get n k b.node node b.here in
    let here : slice_get n k ≡ Some node = b.here ∙ ap Some (sym same) in
    let rows : rows_at n k ≡ node.rows.items = ap rows_in here in
    (here, subst (λ (l : List Row). c.place < length l) rows (slice_get_within (rows_at n k) c.place c.row h.row), subst (λ (q : List Waiting). IsFirstAt q c.place) (ap queue_in here) h.first)

-- the part was taken, or the node was left as it was
pub took_either : (z : Value) (n one two : List Node) (k : ℕ) (c : Choice) (after : Row) (first : Option Row) (again opened : Option Waiting) (node new : Node) (result : Result (Unit {0}) NoMemory) → Ready z n k c after first → node ≡ get_or n k node → one ≡ n → two ≡ n → IsWaiting (held_by z one k) c.place after again
    → IsOpened (held_by z two k) (length (rows_at two k)) first opened → OnOk result (Puts node c.place after first again opened new) → OnErr result (IsSameNode node new) → Stepped z n (set n k new) k × OnOk result (length (made_at (set n k new) k) ≡ length (made_at n k) + 1)
took_either z n one two k c after first again opened node new (Ok u) t at e f goes opens ok err =
    took z n k c after first again opened node new t (place_in z n k c node t.chosen at).0 (subst (λ (m : List Node). IsWaiting (held_by z m k) c.place after again) e goes) (subst (λ (m : List Node). IsOpened (held_by z m k) (length (rows_at m k)) first opened) f opens) ok
took_either z n one two k c after first again opened node new (Err w) t at e f goes opens ok err = (unchanged z n k node new t.table t.chosen.begun (place_in z n k c node t.chosen at).0 err, tt)
