-- The least part of a node that is not begun: it is found alone.
use Rattle.std.proofs.Common.{◌≡◌, ℕ, suc, ◌+◌, ◌<◌, ◌≤◌, inl, inr, Bool, true, false, List, [], ◌∷◌, ◌++◌, length, get_or, map, set, slice_get, take, Option, Some, None, IfOk, Result, Ok, Err, refl, sym, ap, ◌∙◌, subst, arith, length-take-le}
use Rattle.std.specs.Cmp.{IsTotalOrder}
use Rattle.std.specs.List.Sorted.{IsPermutation}
use Rattle.std.proofs.lemmas.List.Sorted.{Contains-permutation, length_permutation}
use Rattle.std.proofs.Math.Seq.{take-suc}
use Rattle.std.proofs.lemmas.List.{take_all}
use Rattle.std.proofs.lemmas.Option.{get_or_from_slice_get, slice_get_within}
use Rattle.lg_rank.specs.Fronts.{Extends, IsAll, IsFront, IsIn}
use Rattle.lg_rank.specs.Nodes.{Has, IsForest, setting, way_at, ways_of}
use Rattle.lg_rank.specs.Queues.{IsLeastOf, IsLesser, IsWaiting, MakesAt, least_part, waiting_list}
use Rattle.lg_rank.specs.Tables.{Grown, IsIdle, IsNode, IsNth, IsPeeked, IsTable, Shows, forest_of, held_by, parts, ready_at, ready_in, ready_of, seen}
use Rattle.lg_rank.specs.Values.{Value, value_cmp, value_of}
use Rattle.lg_rank.specs.declared.node.Node.{Node}
use Rattle.lg_rank.specs.declared.node.Row.{Row}
use Rattle.lg_rank.specs.declared.queue.Waiting.{Waiting}
use Rattle.lg_rank.proofs.Covering.{finished}
use Rattle.lg_rank.proofs.Elements.{most_trans, push_from, push_here, push_old}
use Rattle.lg_rank.proofs.Forests.{grown_set, has_makes, parts_are, table_set}
use Rattle.lg_rank.proofs.Places.{set_here}
use Rattle.lg_rank.proofs.Steps.{extends_none, least_front}

-- ---- one row more
module _ {R : Type 0} (held : R → Option Value) (rows : List R) (r : R) (place : ℕ) (at : place ≡ length rows) where
  there : slice_get (rows ++ r ∷ []) place ≡ Some r
  there = ap (slice_get (rows ++ r ∷ [])) at ∙ push_here rows r

  -- the rows made nothing before
  pub first_least_with : (next : Option Waiting) → IsLeastOf held rows None → IsWaiting held place r next → IsLeastOf held (rows ++ r ∷ []) next
  first_least_with None none is = λ m t e. elim (push_from rows r m t e) [ inl old ↦ none m t old | inr new ↦ ap held new.1 ∙ is ]
  first_least_with (Some w) none is = (
    record { row = r; here = ap (slice_get (rows ++ r ∷ [])) is.0 ∙ there; value = is.1 },
    λ m t v e h. elim (push_from rows r m t e) [
      | inl old ↦ absurd (let p = none m t old in cc)
      | inr new ↦ inr (let p = is.1 in let q = ap held new.1 in let same : Some (value_of w.part) ≡ Some v = sym p ∙ sym q ∙ h in cc)
    ],
  )

  pub least_with : (w next : Waiting) → IsTotalOrder value_cmp → IsLeastOf held rows (Some w) → IsLesser held place r w next → IsLeastOf held (rows ++ r ∷ []) (Some next)
  least_with w next total is lesser = (
    elim lesser.either [
      | inl e ↦ (let m : MakesAt held rows next.place (value_of next.part) = subst (λ (x : Waiting). MakesAt held rows x.place (value_of x.part)) (sym e) is.0 in record { row = m.row; here = push_old rows r next.place m.row m.here; value = m.value })
      | inr new ↦ record { row = r; here = ap (slice_get (rows ++ r ∷ [])) new.0 ∙ there; value = new.1 }
    ],
    λ m t v e h. elim (push_from rows r m t e) [
      | inl old ↦ most_trans total (value_of next.part) (value_of w.part) v lesser.first (is.1 m t v old h)
      | inr new ↦ lesser.other v (sym (ap held new.1) ∙ h)
    ],
  )

-- before any row
pub least_begins : {R : Type 0} (held : R → Option Value) (rows : List R) → IsLeastOf held (take 0 rows) None
least_begins held rows m r e = cc

-- the next row
pub least_step : {R : Type 0} (held : R → Option Value) (rows : List R) (i : ℕ) (d : R) (least next : Option Waiting) → i < length rows → IsLeastOf held (take i rows) least
    → ((before : List R) → i ≡ length before → IsLeastOf held before least → IsLeastOf held (before ++ get_or rows i d ∷ []) next) → IsLeastOf held (take (i + 1) rows) next
least_step held rows i d least next less is with =
    let e : take (i + 1) rows ≡ take i rows ++ get_or rows i d ∷ [] = (let f : i + 1 ≡ suc i = omega arith in ap (λ j. take j rows) f ∙ take-suc rows i d less) in
    subst (λ l. IsLeastOf held l next) (sym e) (with (take i rows) (let long = length-take-le i rows (omega arith) in omega arith) is)

pub least_ends : {R : Type 0} (held : R → Option Value) (rows : List R) (i : ℕ) (least : Option Waiting) → length rows ≤ i → IsLeastOf held (take i rows) least → IsLeastOf held rows least
least_ends held rows i least past is = subst (λ l. IsLeastOf held l least) (take_all i rows past) is

pub least_slices : (z : Value) (n slice : List Node) (k : ℕ) (rows few : List Row) (least : Option Waiting) → slice ≡ n → few ≡ rows → IsLeastOf (held_by z slice k) few least → IsLeastOf (held_by z n k) rows least
least_slices z n slice k rows few least e f h = subst (λ (l : List Row). IsLeastOf (held_by z n k) l least) f (subst (λ (m : List Node). IsLeastOf (held_by z m k) few least) e h)

pub ok_as : {T E : Type 0} (r : Result T E) (P Q : T → Type 0) → ((x : T) → P x → Q x) → IfOk r P → IfOk r Q
ok_as (Ok x) P Q f h = f x h
ok_as (Err e) P Q f h = tt

-- ---- the node that shows its least part
module _ (z : Value) (n : List Node) (k : ℕ) (node new : Node) (queue : List Waiting) (forest : IsForest z (forest_of n)) (table : IsTable z n) (b : IsIdle n k) (at : node ≡ get_or n k node) (unread : ready_at n k ≡ []) (peeked : IsPeeked z n k queue) (shows' : Shows node queue new) where
  same_node : node ≡ b.node
  same_node = at ∙ get_or_from_slice_get n k b.node node b.here

  shows : Shows b.node queue new
  shows = subst (λ (t : Node). Shows t queue new) same_node shows'

  is : IsNode z (forest_of n) (parts z n) k b.node
  is = table k b.node b.here

  ready : ready_of new ≡ least_part queue
  ready = λ i. ((λ j. map value_of (shows.made j)) ∙ is.idle b.idle) i ++ least_part (shows.queue_is i)

  old_ready : ready_of b.node ≡ []
  old_ready = sym (ap ready_in b.here) ∙ unread

  more : Extends (ready_of b.node) (ready_of new)
  more = extends_none (ready_of b.node) (ready_of new) old_ready

  begun : new.begun ≡ false
  begun = shows.begun ∙ b.idle

  new_is : IsNode z (forest_of n) (parts z n) k new
  new_is = record {
    ways = shows.ways ∙ is.ways;
    idle = λ e. (λ j. map value_of (shows.made j)) ∙ is.idle b.idle;
    busy = λ e. absurd (let f = begun in cc);
    queue = λ e. absurd (let f = begun in cc);
    front = subst (λ (l : List Value). IsFront value_cmp (Has z (forest_of n) (Some k)) l) (sym ready)
        (subst (λ (q : List Waiting). IsFront value_cmp (Has z (forest_of n) (Some k)) (least_part q)) (sym peeked.queue_is) (least_front z n k [] peeked.rows peeked.least forest table peeked.all peeked.is_least));
  }

  pub shown_table : IsTable z (set n k new)
  shown_table = table_set z n k b.node new table b.here shows.ways more new_is

  pub shown_grown : Grown (suc k) n (set n k new)
  shown_grown = grown_set n k b.node new b.here shows.ways more

  pub shown_ready : ready_at (set n k new) k ≡ least_part queue
  shown_ready = ap ready_in (set_here n k new (slice_get_within n k b.node b.here)) ∙ ready

  -- where nothing waits, the node has no part
  pub shown_none : queue ≡ [] → IsAll (Has z (forest_of (set n k new)) (Some k)) []
  shown_none empty = subst (λ f. IsAll (Has z f (Some k)) []) (sym shown_grown.forest) (λ v h. none peeked.least peeked.is_least (sym peeked.queue_is ∙ empty) v h)
    where
      none : (o : Option Waiting) → IsLeastOf (held_by z n k) peeked.rows o → waiting_list o ≡ [] → (v : Value) → Has z (forest_of n) (Some k) v → IsIn [] v
      none None nothing e v h = finished (setting z (forest_of n) k) (seen z (forest_of n) (parts z n) k) (length (ways_of (forest_of n) k)) (forest.laws k) (λ p. parts z n (way_at (forest_of n) k p).left) (λ p. parts z n (way_at (forest_of n) k p).right) [] peeked.rows peeked.all (parts_are z n table k (length (ways_of (forest_of n) k))) nothing v (has_makes z (forest_of n) (Some k) v k h refl)
      none (Some w) is e v h = absurd cc

-- ---- the place 0
pub peeked_nth : (z : Value) (n : List Node) (k : ℕ) (b : Bool) → (b ≡ true → 0 < length (ready_at n k)) → (b ≡ false → IsAll (Has z (forest_of n) (Some k)) []) → IsNth z n (Some k) 0 b
peeked_nth z n k true up down = up refl
peeked_nth z n k false up down = λ x h. absurd (let i = down refl x h in let p = i.1 in cc)

-- a queue in which one waits alone, or none
pub one_permuted : (o : Option Waiting) (queue : List Waiting) → IsPermutation (waiting_list o ++ []) queue → queue ≡ waiting_list o
one_permuted None [] p = refl
one_permuted None (w ∷ queue) p = absurd (let long = length_permutation [] (w ∷ queue) p in omega arith)
one_permuted (Some w) [] p = absurd (let long = length_permutation (w ∷ []) [] p in omega arith)
one_permuted (Some w) (v ∷ []) p = (let (i, less, at) = Contains-permutation (w ∷ []) (v ∷ []) w p (0, omega arith, refl) in let first : i ≡ 0 = omega arith in let same : get_or (v ∷ []) 0 w ≡ w = subst (λ j. get_or (v ∷ []) j w ≡ w) first at in ap (λ x. x ∷ []) same)
one_permuted (Some w) (v ∷ u ∷ queue) p = absurd (let long = length_permutation (w ∷ []) (v ∷ u ∷ queue) p in omega arith)
