-- Numbers of lists compare as the lists do.
use Rattle.std.proofs.Common.{◌≡◌, ℕ, ◌+◌, ◌<◌, ◌≤◌, Bool, true, false, if◌then◌else◌, nat_eq, List, [], ◌∷◌, ◌++◌, length, length-append, map, take, get_or, slice_get, Some, Bor, refl, sym, ap, subst, ◌∙◌, arith}
use Rattle.std.specs.Bool.{Decides}
use Rattle.std.specs.Ordering.{nat_cmp, int_cmp, ordering_then, on, eq_by_cmp}
use Rattle.std.specs.Cmp.{IsTotalOrder}
use Rattle.std.specs.Cmp.Lexicographic.{slice_cmp, pointwise}
use Rattle.std.specs.List.{All, dedup, list_any}
use Rattle.std.specs.List.Sorted.{IsSorted, IsPermutation}
use Rattle.std.proofs.Math.ListN.{get_or-append}
use Rattle.std.proofs.lemmas.Bool.Decides.{Decides-eqb}
use Rattle.std.proofs.lemmas.Cmp.{on_total, then_total, nat_cmp_total, int_cmp_total}
use Rattle.std.proofs.lemmas.List.{length-map, map-append, take_all, take_at, take_more}
use Rattle.std.proofs.lemmas.List.Elements.{All-nil, All-cons, All-append, All-map, All-weaker}
use Rattle.std.proofs.lemmas.List.Sorted.{All-permutation, IsPermutation-map, IsPermutation-trans, length_permutation}
use Rattle.std.proofs.lemmas.Option.{slice_get_within, slice_get-get_or, get_or_from_slice_get}
use Rattle.std.proofs.lemmas.Simd.{map-map}
use Rattle.std.proofs.lemmas.Slice.Eq.{slice_eq-Decides}
use Rattle.indexmap.specs.IndexSet.{insert_key}
use Rattle.lg_disj.specs.declared.arena.Row.{Row}
use Rattle.lg_disj.specs.declared.numbers.Numbered.{Numbered}
use Rattle.lg_disj.specs.Ranks.{AreRanksBy, lent_cmp, key_in, ranks_cmp, places_cmp, IsKept, StandsAt, Keeps, Comes, HasPlaces, HavePlaces, renumbered, AreNumbered, lists_numbers_cmp, numbers_cmp}
use Rattle.lg_disj.proofs.Alike.{sorted_map, dedup_map}

abbrev list_eq : Bor (List ℕ) → Bor (List ℕ) → Bool
list_eq f g = pointwise nat_eq f.now g.now

same_list : (xs ys : List ℕ) → Decides (pointwise nat_eq xs ys) (xs ≡ ys)
same_list xs ys = slice_eq-Decides Decides-eqb xs ys _ refl

kept_behind : (old more : List (Bor (List ℕ))) → Keeps old (old ++ more)
kept_behind old more n f at =
    let within = slice_get_within old n f at in
    slice_get-get_or (old ++ more) n f (omega (arith, within, length-append old more))
    ∙ ap Some (get_or-append old more f n within ∙ get_or_from_slice_get old n f f at)

kept_inserted : (old : List (Bor (List ℕ))) (k : Bor (List ℕ)) (b : Bool) → Keeps old (if b then old else old ++ k ∷ [])
kept_inserted old k true n f at = at
kept_inserted old k false n f at = kept_behind old (k ∷ []) n f at

pub is_there : (new : List (Bor (List ℕ))) (k f : Bor (List ℕ)) (place : ℕ) → slice_get new place ≡ Some f → list_eq k f ≡ true → StandsAt new k.now place
is_there new k f place there same = record { lent = f; there = there; same = sym ((same_list k.now f.now).0 same) }

-- a list came by an insert
pub came : (old new : List (Bor (List ℕ))) (k f : Bor (List ℕ)) (place : ℕ) → new ≡ insert_key list_eq old k → slice_get new place ≡ Some f → list_eq k f ≡ true →
    Comes old new k.now place
came old new k f place is there same = record {
  kept = subst (Keeps old) (sym is) (kept_inserted old k (list_any (list_eq k) old));
  stands = is_there new k f place there same;
}

-- a list that stands there was there
pub was_there : (old : List (Bor (List ℕ))) (list : List ℕ) (place : ℕ) → StandsAt old list place → Comes old old list place
was_there old list place at = record { kept = λ n f h. h; stands = at }

pub stands_on : (old new : List (Bor (List ℕ))) (list : List ℕ) (place : ℕ) → Keeps old new → StandsAt old list place → StandsAt new list place
stands_on old new list place kept at = record { lent = at.lent; there = kept place at.lent at.there; same = at.same }

places_on : (rs : List ℕ) (old new : List (Bor (List ℕ))) (k : Numbered) → Keeps old new → HasPlaces rs old k → HasPlaces rs new k
places_on rs old new k kept h = record {
  left = stands_on old new (key_in rs k.row).left k.left kept h.left;
  right = stands_on old new (key_in rs k.row).right k.right kept h.right;
}

pub none_placed : (rs : List ℕ) (rows : List Row) (lists : List (Bor (List ℕ))) (placed : List Numbered) → placed ≡ [] → HavePlaces rs lists (take 0 rows) placed
none_placed rs rows lists placed is = record {
  same = ap (map (λ k. k.row)) is;
  places = subst (All (HasPlaces rs lists)) (sym is) (All-nil (HasPlaces rs lists));
}

-- one more row has its places
pub one_more : (rs : List ℕ) (rows : List Row) (i : ℕ) (row : Row) (l0 l1 l2 : List (Bor (List ℕ))) (old new : List Numbered) (a b : List ℕ) (m n : ℕ) → i < length rows →
    row ≡ get_or rows i row → a ≡ (key_in rs row).left → b ≡ (key_in rs row).right → Comes l0 l1 a m → Comes l1 l2 b n →
    new ≡ old ++ record { left = m; right = n; row = row } ∷ [] → HavePlaces rs l0 (take i rows) old → HavePlaces rs l2 (take (i + 1) rows) new
one_more rs rows i row l0 l1 l2 old new a b m n within read left right first second is h =
    let one : Numbered = record { left = m; right = n; row = row } in
    let kept : Keeps l0 l2 = λ k f at. second.kept k f (first.kept k f at) in
    let there = stands_on l1 l2 a m second.kept first.stands in
    let has : HasPlaces rs l2 one = record { left = subst (λ z. StandsAt l2 z m) left there; right = subst (λ z. StandsAt l2 z n) right second.stands } in
    record {
      same = ap (map (λ k. k.row)) is ∙ map-append (λ k. k.row) old (one ∷ []) ∙ ap (λ xs. xs ++ row ∷ []) h.same
          ∙ ap (λ z. take i rows ++ z ∷ []) read ∙ sym (take_more rows i row within);
      places = subst (All (HasPlaces rs l2)) (sym is) (All-append (HasPlaces rs l2) old (one ∷ [])
          (All-weaker (HasPlaces rs l0) (HasPlaces rs l2) (λ k. places_on rs l0 l2 k kept) old h.places)
          (All-cons (HasPlaces rs l2) one [] has (All-nil (HasPlaces rs l2))));
    }

pub all_placed : (rs : List ℕ) (rows : List Row) (i : ℕ) (lists : List (Bor (List ℕ))) (placed : List Numbered) → length rows ≤ i →
    HavePlaces rs lists (take i rows) placed → HavePlaces rs lists rows placed
all_placed rs rows i lists placed whole h = record { same = h.same ∙ take_all i rows whole; places = h.places }

module _ (lists : List (Bor (List ℕ))) (ranks : List ℕ) (are : AreRanksBy lent_cmp lists ranks) where
  ranks_alike : (a b : List ℕ) (m n : ℕ) → StandsAt lists a m → StandsAt lists b n → nat_cmp (get_or ranks m 0) (get_or ranks n 0) ≡ slice_cmp nat_cmp a b
  ranks_alike a b m n p q =
      let one = get_or_from_slice_get lists m p.lent p.lent p.there in
      let other = get_or_from_slice_get lists n q.lent p.lent q.there in
      are.order m n p.lent (slice_get_within lists m p.lent p.there) (slice_get_within lists n q.lent q.there)
      ∙ (λ i. slice_cmp nat_cmp ((ap (λ f. f.now) one ∙ p.same) i) ((ap (λ f. f.now) other ∙ q.same) i))

  by_lists : (rs : List ℕ) (a b : Numbered) → HasPlaces rs lists a → HasPlaces rs lists b → lists_numbers_cmp (renumbered ranks a) (renumbered ranks b) ≡ on (key_in rs) ranks_cmp a.row b.row
  by_lists rs a b p q =
      let left = ranks_alike (key_in rs a.row).left (key_in rs b.row).left a.left b.left p.left q.left in
      let right = ranks_alike (key_in rs a.row).right (key_in rs b.row).right a.right b.right p.right q.right in
      λ i. ordering_then (left i) (right i)

  -- a row with the ranks of its lists
  pub record IsRanked (rs : List ℕ) (k : Numbered) : Type 0 where
    pub from : Numbered
    pub places : HasPlaces rs lists from
    pub is : k ≡ renumbered ranks from

  pub by_ranks : (rs : List ℕ) (a b : Numbered) → IsRanked rs a → IsRanked rs b → lists_numbers_cmp a b ≡ on (key_in rs) ranks_cmp a.row b.row
  by_ranks rs a b p q =
      (λ i. lists_numbers_cmp (p.is i) (q.is i)) ∙ by_lists rs p.from q.from p.places q.places
      ∙ (λ i. on (key_in rs) ranks_cmp (sym p.is i).row (sym q.is i).row)

  pub by_all : (rs : List ℕ) (a b : Numbered) → IsRanked rs a → IsRanked rs b → numbers_cmp a b ≡ on (key_in rs) places_cmp a.row b.row
  by_all rs a b p q = let same = by_ranks rs a b p q in λ i. ordering_then (same i) (int_cmp a.row.cost b.row.cost)

  pub are_ranked : (rs : List ℕ) (placed : List Numbered) → All (HasPlaces rs lists) placed → All (IsRanked rs) (map (renumbered ranks) placed)
  are_ranked rs placed h = All-map (IsRanked rs) (renumbered ranks) placed (λ k d within. record { from = get_or placed k d; places = h k d within; is = refl })

-- the rows with ranks in place of places
pub are_numbered : (rs : List ℕ) (rows : List Row) (keys lists : List (Bor (List ℕ))) (ranks read : List ℕ) (placed old new rest : List Numbered) (n : ℕ) → HavePlaces rs keys rows placed →
    lists ≡ keys → AreRanksBy lent_cmp lists ranks → read ≡ ranks → old ≡ placed → new ≡ map (renumbered read) old → n ≡ length placed → AreNumbered rs rows (take n (new ++ rest))
are_numbered rs rows keys lists ranks read placed old new rest n have one are two three is long =
    let all : new ≡ map (renumbered ranks) placed = is ∙ (λ i. map (renumbered (two i)) (three i)) in
    record {
      lists = keys;
      ranks = ranks;
      are = subst (λ ls. AreRanksBy lent_cmp ls ranks) one are;
      placed = placed;
      places = have;
      is = take_at new rest n (ap length all ∙ length-map placed (renumbered ranks) ∙ sym long) ∙ all;
    }

-- rows that are exchanged where they lie, and then come in another order
pub arranged : (old d new rest sorted : List Numbered) (n : ℕ) → IsPermutation (take n (new ++ rest)) sorted → d ≡ old → IsPermutation d new → n ≡ length old → IsPermutation old sorted
arranged old d new rest sorted n moved is near long =
    let same : length new ≡ n = length_permutation d new near ∙ ap length is ∙ sym long in
    IsPermutation-trans old new sorted (subst (λ xs. IsPermutation xs new) is near) (subst (λ xs. IsPermutation xs sorted) (take_at new rest n same) moved)

pub numbers_total : IsTotalOrder numbers_cmp
numbers_total = then_total (then_total (on_total (λ k. k.left) nat_cmp_total) (on_total (λ k. k.right) nat_cmp_total)) (on_total (λ k. k.row.cost) int_cmp_total)

pub same_rows : (rs : List ℕ) (rows : List Row) (start : List Numbered) → AreNumbered rs rows start → map (λ k. k.row) start ≡ rows
same_rows rs rows start are = ap (map (λ k. k.row)) are.is ∙ map-map (λ k. k.row) (renumbered are.ranks) are.placed ∙ are.places.same

-- rows in the order of their numbers are rows in the order of their lists
pub kept_by_numbers : (rs : List ℕ) (rows : List Row) (start sorted : List Numbered) (kept : List Row) → AreNumbered rs rows start → IsPermutation start sorted →
    IsSorted numbers_cmp sorted → kept ≡ map (λ k. k.row) (dedup (eq_by_cmp lists_numbers_cmp) sorted) → IsKept rs rows kept
kept_by_numbers rs rows start sorted kept are moved order is =
    let row : Numbered → Row = λ k. k.row in
    let Good = IsRanked are.lists are.ranks are.are rs in
    let ranked : All Good start = subst (All Good) (sym are.is) (are_ranked are.lists are.ranks are.are rs are.placed are.places.places) in
    let good = All-permutation Good start sorted moved ranked in
    let same : map row start ≡ rows = same_rows rs rows start are in
    record {
      sorted = map row sorted;
      moved = subst (λ xs. IsPermutation xs (map row sorted)) same (IsPermutation-map row start sorted moved);
      order = sorted_map row Good numbers_cmp (on (key_in rs) places_cmp) (by_all are.lists are.ranks are.are rs) sorted good order;
      is = is ∙ sym (dedup_map row Good lists_numbers_cmp (on (key_in rs) ranks_cmp) (by_ranks are.lists are.ranks are.are rs) sorted good);
    }
