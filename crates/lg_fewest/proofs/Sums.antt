-- The numbers of a span's unlinked words are the sums over its cuts, and those of the sentence the sums over its first linked words.
use Rattle.std.proofs.Common.{◌≡◌, ◌↔◌, ◌⊎◌, ℕ, zero, suc, ◌+◌, ◌-◌, ◌<◌, ◌≤◌, inl, inr, refl, sym, ap, subst, List, [], length, Option, Some, None, IsSome, Contains, slice_get, slice_index_or, arith}
use Rattle.std.proofs.lemmas.Option.{same_Some, slice_get-get_or}
use Rattle.lg_gram.specs.Connectors.{Connector}
use Rattle.lg_gram.specs.Linkages.{Linkage}
use Rattle.lg_gram.specs.Rules.{chosen_at}
use Rattle.lg_gram.specs.declared.disjunct.Disjunct.{Disjunct}
use Rattle.lg_region.specs.Parts.{Region, UnderWhole, null_at, nulls_from}
use Rattle.lg_region.specs.Cuts.{IsCutAt, Alternative, all_null, split, Split, IsAlternative, IsCut, IsValid}
use Rattle.lg_region.specs.Whole.{First, IsFirst, WholeAlternative, nothing, first, IsWholeAlternative}
use Rattle.lg_region.specs.Fronts.{Numbering, list_of}
use Rattle.lg_region.specs.Laws.{CutsAreValid, AlternativesDecide, WholeAlternativesDecide, NumbersTellListsApart, HasLinkage, KeysHave, WholeKeyHas}
use Rattle.lg_region.specs.Keys.{IsValidKey, IsKeyOf, IsDisjunctAt}
use Rattle.lg_region.specs.declared.key.Joint.{Joint}
use Rattle.lg_region.specs.declared.key.Key.{Key}
use Rattle.lg_region.specs.declared.key.Key.TheVariants.{Whole, Region as Between}
use Rattle.lg_region.specs.declared.alternative.Alt.{Alt}
use Rattle.lg_region.specs.declared.alternative.Alt.TheVariants.{AllNull, Split as At}
use Rattle.lg_fewest.specs.Spans.{HasFirstSum, HasIn, HasSum, HasUnlinked, IsAltIn, IsFirstAlt, key_of, left_span, region_at, right_span, span_in}
use Rattle.lg_fewest.specs.Least.{IsNarrower, SumsDecide}
use Rattle.lg_fewest.specs.declared.span.Span.{Span}
use Rattle.lg_fewest.proofs.Leading.{no_lists}

-- ---- no more words are unlinked than there are

null_few : (o : Option Disjunct) → null_at o ≤ 1
null_few None = omega arith
null_few (Some d) = omega arith

nulls_few : (g : Linkage) (s n : ℕ) → nulls_from g s n ≤ n
nulls_few g s zero = omega arith
nulls_few g s (suc n) = omega (arith, nulls_few g (suc s) n, null_few (chosen_at g s))

region_few : (positions : List (List Disjunct)) (k : Region) → HasLinkage positions k → k.nulls ≤ k.right - suc k.left
region_few positions k (g, under) = let few = nulls_few g (suc k.left) (k.right - suc k.left) in let count = under.nulls in omega arith

-- ---- regions with other numbers of unlinked words

abbrev at_nulls : Region → ℕ → Region
at_nulls k nulls = record k { nulls = nulls }

abbrev split_at : Split → ℕ → ℕ → Split
split_at c x y = record c { lkey = at_nulls c.lkey x; rkey = at_nulls c.rkey y }

cut_at : (positions : List (List Disjunct)) (k : Region) (c : Split) (x y m : ℕ) → IsCut positions k c → x ≤ c.word - suc k.left → y ≤ k.right - suc c.word → x + y ≡ m → IsCut positions (at_nulls k m) (split_at c x y)
cut_at positions k c x y m is few_x few_y sum = record {
  after = is.after;
  before = is.before;
  listed = is.listed;
  ends_left = is.ends_left;
  ends_right = is.ends_right;
  at_left = is.at_left;
  at_right = is.at_right;
  by_llist = is.by_llist;
  by_rlist = is.by_rlist;
  few_left = few_x;
  few_right = few_y;
  nulls = sum;
}

valid_at : (positions : List (List Disjunct)) (k : Region) (m : ℕ) → IsValid positions k → m ≤ k.right - suc k.left → IsValid positions (at_nulls k m)
valid_at positions k m v few = record { ends = v.ends; within = v.within; llist = v.llist; rlist = v.rlist; at_end = v.at_end; few = few }

numbered : (positions : List (List Disjunct)) (word : ℕ) (d : Disjunct) → Contains (slice_index_or positions word []) d → (number : ℕ) × IsDisjunctAt positions word number d
numbered positions word d (i, lt, at) = (i, subst (λ z. slice_get (slice_index_or positions word []) i ≡ Some z) at (slice_get-get_or (slice_index_or positions word []) i d lt))

unjoined : (j : Option Joint) (near far near' far' : List Connector) → far ≡ [] → IsSome j → IsCutAt j near far near' far' → ⊥
unjoined None near far near' far' e some cut = absurd cc
unjoined (Some j) near far near' far' e some (a, b, m) = let long = b.0 in let none = ap length e in omega arith

-- a first word with as many unlinked words behind it as make up a number
abbrev first_at : First → ℕ → First
first_at c m = record c { rkey = at_nulls c.rkey (m - c.word) }

is_first_at : (positions : List (List Disjunct)) (nulls m : ℕ) (c : First) → IsFirst positions nulls c → c.word ≤ m → m - c.word ≤ length positions - suc c.word → IsFirst positions m (first_at c m)
is_first_at positions nulls m c is enough few = record {
  before = is.before;
  enough = enough;
  listed = is.listed;
  left = is.left;
  rkey = ap (λ z. at_nulls z (m - c.word)) is.rkey;
  few = few;
}

module _ (n : Numbering) where
  -- a key and its region have the same linkages, also with other numbers of unlinked words
  has_in : (key : Key) (k : Region) (x : ℕ) → IsKeyOf n.lists key k → HasLinkage n.positions (at_nulls k x) ↔ HasIn n (span_in (Some key)) x
  has_in (Whole nulls) k x is = absurd is
  has_in (Between left right llist rlist nulls) k x is =
      let e = ap (λ z. at_nulls z x) is.2 in (subst (λ z. HasLinkage n.positions z) e, subst (λ z. HasLinkage n.positions z) (sym e))

  -- a span of a key may be asked for
  span_valid : (key : Key) (k : Region) (t : Span) (wide : ℕ) → IsKeyOf n.lists key k → IsValid n.positions k → k.right - k.left < wide → span_in (Some key) ≡ Some t → IsValidKey n.positions n.lists (key_of t) × (t.right - t.left < wide)
  span_valid (Whole nulls) k t wide is v narrow e = absurd is
  span_valid (Between left right llist rlist nulls) k t wide is v narrow e =
      let here : Span = record { left = left; right = right; llist = llist; rlist = rlist } in
      let same : here ≡ t = same_Some here t e in
      let valid = valid_at n.positions (region_at n here nulls) 0 (subst (λ z. IsValid n.positions z) is.2 v) (omega arith) in
      let narrower : right - left < wide = subst (λ (z : Region). z.right - z.left < wide) is.2 narrow in
      subst (λ z. IsValidKey n.positions n.lists (key_of z) × (z.right - z.left < wide)) same ((is.0, is.1, valid), narrower)

  module _ (valid : CutsAreValid) (numbers : NumbersTellListsApart n.positions n.lists) (regions : AlternativesDecide) (s : Span) (v : IsValidKey n.positions n.lists (key_of s)) where
    -- a number whose list is empty
    zero_of : (id : ℕ) → id ≤ length n.lists → list_of n.lists id ≡ [] → id ≡ 0
    zero_of id known e = numbers.lists_apart id 0 known (omega arith) e

    -- a cut of a linkage, as one with no unlinked word
    numbered_cut : (m : ℕ) (c : Split) → IsCut n.positions (region_at n s m) c → KeysHave n.positions (split c) → (a : Alt) × IsAltIn n s a × HasSum n a m
    numbered_cut m c is has =
        let none = cut_at n.positions (region_at n s m) c 0 0 0 is (omega arith) (omega arith) refl in
        let spans = valid.split n.positions (region_at n s 0) (split_at c 0 0) v.2 none in
        let d = numbered n.positions c.word c.disjunct is.listed in
        let l = numbers.some_key (at_nulls c.lkey 0) spans.0 in
        let r = numbers.some_key (at_nulls c.rkey 0) spans.1 in (
          At c.word d.0 c.to_left c.to_right (Some l.0) (Some r.0),
          (split_at c 0 0, record { cut = none; place = refl; chosen = d.1; joint_left = refl; joint_right = refl; before = l.1; behind = r.1 }),
          (c.lkey.nulls, c.rkey.nulls, (has_in l.0 (at_nulls c.lkey 0) c.lkey.nulls l.1).0 has.0, (has_in r.0 (at_nulls c.rkey 0) c.rkey.nulls r.1).0 has.1, is.nulls),
        )

    sum_of : ((s.llist ≡ 0) × (s.rlist ≡ 0) → ⊥) → (m : ℕ) (b : Alternative) → IsAlternative n.positions (region_at n s m) b → KeysHave n.positions b → (a : Alt) × IsAltIn n s a × HasSum n a m
    sum_of some m all_null is has = absurd (some (zero_of s.llist v.0 is.0, zero_of s.rlist v.1 is.1))
    sum_of some m (split c) is has = numbered_cut m c is has

    -- and back
    cut_of : (m : ℕ) (a : Alt) → IsAltIn n s a → HasSum n a m → HasUnlinked n s m
    cut_of m AllNull is (x, y, hx, hy, e) = absurd hx
    cut_of m (At word number to_left to_right (Some lkey) (Some rkey)) (c, is) (x, y, hx, hy, e) =
        let left = (has_in lkey c.lkey x is.before).1 hx in
        let right = (has_in rkey c.rkey y is.behind).1 hy in
        let few_x = region_few n.positions (at_nulls c.lkey x) left in
        let few_y = region_few n.positions (at_nulls c.rkey y) right in
        let ends_left = is.cut.ends_left in
        let ends_right = is.cut.ends_right in
        let after = is.cut.after in
        let before = is.cut.before in
        let whole = cut_at n.positions (region_at n s 0) c x y m is.cut (omega arith) (omega arith) e in
        (regions n.positions (region_at n s m) (valid_at n.positions (region_at n s 0) m v.2 (omega arith))).1 (split (split_at c x y), whole, (left, right))
    cut_of m (At word number to_left to_right (Some lkey) None) is h = absurd is
    cut_of m (At word number to_left to_right None rkey) is h = absurd is

    cut : ((s.llist ≡ 0) × (s.rlist ≡ 0) → ⊥) → (m : ℕ) → HasUnlinked n s m → (a : Alt) × IsAltIn n s a × HasSum n a m
    cut some m has =
        let few = region_few n.positions (region_at n s m) has in
        let b = (regions n.positions (region_at n s m) (valid_at n.positions (region_at n s 0) m v.2 few)).0 has in
        sum_of some m b.0 b.1 b.2

    -- nothing can be joined with an empty list
    no_cut : (s.llist ≡ 0) × (s.rlist ≡ 0) → (m : ℕ) (b : Alternative) → IsAlternative n.positions (region_at n s m) b → m ≡ s.right - suc s.left
    no_cut none m all_null is = is.2
    no_cut none m (split c) is =
        absurd (unjoined c.to_right c.disjunct.right (list_of n.lists s.rlist) c.rkey.llist c.rkey.rlist (ap (list_of n.lists) none.1) (is.by_rlist (ap (list_of n.lists) none.0)) is.at_right)

    unlinked : (s.llist ≡ 0) × (s.rlist ≡ 0) → (m : ℕ) → HasUnlinked n s m ↔ (m ≡ s.right - suc s.left)
    unlinked none m = (
      (λ has. let few = region_few n.positions (region_at n s m) has in
          let b = (regions n.positions (region_at n s m) (valid_at n.positions (region_at n s 0) m v.2 few)).0 has in no_cut none m b.0 b.1),
      (λ e. let few : m ≤ s.right - suc s.left = omega arith in
          (regions n.positions (region_at n s m) (valid_at n.positions (region_at n s 0) m v.2 few)).1 (all_null, (ap (list_of n.lists) none.0, ap (list_of n.lists) none.1, e), tt)),
    )

    narrow_left : (t : Span) (a : Alt) → IsAltIn n s a → left_span a ≡ Some t → IsNarrower n s t
    narrow_left t AllNull is e = absurd cc
    narrow_left t (At word number to_left to_right (Some lkey) (Some rkey)) (c, is) e =
        let ends = is.cut.ends_left in
        let after = is.cut.after in
        let before = is.cut.before in
        span_valid lkey c.lkey t (s.right - s.left) is.before (valid.split n.positions (region_at n s 0) c v.2 is.cut).0 (omega arith) e
    narrow_left t (At word number to_left to_right (Some lkey) None) is e = absurd is
    narrow_left t (At word number to_left to_right None rkey) is e = absurd is

    narrow_right : (t : Span) (a : Alt) → IsAltIn n s a → right_span a ≡ Some t → IsNarrower n s t
    narrow_right t AllNull is e = absurd cc
    narrow_right t (At word number to_left to_right (Some lkey) (Some rkey)) (c, is) e =
        let ends = is.cut.ends_right in
        let after = is.cut.after in
        let before = is.cut.before in
        span_valid rkey c.rkey t (s.right - s.left) is.behind (valid.split n.positions (region_at n s 0) c v.2 is.cut).1 (omega arith) e
    narrow_right t (At word number to_left to_right (Some lkey) None) is e = absurd is
    narrow_right t (At word number to_left to_right None rkey) is e = absurd is

  module _ (valid : CutsAreValid) (numbers : NumbersTellListsApart n.positions n.lists) (wholes : WholeAlternativesDecide) where
    abbrev last : ℕ
    last = length n.positions - 1

    numbered_first : (m : ℕ) (c : First) → IsFirst n.positions m c → HasLinkage n.positions c.rkey → (a : Alt) × IsFirstAlt n a × HasFirstSum n a m
    numbered_first m c is has =
        let before = is.before in
        let enough = is.enough in
        let count = ap (λ (z : Region). z.nulls) is.rkey in
        let at_last = is_first_at n.positions m last c is (omega arith) (omega arith) in
        let d = numbered n.positions c.word c.disjunct is.listed in
        let r = numbers.some_key (at_nulls c.rkey (last - c.word)) (valid.first n.positions last (first_at c last) at_last) in (
          At c.word d.0 None None None (Some r.0),
          (first_at c last, record { first = at_last; place = refl; chosen = d.1; behind = r.1 }),
          (c.rkey.nulls, (has_in r.0 (at_nulls c.rkey (last - c.word)) c.rkey.nulls r.1).0 has, omega arith),
        )

    first_sum_of : (m : ℕ) (b : WholeAlternative) → IsWholeAlternative n.positions m b → WholeKeyHas n.positions b → (m ≡ length n.positions) ⊎ ((a : Alt) × IsFirstAlt n a × HasFirstSum n a m)
    first_sum_of m nothing is has = inl is
    first_sum_of m (first c) is has = inr (numbered_first m c is has)

    first_of : (m : ℕ) (a : Alt) → IsFirstAlt n a → HasFirstSum n a m → (g : Linkage) × UnderWhole n.positions m g
    first_of m AllNull is (y, hy, e) = absurd hy
    first_of m (At word number None None None (Some rkey)) (c, is) (y, hy, e) =
        let has = (has_in rkey c.rkey y is.behind).1 hy in
        let few = region_few n.positions (at_nulls c.rkey y) has in
        let left = ap (λ (z : Region). z.left) is.first.rkey in
        let right = ap (λ (z : Region). z.right) is.first.rkey in
        let before = is.first.before in
        let place = is.place in
        let rest : y ≡ m - c.word = omega arith in
        let at_m = is_first_at n.positions last m c is.first (omega arith) (omega arith) in
        (wholes n.positions m).1 (first (first_at c m), at_m, subst (λ z. HasLinkage n.positions (at_nulls c.rkey z)) rest has)
    first_of m (At word number None None None None) is h = absurd is
    first_of m (At word number None None (Some lkey) rkey) is h = absurd is
    first_of m (At word number None (Some j) lkey rkey) is h = absurd is
    first_of m (At word number (Some j) to_right lkey rkey) is h = absurd is

    firsts : (m : ℕ) → ((g : Linkage) × UnderWhole n.positions m g) ↔ ((m ≡ length n.positions) ⊎ ((a : Alt) × IsFirstAlt n a × HasFirstSum n a m))
    firsts m = (
      (λ has. let b = (wholes n.positions m).0 has in first_sum_of m b.0 b.1 b.2),
      (λ h. elim h [ inl all ↦ (wholes n.positions m).1 (nothing, all, tt) | inr (a, is, sum) ↦ first_of m a is sum ]),
    )

    behind : (t : Span) (a : Alt) → IsFirstAlt n a → right_span a ≡ Some t → IsValidKey n.positions n.lists (key_of t)
    behind t AllNull is e = absurd cc
    behind t (At word number None None None (Some rkey)) (c, is) e = (span_valid rkey c.rkey t (suc (c.rkey.right - c.rkey.left)) is.behind (valid.first n.positions last c is.first) (omega arith) e).0
    behind t (At word number None None None None) is e = absurd is
    behind t (At word number None None (Some lkey) rkey) is e = absurd is
    behind t (At word number None (Some j) lkey rkey) is e = absurd is
    behind t (At word number (Some j) to_right lkey rkey) is e = absurd is

pub decided : (positions : List (List Disjunct)) (lists : List (List Connector)) → CutsAreValid → AlternativesDecide → WholeAlternativesDecide → NumbersTellListsApart positions lists → SumsDecide (record { positions = positions; lists = lists })
decided positions lists valid regions wholes numbers =
    let n : Numbering = record { positions = positions; lists = lists } in
    record {
      few = λ s m has. region_few positions (region_at n s m) has;
      bare = λ s v none. no_lists n numbers s v none;
      unlinked = λ s v none m. unlinked n valid numbers regions s v none m;
      cut = λ s v some m has. cut n valid numbers regions s v some m has;
      joined = λ s v a m is sum. cut_of n valid numbers regions s v m a is sum;
      left = λ s t a v is e. narrow_left n valid numbers regions s v t a is e;
      right = λ s t a v is e. narrow_right n valid numbers regions s v t a is e;
      firsts = λ m. firsts n valid numbers wholes m;
      behind = λ t a is e. behind n valid numbers wholes t a is e;
    }
