-- The sums over the cuts of a span, word by word, group by group, and so on.
use Rattle.std.proofs.Common.{◌≡◌, ◌↔◌, ◌⊎◌, ℕ, ◌+◌, ◌<◌, ◌≤◌, ◌^◌, inl, inr, refl, sym, ap, ◌∙◌, subst, List, [], ◌++◌, length, Option, Some, None, IfSome, MatchOption, Contains, slice_get, get_or, slice_index_or, arith}
use Rattle.std.proofs.lemmas.Bool.{cases_lt}
use Rattle.std.proofs.lemmas.Option.{same_Some, slice_get_within, slice_get-get_or, get_or_from_slice_get}
use Rattle.lg_region.specs.Parts.{Region}
use Rattle.lg_region.specs.Fronts.{Numbering}
use Rattle.lg_region.specs.Groups.{IsGroup, StandsBefore, StandsIn, region_of_gap}
use Rattle.lg_region.specs.Keys.{IsAltOf, IsAltOfRegion, IsValidKey}
use Rattle.lg_region.specs.Openings.{AreBeginnings, BeginsSo, GroupsOfWord, IsGapOf, IsIn, LeavesLeft}
use Rattle.lg_region.specs.Ways.{AddsExactly, AreExactly}
use Rattle.lg_region.specs.declared.key.Key.TheVariants.{Whole, Region as Between}
use Rattle.lg_region.specs.declared.alternative.Alt.{Alt}
use Rattle.lg_region.specs.declared.alternative.Alt.TheVariants.{AllNull, Split as At}
use Rattle.lg_region.specs.declared.group.Gap.{Gap}
use Rattle.lg_region.specs.declared.group.Group.{Group}
use Rattle.lg_region.specs.declared.opening.Beginning.{Beginning}
use Rattle.lg_fewest.specs.Spans.{HasIn, HasSum, HasUnlinked, IsAltIn, IsCutSum, IsEnding, StandsAt, key_of, left_span, right_span, span_before, span_in}
use Rattle.lg_fewest.specs.Least.{AreLeast, IsLeast, IsNarrower, IsWithin, Lowers, SumsDecide}
use Rattle.lg_fewest.specs.declared.span.Span.{Span}
use Rattle.lg_fewest.proofs.Lowering.{least_of, least_zero, lowers_as, lowers_by, lowers_none, lowers_same, lowers_then, within_more}

-- ---- among the first of a list

pub contains_at : {X : Type 0} (xs : List X) (i : ℕ) (x : X) → slice_get xs i ≡ Some x → Contains xs x
contains_at xs i x at = (i, slice_get_within xs i x at, get_or_from_slice_get xs i x x at)

place_of : {X : Type 0} (xs : List X) (x : X) → Contains xs x → (i : ℕ) × (slice_get xs i ≡ Some x)
place_of xs x (i, lt, at) = (i, subst (λ z. slice_get xs i ≡ Some z) at (slice_get-get_or xs i x lt))

-- what a loop tells of an element
pub at_of : {X : Type 0} (xs : List X) (i : ℕ) (x : X) → i < length xs → x ≡ get_or xs i x → slice_get xs i ≡ Some x
at_of xs i x lt e = slice_get-get_or xs i x lt ∙ ap Some (sym e)

-- one of the first i has R
abbrev pub Among : {X A : Type 0} → (X → A → Type 0) → List X → ℕ → A → Type 0
Among {X} R xs i a = (j : ℕ) × (x : X) × (j < i) × (slice_get xs j ≡ Some x) × R x a

module _ {X A : Type 0} (R : X → A → Type 0) (xs : List X) where
  pub among_none : (a : A) → Among R xs 0 a → ⊥
  among_none a (j, x, l, at, r) = omega arith

  pub among_next : (i next : ℕ) (x : X) → next ≡ i + 1 → slice_get xs i ≡ Some x → (a : A) → Among R xs next a ↔ (Among R xs i a ⊎ R x a)
  among_next i next x e at a = (
    λ (j, y, l, at', r). elim (cases_lt j i) [
      | inl h ↦ inl (j, y, h, at', r)
      | inr h ↦ (let same : j ≡ i = omega arith in inr (subst (λ z. R z a) (same_Some y x (sym at' ∙ ap (slice_get xs) same ∙ at)) r))
    ],
    λ h. elim h [
      | inl (j, y, l, at', r) ↦ (j, y, omega arith, at', r)
      | inr r ↦ (i, x, omega arith, at, r)
    ],
  )

  pub among_all : (i : ℕ) (x : X) (a : A) → length xs ≤ i → Contains xs x → R x a → Among R xs i a
  among_all i x a l has r = let p = place_of xs x has in let w = slice_get_within xs p.0 x p.1 in (p.0, x, omega arith, p.1, r)

-- ---- sums of some alternatives

module _ (n : Numbering) (s : Span) where
  -- those of two kinds, one after another
  pub sums_then : (P Q R : Alt → Type 0) (old mid new : Option ℕ) → ((a : Alt) → R a ↔ (P a ⊎ Q a)) → Lowers (IsCutSum n s P) old mid → Lowers (IsCutSum n s Q) mid new → Lowers (IsCutSum n s R) old new
  sums_then P Q R old mid new e l k =
      lowers_then (IsCutSum n s P) (IsCutSum n s Q) (IsCutSum n s R) old mid new
      (λ m. (
        λ (a, is, r, sum). elim ((e a).0 r) [ inl p ↦ inl (a, is, p, sum) | inr q ↦ inr (a, is, q, sum) ],
        λ h. elim h [ inl (a, is, p, sum) ↦ (a, is, (e a).1 (inl p), sum) | inr (a, is, q, sum) ↦ (a, is, (e a).1 (inr q), sum) ],
      ))
      l k

  pub sums_as : (P Q : Alt → Type 0) (old new : Option ℕ) → ((a : Alt) → IsAltIn n s a → P a ↔ Q a) → Lowers (IsCutSum n s P) old new → Lowers (IsCutSum n s Q) old new
  sums_as P Q old new e l =
      lowers_as (IsCutSum n s P) (IsCutSum n s Q) old new
      (λ m. (λ (a, is, p, sum). (a, is, (e a is).0 p, sum), λ (a, is, q, sum). (a, is, (e a is).1 q, sum)))
      l

  pub sums_none : (P : Alt → Type 0) (old : Option ℕ) → ((a : Alt) → P a → ⊥) → Lowers (IsCutSum n s P) old old
  sums_none P old none = lowers_none (IsCutSum n s P) old (λ m (a, is, p, sum). none a p)

  -- of one alternative more of a list
  pub sums_next : (alts : List Alt) (i next : ℕ) (a : Alt) (old mid new : Option ℕ) → next ≡ i + 1 → slice_get alts i ≡ Some a → IsAltIn n s a
      → Lowers (IsCutSum n s (Among (λ (u v : Alt). u ≡ v) alts i)) old mid → Lowers (HasSum n a) mid new → Lowers (IsCutSum n s (Among (λ (u v : Alt). u ≡ v) alts next)) old new
  sums_next alts i next a old mid new e at is l k =
      let step = among_next (λ (u v : Alt). u ≡ v) alts i next a e at in
      lowers_then (IsCutSum n s (Among (λ (u v : Alt). u ≡ v) alts i)) (HasSum n a) (IsCutSum n s (Among (λ (u v : Alt). u ≡ v) alts next)) old mid new
      (λ m. (
        λ (b, alt, among, sum). elim ((step b).0 among) [ inl before ↦ inl (b, alt, before, sum) | inr same ↦ inr (subst (λ z. HasSum n z m) (sym same) sum) ],
        λ h. elim h [ inl (b, alt, among, sum) ↦ (b, alt, (step b).1 (inl among), sum) | inr sum ↦ (a, is, (step a).1 (inr refl), sum) ],
      ))
      l k

-- it stands in the group
abbrev pub In : Group → Alt → Type 0
In g a = StandsIn g.word g.from g.to a

-- ---- the cuts of a span with a list

module _ (n : Numbering) (s : Span) (gap : Gap) (is : IsGapOf n (key_of s) gap) where
  -- the gap has the ends and lists of the span, and no unlinked word
  pub ends_are : (gap.left ≡ s.left) × (gap.right ≡ s.right)
  ends_are = let e = is.key_is in let left : gap.left ≡ s.left = cc in let right : gap.right ≡ s.right = cc in (left, right)

  pub lists_are : (gap.llist ≡ s.llist) × (gap.rlist ≡ s.rlist)
  lists_are = let e = is.key_is in let left : gap.llist ≡ s.llist = cc in let right : gap.rlist ≡ s.rlist = cc in (left, right)

  pub gap_alt : (a : Alt) → IsAltIn n s a ↔ IsAltOfRegion n.positions n.lists (region_of_gap n.lists gap) a
  gap_alt a = (subst (λ z. IsAltOf n.positions n.lists z a) is.key_is, subst (λ z. IsAltOf n.positions n.lists z a) (sym is.key_is))

  -- some list is there
  pub listed : (s.llist ≡ 0) × (s.rlist ≡ 0) → ⊥
  listed (l, r) = is.some (lists_are.0 ∙ l, lists_are.1 ∙ r)

  -- ---- word by word

  -- the sums are of alternatives that cut inside
  cuts_before : (a : Alt) (m : ℕ) → IsAltIn n s a → HasSum n a m → StandsBefore gap.right a
  cuts_before AllNull m alt sum = tt
  cuts_before (At word number to_left to_right (Some lkey) (Some rkey)) m (c, alt) sum =
      let before = alt.cut.before in let place = alt.place in let right = ends_are.1 in omega arith
  cuts_before (At word number to_left to_right (Some lkey) None) m alt sum = absurd alt
  cuts_before (At word number to_left to_right None rkey) m alt sum = absurd alt

  cuts_after : (a : Alt) (m : ℕ) → IsAltIn n s a → HasSum n a m → StandsBefore (gap.left + 1) a → ⊥
  cuts_after AllNull m alt (x, y, hx, hy, e) first = hx
  cuts_after (At word number to_left to_right (Some lkey) (Some rkey)) m (c, alt) sum first =
      let after = alt.cut.after in let place = alt.place in let left = ends_are.0 in let lt = first in omega arith
  cuts_after (At word number to_left to_right (Some lkey) None) m alt sum first = absurd alt
  cuts_after (At word number to_left to_right None rkey) m alt sum first = absurd alt

  before_next : (word : ℕ) (a : Alt) → StandsBefore (word + 1) a ↔ (StandsBefore word a ⊎ StandsAt word a)
  before_next word AllNull = (λ h. inl tt, λ h. tt)
  before_next word (At w number to_left to_right lkey rkey) = (
    λ h. let lt = h in elim (cases_lt w word) [ inl less ↦ inl less | inr more ↦ inr (omega arith) ],
    λ h. elim h [ inl less ↦ (let lt = less in omega arith) | inr same ↦ (let e = same in omega arith) ],
  )

  pub words_first : Lowers (IsCutSum n s (StandsBefore (gap.left + 1))) None None
  words_first = lowers_none (IsCutSum n s (StandsBefore (gap.left + 1))) None (λ m (a, alt, first, sum). cuts_after a m alt sum first)

  pub words_next : (word : ℕ) (old mid new : Option ℕ) → Lowers (IsCutSum n s (StandsBefore word)) old mid → Lowers (IsCutSum n s (StandsAt word)) mid new → Lowers (IsCutSum n s (StandsBefore (word + 1))) old new
  words_next word old mid new l k = sums_then n s (StandsBefore word) (StandsAt word) (StandsBefore (word + 1)) old mid new (before_next word) l k

  module _ (law : SumsDecide n) (v : IsValidKey n.positions n.lists (key_of s)) where
    -- all sums are numbers of unlinked words
    pub words_zero : (word : ℕ) (least : Option ℕ) → Lowers (IsCutSum n s (StandsBefore word)) None least → IsWithin least 0 → IsLeast (HasUnlinked n s) least
    words_zero word least l zero_is = least_zero (IsCutSum n s (StandsBefore word)) (HasUnlinked n s) least (λ m (a, alt, p, sum). law.joined s v a m alt sum) l zero_is

    pub words_all : (word : ℕ) (least : Option ℕ) → gap.right ≤ word → Lowers (IsCutSum n s (StandsBefore word)) None least → IsLeast (HasUnlinked n s) least
    words_all word least end l =
        least_of (HasUnlinked n s) least (lowers_as (IsCutSum n s (StandsBefore word)) (HasUnlinked n s) None least
        (λ m. (
          λ (a, alt, p, sum). law.joined s v a m alt sum,
          λ has. let c = law.cut s v listed m has in (c.0, c.1, before c.0 (cuts_before c.0 m c.1 c.2), c.2),
        ))
        l)
      where
        before : (a : Alt) → StandsBefore gap.right a → StandsBefore word a
        before AllNull h = tt
        before (At w number to_left to_right lkey rkey) h = let lt = h in omega arith

  -- ---- group by group

  stands : (word : ℕ) (a : Alt) → IsAltIn n s a → StandsAt word a → StandsIn word 0 (length (slice_index_or n.positions word [])) a
  stands word AllNull alt at = absurd at
  stands word (At w number to_left to_right (Some lkey) (Some rkey)) (c, alt) at =
      (at, omega arith, subst (λ z. number < length (slice_index_or n.positions z [])) at (slice_get_within (slice_index_or n.positions w []) number c.disjunct alt.chosen))
  stands word (At w number to_left to_right (Some lkey) None) alt at = absurd alt
  stands word (At w number to_left to_right None rkey) alt at = absurd alt

  at_group : (g : Group) (word : ℕ) (a : Alt) → g.word ≡ word → In g a → StandsAt word a
  at_group g word AllNull e h = absurd h
  at_group g word (At w number to_left to_right lkey rkey) e h = h.0 ∙ e

  module _ (word : ℕ) (gs : List Group) (are : GroupsOfWord n gap word (length (slice_index_or n.positions word [])) [] gs) where
    these : gs ≡ are.more
    these = are.added

    pub group_is : (i : ℕ) (g : Group) → slice_get gs i ≡ Some g → IsGroup n gap g
    group_is i g at = (are.each g (subst (λ z. Contains z g) these (contains_at gs i g at))).0

    pub groups_all : (i : ℕ) (old new : Option ℕ) → length gs ≤ i → Lowers (IsCutSum n s (Among In gs i)) old new → Lowers (IsCutSum n s (StandsAt word)) old new
    groups_all i old new end l =
        sums_as n s (Among In gs i) (StandsAt word) old new
        (λ a alt. (
          λ (j, g, lt, at, h). at_group g word a (are.each g (subst (λ z. Contains z g) these (contains_at gs j g at))).1 h,
          λ at. let r = are.some a ((gap_alt a).0 alt) (stands word a alt at) in among_all In gs i r.0 a end (subst (λ z. Contains z r.0) (sym these) r.1) r.2,
        ))
        l

  -- ---- beginning by beginning

  -- no word is unlinked to the left of a cut
  leaves_none : (g : Group) (a : Alt) → IsAltIn n s a → In g a → LeavesLeft 0 a
  leaves_none g AllNull alt h = absurd h
  leaves_none g (At w number to_left to_right (Some (Between left right llist rlist nulls)) (Some rkey)) (c, alt) h =
      let count = alt.cut.nulls in let here = ap (λ (z : Region). z.nulls) alt.before.2 in omega arith
  leaves_none g (At w number to_left to_right (Some (Whole nulls)) (Some rkey)) (c, alt) h = absurd alt.before
  leaves_none g (At w number to_left to_right (Some lkey) None) alt h = absurd alt
  leaves_none g (At w number to_left to_right None rkey) alt h = absurd alt

  pub begins_all : (g : Group) (bs : List Beginning) → AreBeginnings n gap g 0 bs → (i : ℕ) (old new : Option ℕ) → length bs ≤ i → Lowers (IsCutSum n s (Among (IsEnding gap g) bs i)) old new → Lowers (IsCutSum n s (In g)) old new
  begins_all g bs are i old new end l =
      sums_as n s (Among (IsEnding gap g) bs i) (In g) old new
      (λ a alt. (
        λ (j, b, lt, at, h). h.0,
        λ h. let r = are.some a ((gap_alt a).0 alt, h) (leaves_none g a alt h) in among_all (IsEnding gap g) bs i r.0 a end r.1 (h, r.2),
      ))
      l

  left_is : (g : Group) (b : Beginning) (a : Alt) → BeginsSo gap g b a → left_span a ≡ Some (span_before gap g b)
  left_is g b AllNull h = absurd h
  left_is g b (At w number to_left to_right lkey rkey) h = ap span_in h.1

  pub begin_narrow : SumsDecide n → IsValidKey n.positions n.lists (key_of s) → (g : Group) (b : Beginning) → (a : Alt) × IsIn n gap g a × BeginsSo gap g b a → IsNarrower n s (span_before gap g b)
  begin_narrow law v g b (a, alt, h) = law.left s (span_before gap g b) a v ((gap_alt a).1 alt.0) (left_is g b a h)

  left_has : (g : Group) (b : Beginning) (a : Alt) (x : ℕ) → BeginsSo gap g b a → HasIn n (left_span a) x → HasUnlinked n (span_before gap g b) x
  left_has g b a x h has = subst (λ z. HasIn n z x) (left_is g b a h) has

  pub begin_dead : (g : Group) (b : Beginning) (most : Option ℕ) → IsLeast (HasUnlinked n (span_before gap g b)) None → Lowers (IsCutSum n s (IsEnding gap g b)) most most
  begin_dead g b most none = lowers_none (IsCutSum n s (IsEnding gap g b)) most (λ m (a, alt, h, (x, y, hx, hy, e)). none x (left_has g b a x h.1 hx))

  pub begin_over : (g : Group) (b : Beginning) (most : Option ℕ) (left : ℕ) → IsLeast (HasUnlinked n (span_before gap g b)) (Some left) → IsWithin most left → Lowers (IsCutSum n s (IsEnding gap g b)) most most
  begin_over g b most left least over =
      lowers_same (IsCutSum n s (IsEnding gap g b)) most (λ m (a, alt, h, (x, y, hx, hy, e)). let le = least.1 x (left_has g b a x h.1 hx) in within_more most left m (omega arith) over)

  module _ (g : Group) (b : Beginning) (alts : List Alt) (are : AreExactly alts (λ a. IsAltOfRegion n.positions n.lists (region_of_gap n.lists gap) a × StandsIn g.word g.from g.to a × BeginsSo gap g b a)) where
    pub end_in : (i : ℕ) (a : Alt) → slice_get alts i ≡ Some a → IsAltIn n s a
    end_in i a at = (gap_alt a).1 ((are.each a).0 (contains_at alts i a at)).0

    pub end_left : (left : ℕ) → IsLeast (HasUnlinked n (span_before gap g b)) (Some left) → (i : ℕ) (a : Alt) → slice_get alts i ≡ Some a → IsLeast (HasIn n (left_span a)) (Some left)
    end_left left least i a at = subst (λ z. IsLeast (HasIn n z) (Some left)) (sym (left_is g b a ((are.each a).0 (contains_at alts i a at)).2)) least

    pub ends_all : (i : ℕ) (old new : Option ℕ) → length alts ≤ i → Lowers (IsCutSum n s (Among (λ (u v : Alt). u ≡ v) alts i)) old new → Lowers (IsCutSum n s (IsEnding gap g b)) old new
    ends_all i old new end l =
        sums_as n s (Among (λ (u v : Alt). u ≡ v) alts i) (IsEnding gap g b) old new
        (λ a alt. (
          λ (j, x, lt, at, r). let t = (are.each a).0 (subst (λ z. Contains alts z) r (contains_at alts j x at)) in (t.1, t.2),
          λ h. among_all (λ (u v : Alt). u ≡ v) alts i a a end ((are.each a).1 ((gap_alt a).0 alt, h.0, h.1)) refl,
        ))
        l

-- what was added to nothing
pub from_none : {X : Type 0} (old new : List X) (P : X → Type 0) → old ≡ [] → AddsExactly old new P → AreExactly new P
from_none old new P e x = subst (λ z. AreExactly z P) (sym (x.added ∙ ap (λ z. z ++ x.more) e)) x.exactly

-- ---- the sums of one alternative

module _ (n : Numbering) (a : Alt) (most : Option ℕ) where
  pub end_none : right_span a ≡ None → Lowers (HasSum n a) most most
  end_none e = lowers_none (HasSum n a) most (λ m (x, y, hx, hy, sum). subst (λ z. HasIn n z y) e hy)

  pub end_dead : (t : Span) → right_span a ≡ Some t → IsLeast (HasUnlinked n t) None → Lowers (HasSum n a) most most
  end_dead t e none = lowers_none (HasSum n a) most (λ m (x, y, hx, hy, sum). none y (subst (λ z. HasIn n z y) e hy))

  pub end_sum : (t : Span) (x y : ℕ) → right_span a ≡ Some t → IsLeast (HasIn n (left_span a)) (Some x) → IsLeast (HasUnlinked n t) (Some y) → HasSum n a (x + y)
  end_sum t x y e left right = (x, y, left.0, subst (λ z. HasIn n z y) (sym e) right.0, refl)

  pub end_lowers : (new : Option ℕ) (t : Span) (x y : ℕ) → right_span a ≡ Some t → IsLeast (HasIn n (left_span a)) (Some x) → IsLeast (HasUnlinked n t) (Some y) → Lowers (λ m. m ≡ x + y) most new → Lowers (HasSum n a) most new
  end_lowers new t x y e left right l =
      lowers_by (HasSum n a) most new (x + y) (end_sum t x y e left right)
      (λ m (u, w, hu, hw, sum). let le = left.1 u hu in let re = right.1 w (subst (λ z. HasIn n z w) e hw) in omega arith)
      l

  -- by cases on what was found on the right
  pub end_by : (t : Span) (x : ℕ) (found new : Option ℕ) → right_span a ≡ Some t → IsLeast (HasIn n (left_span a)) (Some x) → IsLeast (HasUnlinked n t) found
      → MatchOption found (new ≡ most) (λ y. Lowers (λ m. m ≡ x + y) most new) → Lowers (HasSum n a) most new
  end_by t x None new e left least same = subst (λ z. Lowers (HasSum n a) most z) (sym same) (end_dead t e least)
  end_by t x (Some y) new e left least l = end_lowers new t x y e left least l

-- a sum is no more than all words of the span
pub end_few : (n : Numbering) (s t : Span) (a : Alt) (x : ℕ) (found : Option ℕ) → SumsDecide n → IsValidKey n.positions n.lists (key_of s) → IsAltIn n s a → s.right < 2 ^ 32 → right_span a ≡ Some t
    → IsLeast (HasIn n (left_span a)) (Some x) → IsLeast (HasUnlinked n t) found → IfSome found (λ y. x + y < 2 ^ 32)
end_few n s t a x None law v is short e left least = tt
end_few n s t a x (Some y) law v is short e left least =
    let few = law.few s (x + y) (law.joined s v a (x + y) is (end_sum n a None t x y e left least)) in omega arith

-- ---- the table

-- a span more in the table
pub table_added : (n : Numbering) (s : Span) (least : Option ℕ) (old new : List (Span × Option ℕ)) → AreLeast n old → IsLeast (HasUnlinked n s) least
    → ((t : Span) (x : Option ℕ) → Contains new (t, x) → Contains old (t, x) ⊎ ((t ≡ s) × (x ≡ least))) → AreLeast n new
table_added n s least old new are is added t x has =
    elim (added t x has) [
      | inl was ↦ are t x was
      | inr (same, e) ↦ subst (λ z. IsLeast (HasUnlinked n z) x) (sym same) (subst (λ z. IsLeast (HasUnlinked n s) z) (sym e) is)
    ]
