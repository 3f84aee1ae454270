-- Alternatives of a key taken part by part.
use Rattle.std.proofs.Common.{◌≡◌, ◌↔◌, ℕ, zero, suc, ◌+◌, ◌<◌, ◌≤◌, ◌⊎◌, inl, inr, refl, sym, ap, ◌∙◌, subst, List, [], ◌∷◌, ◌++◌, length, Option, Some, IfSome, Contains, slice_get, get_or, OnOk, arith, append_assoc, append-nil}
use Rattle.std.proofs.lemmas.Bool.{cases_lt}
use Rattle.std.proofs.lemmas.Option.{same_Some, slice_get_within, slice_get-get_or}
use Rattle.std.specs.declared.result.Result.{Result}
use Rattle.std.specs.declared.result.Result.TheVariants.{Ok, Err}
use Rattle.std.proofs.lemmas.List.Elements.{Contains-append_left, Contains-append_right, Contains-append_cases}
use Rattle.lg_region.specs.Fronts.{AreOnce, Numbering}
use Rattle.lg_region.specs.Keys.{IsAltOf, IsAltOfRegion}
use Rattle.lg_region.specs.Groups.{StandsIn, region_of_gap}
use Rattle.lg_region.specs.Openings.{BeginsSo, IsIn, IsKeyOfGap, left_of}
use Rattle.lg_region.specs.Keys.{IsValidKey}
use Rattle.lg_region.specs.Ways.{AddsExactly, AreExactly}
use Rattle.lg_region.specs.declared.key.Key.{Key}
use Rattle.lg_region.specs.declared.alternative.Alt.{Alt}
use Rattle.lg_region.specs.declared.alternative.Alt.TheVariants.{AllNull, Split as At}
use Rattle.lg_region.specs.declared.group.Gap.{Gap}
use Rattle.lg_region.specs.declared.group.Group.{Group}
use Rattle.lg_region.specs.declared.opening.Beginning.{Beginning}
use Rattle.lg_forest.specs.Demands.{left_key}
use Rattle.lg_forest.specs.Forests.{IsLive}
use Rattle.lg_forest.specs.Halves.{AddsLive, AsksAmong, IsEnding}
use Rattle.lg_forest.specs.Search.{Asked, IsTable, KeysAreDecided, key_width}
use Rattle.lg_forest.specs.Demands.AsksNext.{left as next_left}
use Rattle.lg_forest.proofs.Asked.{asked_as, asked_then, next_narrow}
use Rattle.lg_forest.proofs.Once.{contains_at, contains_none, once_none}

-- ---- lists that have values once

pub append_cases : {X : Type 0} (xs ys : List X) (i : ℕ) (x : X) → slice_get (xs ++ ys) i ≡ Some x → (slice_get xs i ≡ Some x) ⊎ ((j : ℕ) × (i ≡ length xs + j) × (slice_get ys j ≡ Some x))
append_cases [] ys i x e = inr (i, omega arith, e)
append_cases (z ∷ xs) ys zero x e = inl e
append_cases (z ∷ xs) ys (suc i) x e = elim (append_cases xs ys i x e) [ inl h ↦ inl h | inr h ↦ (let b = h.1 in inr (h.0, omega arith, h.2)) ]

once_append : {X : Type 0} (xs ys : List X) → AreOnce xs → AreOnce ys → ((x : X) → Contains xs x → Contains ys x → ⊥) → AreOnce (xs ++ ys)
once_append xs ys ox oy d i j x e f =
    elim (append_cases xs ys i x e) [
      | inl h ↦ elim (append_cases xs ys j x f) [
        | inl k ↦ ox i j x h k
        | inr k ↦ absurd (d x (contains_at xs i x h) (contains_at ys k.0 x k.2))
      ]
      | inr h ↦ elim (append_cases xs ys j x f) [
        | inl k ↦ absurd (d x (contains_at xs j x k) (contains_at ys h.0 x h.2))
        | inr k ↦ (let s = oy h.0 k.0 x h.2 k.2 in let a = h.1 in let b = k.1 in omega arith)
      ]
    ]

pub adds_then : {X : Type 0} (a b c : List X) (P Q R : X → Type 0) → AddsExactly a b P → AddsExactly b c Q → ((x : X) → P x → Q x → ⊥) → ((x : X) → R x ↔ (P x ⊎ Q x)) → AddsExactly a c R
adds_then a b c P Q R p q d e = record {
  more = p.more ++ q.more;
  added = q.added ∙ ap (λ z. z ++ q.more) p.added ∙ append_assoc a p.more q.more;
  exactly = record {
    each = λ x. (
      λ h. (e x).1 (elim (Contains-append_cases p.more q.more x h) [ inl g ↦ inl ((p.exactly.each x).0 g) | inr g ↦ inr ((q.exactly.each x).0 g) ]),
      λ r. elim ((e x).0 r) [ inl g ↦ Contains-append_left p.more q.more x ((p.exactly.each x).1 g) | inr g ↦ Contains-append_right p.more q.more x ((q.exactly.each x).1 g) ],
    );
    once = once_append p.more q.more p.exactly.once q.exactly.once (λ x g h. d x ((p.exactly.each x).0 g) ((q.exactly.each x).0 h));
  };
}

pub adds_none : {X : Type 0} (xs : List X) (P : X → Type 0) → ((x : X) → P x → ⊥) → AddsExactly xs xs P
adds_none xs P none = record { more = []; added = sym (append-nil xs); exactly = record { each = λ x. (λ h. absurd (contains_none x h), λ p. absurd (none x p)); once = once_none } }

pub adds_one : {X : Type 0} (xs ys : List X) (x : X) → ys ≡ xs ++ x ∷ [] → AddsExactly xs ys (λ z. x ≡ z)
adds_one xs ys x e = record {
  more = x ∷ [];
  added = e;
  exactly = record {
    each = λ z. (
      λ (k, l, at). (let zeroth : k ≡ 0 = omega arith in first x z k l at zeroth),
      λ q. (zero, omega arith, q),
    );
    once = λ i j z f g. let a = slice_get_within (x ∷ []) i z f in let b = slice_get_within (x ∷ []) j z g in omega arith;
  };
}
  where
    first : {X : Type 0} (x z : X) (k : ℕ) → (l : k < 1) → Rattle.std.proofs.Common.get_or (x ∷ []) k z ≡ z → k ≡ 0 → x ≡ z
    first x z zero l at e = at
    first x z (suc k) l at e = absurd (omega arith)

pub adds_as : {X : Type 0} (a b : List X) (P Q : X → Type 0) → ((x : X) → P x ↔ Q x) → AddsExactly a b P → AddsExactly a b Q
adds_as a b P Q h p = record { more = p.more; added = p.added; exactly = record { each = λ x. (λ c. (h x).0 ((p.exactly.each x).0 c), λ q. (p.exactly.each x).1 ((h x).1 q)); once = p.exactly.once } }

-- ---- among the first of a list

-- one of the first i has R
abbrev pub Among : {X A : Type 0} → (X → A → Type 0) → List X → ℕ → A → Type 0
Among {X} R xs i a = (j : ℕ) × (x : X) × (j < i) × (slice_get xs j ≡ Some x) × R x a

module _ {X A : Type 0} (R : X → A → Type 0) (xs : List X) where
  pub among_none : (a : A) → Among R xs 0 a → ⊥
  among_none a (j, x, l, at, r) = omega arith

  pub among_next : (i next : ℕ) (x : X) → next ≡ suc i → slice_get xs i ≡ Some x → (a : A) → Among R xs next a ↔ (Among R xs i a ⊎ R x a)
  among_next i next x e at a = (
    λ (j, y, l, at', r). elim (cases_lt j i) [
      | inl h ↦ inl (j, y, h, at', r)
      | inr h ↦ (let same : j ≡ i = omega arith in inr (subst (λ z. R z a) (same_Some y x (sym at' ∙ ap (slice_get xs) same ∙ at)) r))
    ],
    λ h. elim h [
      | inl (j, y, l, at', r) ↦ (j, y, omega arith, at', r)
      | inr r ↦ (i, x, omega arith, at, r)
    ],
  )

  pub among_apart : ((i j : ℕ) (x y : X) (a : A) → slice_get xs i ≡ Some x → slice_get xs j ≡ Some y → R x a → R y a → i ≡ j) → (i : ℕ) (x : X) → slice_get xs i ≡ Some x → (a : A) → Among R xs i a → R x a → ⊥
  among_apart apart i x at a (j, y, l, at', r) s = let e = apart i j x y a at at' s r in omega arith

  pub among_all : (i : ℕ) (x : X) (a : A) → length xs ≤ i → Contains xs x → R x a → Among R xs i a
  among_all i x a l has r = let p = Rattle.lg_forest.proofs.Once.place_of xs x has in let w = slice_get_within xs p.0 x p.1 in (p.0, x, omega arith, p.1, r)

-- ---- what is asked for

pub asked_start : (n : Numbering) (K : Key → Type 0) (es : List (Key × List Alt)) → IsTable n es → ((k : Key) → K k → ⊥) → Asked n K es es
asked_start n K es is none = record { is_table = is; kept = λ k h. h; there = λ k h. absurd (none k h); fresh = λ k h. inl h }

module _ (n : Numbering) (key : Key) (P Q R : Alt → Type 0) (e : (a : Alt) → R a ↔ (P a ⊎ Q a)) where
  pub asked_parts : (old mid new : List (Key × List Alt)) → Asked n (AsksAmong n key P) old mid → Asked n (AsksAmong n key Q) mid new → Asked n (AsksAmong n key R) old new
  asked_parts old mid new x y =
      asked_then n (AsksAmong n key P) (AsksAmong n key Q) (AsksAmong n key R) old mid new
      (λ k (a, is, p, asks). (a, is, (e a).1 (inl p), asks))
      (λ k (a, is, q, asks). (a, is, (e a).1 (inr q), asks))
      (λ k (a, is, r, asks). elim ((e a).0 r) [ inl p ↦ inl (a, is, p, asks) | inr q ↦ inr (a, is, q, asks) ])
      x y

  pub live_parts : (old mid new : List Alt) → ((a : Alt) → P a → Q a → ⊥) → AddsLive n key P old mid → AddsLive n key Q mid new → AddsLive n key R old new
  live_parts old mid new d x y =
      adds_then old mid new (λ a. IsAltOf n.positions n.lists key a × P a × IsLive n.positions n.lists a) (λ a. IsAltOf n.positions n.lists key a × Q a × IsLive n.positions n.lists a) (λ a. IsAltOf n.positions n.lists key a × R a × IsLive n.positions n.lists a) x y
      (λ a p q. d a p.1 q.1)
      (λ a. (
        λ (is, r, live). elim ((e a).0 r) [ inl p ↦ inl (is, p, live) | inr q ↦ inr (is, q, live) ],
        λ h. elim h [ inl (is, p, live) ↦ (is, (e a).1 (inl p), live) | inr (is, q, live) ↦ (is, (e a).1 (inr q), live) ],
      ))

module _ (n : Numbering) (key : Key) (P Q : Alt → Type 0) (e : (a : Alt) → IsAltOf n.positions n.lists key a → P a ↔ Q a) where
  pub asked_same : (old new : List (Key × List Alt)) → Asked n (AsksAmong n key P) old new → Asked n (AsksAmong n key Q) old new
  asked_same old new x = asked_as n (AsksAmong n key P) (AsksAmong n key Q) old new (λ k (a, is, p, asks). (a, is, (e a is).0 p, asks)) (λ k (a, is, q, asks). (a, is, (e a is).1 q, asks)) x

-- ---- beginnings

pub ending_left : (gap : Gap) (g : Group) (b : Beginning) (a : Alt) → BeginsSo gap g b a → left_key a ≡ Some (left_of gap g b)
ending_left gap g b AllNull h = absurd h
ending_left gap g b (At w number tl tr lk rk) h = h.1

pub begins_same : (gap : Gap) (g : Group) (b b' : Beginning) (a : Alt) → BeginsSo gap g b a → BeginsSo gap g b' a → b ≡ b'
begins_same gap g b b' AllNull h h' = absurd h
begins_same gap g b b' (At w number tl tr lk rk) h h' =
    let keys : ◌≡◌ {A = Option Key} (Some (left_of gap g b)) (Some (left_of gap g b')) = sym h.1 ∙ h'.1 in
    let near : b.way.near ≡ b'.way.near = cc in
    let far : b.way.far ≡ b'.way.far = cc in
    let nulls : b.nulls ≡ b'.nulls = cc in
    let joint = sym h.0 ∙ h'.0 in
    λ i. record { nulls = nulls i; way = record { joint = joint i; near = near i; far = far i } }

pub begins_apart : (gap : Gap) (g : Group) (bs : List Beginning) → AreOnce bs → (i j : ℕ) (b b' : Beginning) (a : Alt) → slice_get bs i ≡ Some b → slice_get bs j ≡ Some b' → IsEnding gap g b a → IsEnding gap g b' a → i ≡ j
begins_apart gap g bs once i j b b' a e f h h' = once i j b e (f ∙ ap Some (sym (begins_same gap g b b' a h.1 h'.1)))

pub alt_in : (n : Numbering) (key : Key) (gap : Gap) (a : Alt) → IsKeyOfGap key gap → IsAltOfRegion n.positions n.lists (region_of_gap n.lists gap) a → IsAltOf n.positions n.lists key a
alt_in n key gap a e h = subst (λ z. IsAltOf n.positions n.lists z a) (sym e) h

pub alt_out : (n : Numbering) (key : Key) (gap : Gap) (a : Alt) → IsKeyOfGap key gap → IsAltOf n.positions n.lists key a → IsAltOfRegion n.positions n.lists (region_of_gap n.lists gap) a
alt_out n key gap a e h = subst (λ z. IsAltOf n.positions n.lists z a) e h

pub left_valid : (n : Numbering) (key : Key) (gap : Gap) (g : Group) (b : Beginning) (lkey : Key) → KeysAreDecided n → IsValidKey n.positions n.lists key → IsKeyOfGap key gap → lkey ≡ left_of gap g b → (a : Alt) × IsIn n gap g a × BeginsSo gap g b a
    → IsValidKey n.positions n.lists lkey × (key_width n.positions lkey < key_width n.positions key)
left_valid n key gap g b lkey d v is e (a, i, h) = next_narrow n key lkey d v (next_left a lkey (alt_in n key gap a is i.0) (ending_left gap g b a h ∙ ap Some (sym e)))

-- what was added to nothing
pub from_none : {X : Type 0} (old new : List X) (P : X → Type 0) → old ≡ [] → AddsExactly old new P → AreExactly new P
from_none old new P e x = subst (λ z. AreExactly z P) (sym (x.added ∙ ap (λ z. z ++ x.more) e)) x.exactly

-- those of the first of a list that have P, and one more
module _ {X : Type 0} (P : X → Type 0) (xs : List X) (i next : ℕ) (x : X) (q : next ≡ suc i) (at : slice_get xs i ≡ Some x) (once : AreOnce xs) where
  abbrev Here : X → Type 0
  Here z = P z × Among (λ (u v : X). u ≡ v) xs i z

  abbrev There : X → Type 0
  There z = P z × Among (λ (u v : X). u ≡ v) xs next z

  pub one_kept : (old mid new : List X) → P x → new ≡ mid ++ x ∷ [] → AddsExactly old mid (λ z. P z × Among (λ (u v : X). u ≡ v) xs i z) → AddsExactly old new (λ z. P z × Among (λ (u v : X). u ≡ v) xs next z)
  one_kept old mid new l e adds =
      let step = among_next (λ (u v : X). u ≡ v) xs i next x q at in
      adds_then old mid new Here (λ z. x ≡ z) There adds (adds_one mid new x e)
      (λ z (l', (j, y, lt, at', r)) same. let p = once j i y at' (at ∙ ap Some (same ∙ sym r)) in omega arith)
      (λ z. (
        λ (l', m). elim ((step z).0 m) [ inl m' ↦ inl (l', m') | inr same ↦ inr same ],
        λ h. elim h [ inl (l', m) ↦ (l', (step z).1 (inl m)) | inr same ↦ (subst P same l, (step z).1 (inr same)) ],
      ))

  pub one_dropped : (old mid : List X) → (P x → ⊥) → AddsExactly old mid (λ z. P z × Among (λ (u v : X). u ≡ v) xs i z) → AddsExactly old mid (λ z. P z × Among (λ (u v : X). u ≡ v) xs next z)
  one_dropped old mid dead adds =
      let step = among_next (λ (u v : X). u ≡ v) xs i next x q at in
      adds_as old mid Here There
      (λ z. (
        λ (l', m). (l', (step z).1 (inl m)),
        λ (l', m). elim ((step z).0 m) [ inl m' ↦ (l', m') | inr same ↦ absurd (dead (subst P (sym same) l')) ],
      )) adds

-- ---- groups

abbrev pub In : Group → Alt → Type 0
In g a = StandsIn g.word g.from g.to a

-- ---- what a loop tells

pub at_of : {X : Type 0} (xs : List X) (i : ℕ) (x : X) → i < length xs → x ≡ get_or xs i x → slice_get xs i ≡ Some x
at_of xs i x lt e = slice_get-get_or xs i x lt ∙ ap Some (sym e)

pub ok_any : {T E : Type 0} (r : Result T E) (Q : Type 0) → Q → OnOk r Q
ok_any (Ok x) Q q = q
ok_any (Err e) Q q = tt
