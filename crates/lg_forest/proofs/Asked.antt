-- The table grows by what is asked for.
use Rattle.std.proofs.Common.{◌≡◌, ◌≢◌, ◌↔◌, ℕ, suc, ◌<◌, ◌≤◌, ◌⊎◌, inl, inr, refl, sym, ap, ◌∙◌, subst, List, [], ◌∷◌, ◌++◌, Option, Some, None, IfSome, IfOk, OnErr, OnOk, Contains, slice_get, take, length, Bool, true, false, not, true≢false, IsTrue, arith}
use Rattle.std.proofs.lemmas.List.{take_all}
use Rattle.std.proofs.lemmas.Option.{slice_get_within, get_or_from_slice_get}
use Rattle.std.proofs.Math.Seq.{take-suc}
use Rattle.std.specs.declared.result.Result.{Result}
use Rattle.std.specs.declared.result.Result.TheVariants.{Ok, Err}
use Rattle.std.proofs.lemmas.List.Elements.{Contains-append_left, Contains-push, Contains-push_cases}
use Rattle.std.specs.Map.{keys_of}
use Rattle.lg_region.specs.Fronts.{Numbering}
use Rattle.lg_region.specs.Keys.{IsValidKey, IsAltOf}
use Rattle.lg_region.specs.declared.key.Key.{Key}
use Rattle.lg_region.specs.declared.alternative.Alt.{Alt}
use Rattle.lg_forest.specs.Demands.{HasLinkageUnder, AsksNext, Reaches, left_key, right_key}
use Rattle.lg_forest.specs.Demands.AsksNext.{left, right}
use Rattle.lg_forest.specs.Demands.Reaches.{itself, onward}
use Rattle.lg_forest.specs.declared.search.alternatives.Last.{Last}
use Rattle.lg_forest.specs.Entries.{IsEntered}
use Rattle.lg_forest.specs.Forests.{AreLive}
use Rattle.lg_forest.specs.Search.{KeysAreDecided, IsTable, IsLast, Asked, AsksOf, key_width, part_bound}
use Rattle.lg_forest.specs.Search.AsksOf.{left as asks_left, right as asks_right}
use Rattle.lg_forest.proofs.Once.{contains_at, contains_here, contains_key, contains_map, contains_none}

abbrev Entries : Type 0
Entries = List (Key × List Alt)

-- what was asked for first is reached first
pub reach_first : (n : Numbering) (k m p : Key) → AsksNext n.positions n.lists k m → Reaches n.positions n.lists m p → Reaches n.positions n.lists k p
reach_first n k _ _ a (itself m) = onward k k m (itself k) a
reach_first n k _ _ a (onward m p q r b) = onward k p q (reach_first n k m p a r) b

-- what a table has, it has with all that is reached
pub reach_in : (n : Numbering) (es : Entries) (k p : Key) → IsTable n es → Reaches n.positions n.lists k p → Contains (keys_of es) k → Contains (keys_of es) p
reach_in n es _ _ t (itself k) has = has
reach_in n es _ _ t (onward k m p r a) has = t.closed m p (reach_in n es k m t r has) a

-- a key that is asked for is narrower
pub part_narrow : (n : Numbering) (o : Option Key) (k : Key) (w : ℕ) → IfSome o (IsValidKey n.positions n.lists) → part_bound n.positions o ≤ w → o ≡ Some k → IsValidKey n.positions n.lists k × (key_width n.positions k < w)
part_narrow n o k w v b e =
    let s = ap (part_bound n.positions) e in
    (subst (λ z. IfSome z (IsValidKey n.positions n.lists)) e v, omega arith)

pub next_narrow : (n : Numbering) (k m : Key) → KeysAreDecided n → IsValidKey n.positions n.lists k → AsksNext n.positions n.lists k m → IsValidKey n.positions n.lists m × (key_width n.positions m < key_width n.positions k)
next_narrow n k m d v (left a next is e) =
    let b = d.below k a v is in part_narrow n (left_key a) next (key_width n.positions k) (d.valid k a v is).left (omega arith) e
next_narrow n k m d v (right a next is e h) =
    let b = d.below k a v is in part_narrow n (right_key a) next (key_width n.positions k) (d.valid k a v is).right (omega arith) e

reach_narrow : (n : Numbering) (k p : Key) → KeysAreDecided n → Reaches n.positions n.lists k p → IsValidKey n.positions n.lists k → IsValidKey n.positions n.lists p × (key_width n.positions p ≤ key_width n.positions k)
reach_narrow n _ _ d (itself k) v = (v, omega arith)
reach_narrow n _ _ d (onward k m p r a) v =
    let x = reach_narrow n k m d r v in
    let y = next_narrow n m p d x.0 a in
    let lt = x.1 in
    let gt = y.1 in
    (y.0, omega arith)

-- no key is asked for from itself
pub not_there : (n : Numbering) (k : Key) (old new : Entries) → KeysAreDecided n → IsValidKey n.positions n.lists k → (Contains (keys_of old) k → ⊥) → Asked n (AsksNext n.positions n.lists k) old new → Contains (keys_of new) k → ⊥
not_there n k old new d v out asked has =
    elim (asked.fresh k has) [
      | inl h ↦ out h
      | inr r ↦ (let x = next_narrow n k r.0 d v r.1 in let y = reach_narrow n r.0 k d r.2 x.0 in let lt = x.1 in let gt = y.1 in omega arith)
    ]

-- nothing new
pub asked_same : (n : Numbering) (Kind : Key → Type 0) (es : Entries) → IsTable n es → ((k : Key) → Kind k → Contains (keys_of es) k) → Asked n Kind es es
asked_same n Kind es t there = record { is_table = t; kept = λ k h. h; there = there; fresh = λ k h. inl h }

-- two kinds, one after the other
pub asked_then : (n : Numbering) (P Q R : Key → Type 0) (a b c : Entries) → ((k : Key) → P k → R k) → ((k : Key) → Q k → R k) → ((k : Key) → R k → P k ⊎ Q k) → Asked n P a b → Asked n Q b c → Asked n R a c
asked_then n P Q R a b c from_p from_q to x y = record {
  is_table = y.is_table;
  kept = λ k h. y.kept k (x.kept k h);
  there = λ k h. elim (to k h) [ inl p ↦ y.kept k (x.there k p) | inr q ↦ y.there k q ];
  fresh = λ k h. elim (y.fresh k h) [
    | inl g ↦ elim (x.fresh k g) [ inl f ↦ inl f | inr r ↦ inr (r.0, from_p r.0 r.1, r.2) ]
    | inr r ↦ inr (r.0, from_q r.0 r.1, r.2)
  ];
}

-- the same kind in other words
pub asked_as : (n : Numbering) (P Q : Key → Type 0) (a b : Entries) → ((k : Key) → P k → Q k) → ((k : Key) → Q k → P k) → Asked n P a b → Asked n Q a b
asked_as n P Q a b from to x = record {
  is_table = x.is_table;
  kept = x.kept;
  there = λ k h. x.there k (to k h);
  fresh = λ k h. elim (x.fresh k h) [ inl g ↦ inl g | inr r ↦ inr (r.0, from r.0 r.1, r.2) ];
}

-- the keys after one is added
keys_cases : (es new : Entries) (k : Key) (alts : List Alt) (x : Key) → IsEntered es k alts new → Contains (keys_of new) x → Contains (keys_of es) x ⊎ (k ≡ x)
keys_cases es new k alts x is has = (let v = contains_key new x has in elim ((is.entries x v.0).0 v.1) [ inl was ↦ inl (contains_map (λ (e : Key × List Alt). e.0) es (x, v.0) was) | inr e ↦ inr (sym e.0) ])

pub keys_later : (es new : Entries) (k : Key) (alts : List Alt) (x : Key) → IsEntered es k alts new → Contains (keys_of es) x → Contains (keys_of new) x
keys_later es new k alts x is has = (let v = contains_key es x has in contains_map (λ (e : Key × List Alt). e.0) new (x, v.0) ((is.entries x v.0).1 (inl v.1)))

keys_last : (es new : Entries) (k : Key) (alts : List Alt) → IsEntered es k alts new → Contains (keys_of new) k
keys_last es new k alts is = contains_map (λ (e : Key × List Alt). e.0) new (k, alts) ((is.entries k alts).1 (inr (refl, refl)))

-- a key is added when all that it asks for is in the table
pub asked_added : (n : Numbering) (k : Key) (alts : List Alt) (old mid new : Entries) → IsValidKey n.positions n.lists k → AreLive n.positions n.lists k alts → Asked n (AsksNext n.positions n.lists k) old mid → IsEntered mid k alts new → Asked n (λ m. m ≡ k) old new
asked_added n k alts old mid new v live x is = record {
  is_table = record {
    valid = λ m h. elim (keys_cases mid new k alts m is h) [ inl g ↦ x.is_table.valid m g | inr e ↦ subst (λ z. IsValidKey n.positions n.lists z) e v ];
    live = λ m ms h. elim ((is.entries m ms).0 h) [
      | inl g ↦ x.is_table.live m ms g
      | inr e ↦ subst (λ z. AreLive n.positions n.lists z ms) (sym e.0) (subst (λ z. AreLive n.positions n.lists k z) (sym e.1) live)
    ];
    closed = λ m p h a. keys_later mid new k alts p is (elim (keys_cases mid new k alts m is h) [
      | inl g ↦ x.is_table.closed m p g a
      | inr e ↦ x.there p (subst (λ z. AsksNext n.positions n.lists z p) (sym e) a)
    ]);
  };
  kept = λ m h. keys_later mid new k alts m is (x.kept m h);
  there = λ m e. subst (λ z. Contains (keys_of new) z) (sym e) (keys_last mid new k alts is);
  fresh = λ m h. elim (keys_cases mid new k alts m is h) [
    | inl g ↦ elim (x.fresh m g) [ inl f ↦ inl f | inr r ↦ inr (k, refl, reach_first n k r.0 m r.1 r.2) ]
    | inr e ↦ inr (k, refl, subst (λ z. Reaches n.positions n.lists k z) e (itself k))
  ];
}

-- a key has a linkage exactly where it has live alternatives
pub live_decides : (n : Numbering) (k : Key) (alts : List Alt) (empty : Bool) → KeysAreDecided n → IsValidKey n.positions n.lists k → AreLive n.positions n.lists k alts → (IsTrue empty ↔ (alts ≡ [])) → IsTrue (not empty) ↔ HasLinkageUnder n.positions n.lists k
live_decides n k alts true d v live is = (
  (λ t. absurd (true≢false (sym t))),
  (λ h. let a = (d.decides k v).0 h in absurd (contains_none a.0 (subst (λ z. Contains z a.0) (is.0 refl) ((live.exactly a.0).1 (a.1, a.2))))),
)
live_decides n k [] false d v live is = absurd (true≢false (sym (is.1 refl)))
live_decides n k (a ∷ alts) false d v live is = ((λ t. (d.decides k v).1 (let x = (live.exactly a).0 (contains_here a alts) in (a, x.0, x.1))), (λ h. refl))

-- the same of a table that tells whether there are some
pub live_found : (n : Numbering) (k : Key) (es : Entries) (live : Bool) → KeysAreDecided n → IsTable n es → IsValidKey n.positions n.lists k → (alts : List Alt) × Contains es (k, alts) × (IsTrue live ↔ (alts ≢ [])) → IsTrue live ↔ HasLinkageUnder n.positions n.lists k
live_found n k es live d table v ([], has, is) = (
  (λ t. absurd (is.0 t refl)),
  (λ h. (let a = (d.decides k v).0 h in absurd (contains_none a.0 (((table.live k [] has).exactly a.0).1 (a.1, a.2))))),
)
live_found n k es live d table v (a ∷ alts, has, is) = (
  (λ t. (d.decides k v).1 (let x = ((table.live k (a ∷ alts) has).exactly a).0 (contains_here a alts) in (a, x.0, x.1))),
  (λ h. is.1 (λ e. (let bad : ⊥ = cc in bad))),
)

pub ok_as : {T E : Type 0} (r : Result T E) (P Q : T → Type 0) → ((x : T) → P x → Q x) → IfOk r P → IfOk r Q
ok_as (Ok x) P Q f h = f x h
ok_as (Err e) P Q f h = tt

pub on_ok_as : {T E : Type 0} (r : Result T E) (P Q : Type 0) → (P → Q) → OnOk r P → OnOk r Q
on_ok_as (Ok x) P Q f h = f h
on_ok_as (Err e) P Q f h = tt

pub on_err_any : {T E : Type 0} (r : Result T E) (P : Type 0) → P → OnErr r P
on_err_any (Ok x) P p = tt
on_err_any (Err e) P p = p

-- what the alternatives before a place ask for
abbrev pub AsksBy : Numbering → List Alt → ℕ → Key → Type 0
AsksBy n alts i k = (a : Alt) × Contains (take i alts) a × AsksOf n a k

-- one alternative more
pub asked_more : (n : Numbering) (alts : List Alt) (i j : ℕ) (a : Alt) (old mid new : Entries) → slice_get alts i ≡ Some a → j ≡ suc i → Asked n (AsksBy n alts i) old mid → Asked n (AsksOf n a) mid new → Asked n (AsksBy n alts j) old new
asked_more n alts i j a old mid new at next x y =
    let lt = slice_get_within alts i a at in
    let e : take j alts ≡ take i alts ++ a ∷ [] = ap (λ z. take z alts) next ∙ take-suc alts i a lt ∙ ap (λ z. take i alts ++ z ∷ []) (get_or_from_slice_get alts i a a at) in
    asked_then n (AsksBy n alts i) (AsksOf n a) (AsksBy n alts j) old mid new
    (λ k h. (h.0, subst (λ z. Contains z h.0) (sym e) (Contains-append_left (take i alts) (a ∷ []) h.0 h.1), h.2))
    (λ k h. (a, subst (λ z. Contains z a) (sym e) (Contains-push (take i alts) a), h))
    (λ k h. elim (Contains-push_cases (take i alts) a h.0 (subst (λ z. Contains z h.0) e h.1)) [
      | inl b ↦ inl (h.0, b, h.2)
      | inr f ↦ inr (subst (λ z. AsksOf n z k) (sym f) h.2)
    ])
    x y

asks_next : (n : Numbering) (k : Key) (a : Alt) (m : Key) → IsAltOf n.positions n.lists k a → AsksOf n a m → AsksNext n.positions n.lists k m
asks_next n k a m is (asks_left next e) = left a next is e
asks_next n k a m is (asks_right next e h) = right a next is e h

asks_by : (n : Numbering) (k m : Key) → AsksNext n.positions n.lists k m → (a : Alt) × IsAltOf n.positions n.lists k a × AsksOf n a m
asks_by n k m (left a next is e) = (a, is, asks_left next e)
asks_by n k m (right a next is e h) = (a, is, asks_right next e h)

-- all alternatives of a key
pub asked_all : (n : Numbering) (k : Key) (alts : List Alt) (i : ℕ) (old new : Entries) → ((a : Alt) → Contains alts a ↔ IsAltOf n.positions n.lists k a) → length alts ≤ i → Asked n (AsksBy n alts i) old new → Asked n (AsksNext n.positions n.lists k) old new
asked_all n k alts i old new exactly end x =
    let e = take_all i alts end in
    asked_as n (AsksBy n alts i) (AsksNext n.positions n.lists k) old new
    (λ m h. asks_next n k h.0 m ((exactly h.0).0 (subst (λ z. Contains z h.0) e h.1)) h.2)
    (λ m h. let r = asks_by n k m h in (r.0, subst (λ z. Contains z r.0) (sym e) ((exactly r.0).1 r.1), r.2))
    x

-- an alternative asks for its left key alone where that has no linkage
pub asked_left : (n : Numbering) (a : Alt) (old new : Entries) → (IfSome (left_key a) (HasLinkageUnder n.positions n.lists) → ⊥) → Asked n (λ k. left_key a ≡ Some k) old new → Asked n (AsksOf n a) old new
asked_left n a old new dead x = asked_as n (λ k. left_key a ≡ Some k) (AsksOf n a) old new (λ k e. asks_left k e) only x
  where
    only : (k : Key) → AsksOf n a k → left_key a ≡ Some k
    only _ (asks_left k e) = e
    only _ (asks_right k e h) = absurd (dead h)

-- and for both where the left one has one
pub asked_both : (n : Numbering) (a : Alt) (old mid new : Entries) → IfSome (left_key a) (HasLinkageUnder n.positions n.lists) → Asked n (λ k. left_key a ≡ Some k) old mid → Asked n (λ k. right_key a ≡ Some k) mid new → Asked n (AsksOf n a) old new
asked_both n a old mid new live x y =
    asked_then n (λ k. left_key a ≡ Some k) (λ k. right_key a ≡ Some k) (AsksOf n a) old mid new (λ k e. asks_left k e) (λ k e. asks_right k e live) cases x y
  where
    cases : (k : Key) → AsksOf n a k → (left_key a ≡ Some k) ⊎ (right_key a ≡ Some k)
    cases _ (asks_left k e) = inl e
    cases _ (asks_right k e h) = inr e

-- the alternatives of a key, from an equal list
pub exact : (n : Numbering) (k : Key) (alts items : List Alt) → items ≡ alts → ((a : Alt) → Contains alts a ↔ IsAltOf n.positions n.lists k a) → (a : Alt) → Contains items a ↔ IsAltOf n.positions n.lists k a
exact n k alts items e exactly = subst (λ z. (a : Alt) → Contains z a ↔ IsAltOf n.positions n.lists k a) (sym e) exactly

pub alt_at : (n : Numbering) (k : Key) (alts : List Alt) (i : ℕ) (a : Alt) → ((a : Alt) → Contains alts a ↔ IsAltOf n.positions n.lists k a) → slice_get alts i ≡ Some a → IsAltOf n.positions n.lists k a
alt_at n k alts i a exactly at = (exactly a).0 (contains_at alts i a at)

some_as : {A : Type 0} (o : Option A) (P Q : A → Type 0) → ((x : A) → P x → Q x) → IfSome o P → IfSome o Q
some_as None P Q f h = tt
some_as (Some x) P Q f h = f x h

-- what is known of the last key stays right
pub last_kept : (n : Numbering) (old new : Entries) (last : Last) → ((k : Key) → Contains (keys_of old) k → Contains (keys_of new) k) → IsLast n old last → IsLast n new last
last_kept n old new last more is = record { live = is.live; there = some_as last.key (Contains (keys_of old)) (Contains (keys_of new)) more is.there }

pub both_ok : {T E : Type 0} (r : Result T E) (P Q R : T → Type 0) → ((x : T) → P x → Q x → R x) → IfOk r P → IfOk r Q → IfOk r R
both_ok (Ok x) P Q R f p q = f x p q
both_ok (Err e) P Q R f p q = tt
