-- The ways on of two lists.
use Rattle.std.proofs.Common.{◌≡◌, ℕ, ◌≤◌, Bool, true, false, cond, List, [], ◌∷◌, ◌++◌, length, map, take, refl, sym, ◌∙◌, ap, subst, Option, Some, None, IsSome, ◌⊎◌, inl, inr, Contains, arith, append_assoc, append-nil}
use Rattle.std.specs.List.{slice_get}
use Rattle.std.proofs.lemmas.Option.{same_Some}
use Rattle.lg_gram.specs.Connectors.{Connector, Match}
use Rattle.lg_gram.specs.declared.disjunct.Disjunct.{Disjunct}
use Rattle.lg_region.specs.Cuts.{GoesOn, IsCutAt}
use Rattle.lg_region.specs.Fronts.{AreListsOf, AreOnce, list_of}
use Rattle.lg_region.specs.Ways.{AreExactly, AddsWays, HasWay, IsEndOf, IsWayOf, rests_of, way_of, joined_ways}
use Rattle.lg_region.specs.declared.key.Joint.{Joint}
use Rattle.lg_region.specs.declared.ways.Way.{Way}
use Rattle.lg_region.specs.declared.ways.End.{End}
use Rattle.lg_base.proofs.Elements.{contains_here, contains_later, contains_cases, contains_none}
use Rattle.lg_region.proofs.Valid.{take_short}
use Rattle.lg_region.proofs.Numbers.{apart}
use Rattle.lg_region.proofs.Once.{once_one, once_cons, exactly_as, exactly_none, exactly_one, exactly_append, exactly_product}

-- a number with which a list goes on behind a joint
abbrev pub GoesOnTo : List (List Connector) → ℕ → ℕ → ℕ → Type 0
GoesOnTo lists number place rest = (rest ≤ length lists) × GoesOn (list_of lists number) place (list_of lists rest)

rest_in : (lists : List (List Connector)) (number : ℕ) (e : End) (m : Bool) → e.is_multi ≡ m → IsEndOf lists number e → (rest : ℕ) → Contains (cond m (e.shorter ∷ e.id ∷ []) (e.shorter ∷ [])) rest → GoesOnTo lists number e.place rest
rest_in lists number e true t is rest c =
    elim (contains_cases e.shorter (e.id ∷ []) rest c) [
      | inl s ↦ (let k = is.known_shorter in (omega arith, (is.at_end, inl (ap (list_of lists) (sym s) ∙ is.rest))))
      | inr h ↦ elim (contains_cases e.id [] rest h) [
        | inl s ↦ (
            let r : rest ≡ number = sym s ∙ is.itself in
            let k = is.known in
            (omega arith, (is.at_end, inr (ap (list_of lists) r, λ c g. ap (λ z. z.multi) (same_Some c is.last (sym g ∙ is.is_last)) ∙ sym is.is_multi ∙ t)))
            )
        | inr h ↦ absurd (contains_none rest h)
      ]
    ]
rest_in lists number e false t is rest c =
    elim (contains_cases e.shorter [] rest c) [
      | inl s ↦ (let k = is.known_shorter in (omega arith, (is.at_end, inl (ap (list_of lists) (sym s) ∙ is.rest))))
      | inr h ↦ absurd (contains_none rest h)
    ]

first_rest : (e : End) (m : Bool) → Contains (cond m (e.shorter ∷ e.id ∷ []) (e.shorter ∷ [])) e.shorter
first_rest e true = contains_here e.shorter (e.id ∷ [])
first_rest e false = contains_here e.shorter []

rest_out : (positions : List (List Disjunct)) (lists : List (List Connector)) (number : ℕ) (e : End) → AreListsOf positions lists → IsEndOf lists number e → (rest : ℕ) → GoesOnTo lists number e.place rest → Contains (rests_of e) rest
rest_out positions lists number e are is rest (k, (at, inl t)) =
    let s = apart positions lists are e.shorter rest is.known_shorter k (is.rest ∙ sym t) in
    subst (λ z. Contains (rests_of e) z) s (first_rest e e.is_multi)
rest_out positions lists number e are is rest (k, (at, inr t)) =
    let s = apart positions lists are number rest is.known k (sym t.0) in
    let m : e.is_multi ≡ true = is.is_multi ∙ t.1 is.last is.is_last in
    let c : Contains (e.shorter ∷ e.id ∷ []) rest = subst (λ z. Contains (e.shorter ∷ e.id ∷ []) z) (is.itself ∙ s) (contains_later e.shorter (e.id ∷ []) e.id (contains_here e.id [])) in
    subst (λ z. Contains (cond z (e.shorter ∷ e.id ∷ []) (e.shorter ∷ [])) rest) (sym m) c

shorter_apart : (lists : List (List Connector)) (number : ℕ) (e : End) → IsEndOf lists number e → e.id ≡ e.shorter → ⊥
shorter_apart lists number e is s =
    let a : list_of lists number ≡ take e.place (list_of lists number) = ap (list_of lists) (sym is.itself ∙ s) ∙ is.rest in
    let b = ap (λ z. length z) a in
    let c = take_short (list_of lists number) e.place in
    let d = is.at_end in
    omega arith

once_rests : (lists : List (List Connector)) (number : ℕ) (e : End) (m : Bool) → IsEndOf lists number e → AreOnce (cond m (e.shorter ∷ e.id ∷ []) (e.shorter ∷ []))
once_rests lists number e true is = once_cons e.shorter (e.id ∷ []) (once_one e.id) (λ c. elim (contains_cases e.id [] e.shorter c) [ inl s ↦ shorter_apart lists number e is s | inr h ↦ contains_none e.shorter h ])
once_rests lists number e false is = once_one e.shorter

-- exactly the numbers with which a list goes on
pub rests_are : (positions : List (List Disjunct)) (lists : List (List Connector)) (number : ℕ) (e : End) → AreListsOf positions lists → IsEndOf lists number e → AreExactly (rests_of e) (GoesOnTo lists number e.place)
rests_are positions lists number e are is = record {
  each = λ rest. (rest_in lists number e e.is_multi refl is rest, rest_out positions lists number e are is rest);
  once = once_rests lists number e e.is_multi is;
}

joint_of : ℕ → ℕ → Joint
joint_of near far = record { near = near; far = far }

joint_is : (j : Joint) (near far : ℕ) → j.near ≡ near → j.far ≡ far → record { near = near; far = far } ≡ j
joint_is j near far a b =
    let e : j ≡ record { near = j.near; far = j.far } = refl in
    sym (subst (λ z. j ≡ record { near = z; far = far }) a (subst (λ z. j ≡ record { near = j.near; far = z }) b e))

way_is : (w : Way) (j : Joint) (near far : ℕ) → w.joint ≡ Some j → w.near ≡ near → w.far ≡ far → way_of j near far ≡ w
way_is w j near far a b c =
    let e : w ≡ record { joint = w.joint; near = w.near; far = w.far } = refl in
    sym (subst (λ z. w ≡ record { joint = z; near = near; far = far }) a (subst (λ z. w ≡ record { joint = w.joint; near = z; far = far }) b (subst (λ z. w ≡ record { joint = w.joint; near = w.near; far = z }) c e)))

some_of : {X : Type 0} (o : Option X) → IsSome o → (x : X) × (o ≡ Some x)
some_of None h = absurd cc
some_of (Some x) h = (x, refl)

ways_apart : (j : Joint) (r r' s s' : ℕ) → way_of j r s ≡ way_of j r' s' → (r ≡ r') × (s ≡ s')
ways_apart j r r' s s' e = (ap (λ w. w.near) e, ap (λ w. w.far) e)

-- two lists whose last connectors match
joined_are : (positions : List (List Disjunct)) (lists : List (List Connector)) (near far : ℕ) (e f : End) → AreListsOf positions lists → (ie : IsEndOf lists near e) (if' : IsEndOf lists far f) → Match ie.last if'.last
    → AreExactly (joined_ways e f) (IsWayOf lists near far false)
joined_are positions lists near far e f are ie if' m =
    let j : Joint = record { near = e.place; far = f.place } in
    let P = GoesOnTo lists near e.place in
    let Q = GoesOnTo lists far f.place in
    let product = exactly_product (way_of j) (rests_of e) (rests_of f) P Q (rests_are positions lists near e are ie) (rests_are positions lists far f are if') (λ r r' s s' q. ways_apart j r r' s s' q) in
    exactly_as (joined_ways e f) (λ w. (r : ℕ) × (s : ℕ) × P r × Q s × (way_of j r s ≡ w)) (IsWayOf lists near far false)
    (λ w. (
      λ (r, s, p, q, t). subst (λ z. IsWayOf lists near far false z) t (record {
        known_near = p.0;
        known_far = q.0;
        cut = (p.1, q.1, (ie.last, if'.last, ie.is_last, if'.is_last, m));
        joined = λ a. refl;
      }),
      λ is.
          let o = some_of w.joint (is.joined refl) in
          let c : IsCutAt (Some o.0) (list_of lists near) (list_of lists far) (list_of lists w.near) (list_of lists w.far) = subst (λ z. IsCutAt z (list_of lists near) (list_of lists far) (list_of lists w.near) (list_of lists w.far)) o.1 is.cut in
          let a = c.0.0 in
          let b = c.1.0 in
          let x = ie.at_end in
          let y = if'.at_end in
          let pn : o.0.near ≡ e.place = omega arith in
          let pf : o.0.far ≡ f.place = omega arith in
          let k = joint_is o.0 e.place f.place pn pf in (
            w.near,
            w.far,
            (is.known_near, subst (λ z. GoesOn (list_of lists near) z (list_of lists w.near)) pn c.0),
            (is.known_far, subst (λ z. GoesOn (list_of lists far) z (list_of lists w.far)) pf c.1),
            way_is w j w.near w.far (o.1 ∙ ap (λ z. Some z) (sym k)) refl refl,
          ),
    ))
    product

-- what a joint needs: both lists have an end, and the ends match
pub joint_needs : (lists : List (List Connector)) (near far : ℕ) (w : Way) → IsWayOf lists near far false w → (j : Joint) × GoesOn (list_of lists near) j.near (list_of lists w.near) × GoesOn (list_of lists far) j.far (list_of lists w.far)
    × ((a : Connector) × (b : Connector) × (slice_get (list_of lists near) j.near ≡ Some a) × (slice_get (list_of lists far) j.far ≡ Some b) × Match a b)
joint_needs lists near far w is =
    let o = some_of w.joint (is.joined refl) in
    let x = subst (λ z. IsCutAt z (list_of lists near) (list_of lists far) (list_of lists w.near) (list_of lists w.far)) o.1 is.cut in
    (o.0, x.0, x.1, x.2)

pub no_near : (lists : List (List Connector)) (near far : ℕ) (w : Way) → near ≡ 0 → IsWayOf lists near far false w → ⊥
no_near lists near far w e is =
    let n = joint_needs lists near far w is in
    let a = n.1.0 in
    let b = ap (λ z. length (list_of lists z)) e in
    omega arith

pub no_far : (lists : List (List Connector)) (near far : ℕ) (w : Way) → far ≡ 0 → IsWayOf lists near far false w → ⊥
no_far lists near far w e is =
    let n = joint_needs lists near far w is in
    let a = n.2.0 in
    let b = ap (λ z. length (list_of lists z)) e in
    omega arith

-- the last connectors of two lists with a joint match
pub way_match : (lists : List (List Connector)) (near far : ℕ) (e f : End) (w : Way) (ie : IsEndOf lists near e) (if' : IsEndOf lists far f) → IsWayOf lists near far false w → Match ie.last if'.last
way_match lists near far e f w ie if' is =
    let n = joint_needs lists near far w is in
    let j = n.0 in
    let a = n.1.0 in
    let b = n.2.0 in
    let x = ie.at_end in
    let y = if'.at_end in
    let pn : j.near ≡ e.place = omega arith in
    let pf : j.far ≡ f.place = omega arith in
    let s : n.3.0 ≡ ie.last = same_Some n.3.0 ie.last (sym n.3.2 ∙ ap (slice_get (list_of lists near)) pn ∙ ie.is_last) in
    let t : n.3.1 ≡ if'.last = same_Some n.3.1 if'.last (sym n.3.3 ∙ ap (slice_get (list_of lists far)) pf ∙ if'.is_last) in
    subst (λ z. Match z if'.last) s (subst (λ z. Match n.3.0 z) t n.3.4)

-- the way on of two lists whose last connectors match, without them
pub some_way : (lists : List (List Connector)) (near far : ℕ) (e f : End) (ie : IsEndOf lists near e) (if' : IsEndOf lists far f) → Match ie.last if'.last → HasWay lists near far false
some_way lists near far e f ie if' m = (
  record { joint = Some (record { near = e.place; far = f.place }); near = e.shorter; far = f.shorter },
  record {
    known_near = ie.known_shorter;
    known_far = if'.known_shorter;
    cut = ((ie.at_end, inl ie.rest), (if'.at_end, inl if'.rest), (ie.last, if'.last, ie.is_last, if'.is_last, m));
    joined = λ z. refl;
  },
)

-- the way on of two lists as they are
pub plain_way : (lists : List (List Connector)) (near far : ℕ) → near ≤ length lists → far ≤ length lists → HasWay lists near far true
plain_way lists near far ln lf = (
  record { joint = None; near = near; far = far },
  record { known_near = ln; known_far = lf; cut = (refl, refl); joined = λ z. absurd cc },
)

-- two lists without a way on add nothing
pub ways_none : {A : Type 0} (lists : List (List Connector)) (near far : ℕ) (make : Way → A) (old : List A) → ((w : Way) → IsWayOf lists near far false w → ⊥) → AddsWays lists near far false make old old
ways_none lists near far make old none = record { ways = []; exactly = exactly_none (IsWayOf lists near far false) none; added = sym (append-nil old) }

-- two lists whose last connectors match add their joined ways
pub joined_ways_added : {A : Type 0} (positions : List (List Disjunct)) (lists : List (List Connector)) (near far : ℕ) (e f : End) (make : Way → A) (old new : List A)
    → AreListsOf positions lists → (ie : IsEndOf lists near e) (if' : IsEndOf lists far f) → Match ie.last if'.last → new ≡ old ++ map make (joined_ways e f) → AddsWays lists near far false make old new
joined_ways_added positions lists near far e f make old new are ie if' m added = record { ways = joined_ways e f; exactly = joined_are positions lists near far e f are ie if' m; added = added }

way_cases : (positions : List (List Disjunct)) (lists : List (List Connector)) (near far : ℕ) (w : Way) (o : Option Joint) → w.joint ≡ o → AreListsOf positions lists → near ≤ length lists → far ≤ length lists → IsWayOf lists near far true w
    → (◌≡◌ {A = Way} (record { joint = None; near = near; far = far }) w) ⊎ IsWayOf lists near far false w
way_cases positions lists near far w None e are ln lf is =
    let c : IsCutAt None (list_of lists near) (list_of lists far) (list_of lists w.near) (list_of lists w.far) = subst (λ z. IsCutAt z (list_of lists near) (list_of lists far) (list_of lists w.near) (list_of lists w.far)) e is.cut in
    let a = apart positions lists are near w.near ln is.known_near (sym c.0) in
    let b = apart positions lists are far w.far lf is.known_far (sym c.1) in
    let r : w ≡ record { joint = w.joint; near = w.near; far = w.far } = refl in
    inl (sym (subst (λ z. w ≡ record { joint = z; near = near; far = far }) e (subst (λ z. w ≡ record { joint = w.joint; near = z; far = far }) (sym a) (subst (λ z. w ≡ record { joint = w.joint; near = w.near; far = z }) (sym b) r))))
way_cases positions lists near far w (Some j) e are ln lf is =
    inr (record { known_near = is.known_near; known_far = is.known_far; cut = is.cut; joined = λ a. subst (λ z. IsSome z) (sym e) refl })

-- two lists that need no joint
with_plain : (positions : List (List Disjunct)) (lists : List (List Connector)) (near far : ℕ) (more : List Way) → AreListsOf positions lists → near ≤ length lists → far ≤ length lists → AreExactly more (IsWayOf lists near far false)
    → AreExactly (record { joint = None; near = near; far = far } ∷ more) (IsWayOf lists near far true)
with_plain positions lists near far more are ln lf x =
    let plain : Way = record { joint = None; near = near; far = far } in
    exactly_as (plain ∷ more) (λ w. (plain ≡ w) ⊎ IsWayOf lists near far false w) (IsWayOf lists near far true)
    (λ w. (
      λ h. elim h [
        | inl e ↦ subst (λ z. IsWayOf lists near far true z) e (record { known_near = ln; known_far = lf; cut = (refl, refl); joined = λ a. absurd cc })
        | inr is ↦ record { known_near = is.known_near; known_far = is.known_far; cut = is.cut; joined = λ a. absurd cc }
      ],
      λ is. way_cases positions lists near far w w.joint refl are ln lf is,
    ))
    (exactly_append (plain ∷ []) more (λ w. plain ≡ w) (IsWayOf lists near far false) (exactly_one plain) x
    (λ w e is. let o = some_of w.joint (is.joined refl) in let s = ap (λ z. z.joint) e ∙ o.1 in absurd cc))

-- the way of two lists as they are, where it is one
abbrev pub plain_ways : Bool → ℕ → ℕ → List Way
plain_ways may near far = cond may (record { joint = None; near = near; far = far } ∷ []) []

pub plain_added : {A : Type 0} (may b : Bool) (near far : ℕ) (make : Way → A) (old out : List A) → may ≡ b → out ≡ old ++ map make (plain_ways b near far) → out ≡ old ++ map make (plain_ways may near far)
plain_added may b near far make old out e h = subst (λ z. out ≡ old ++ map make (plain_ways z near far)) (sym e) h

-- the ways on of two lists, from those with a joint
pub ways_added : {A : Type 0} (positions : List (List Disjunct)) (lists : List (List Connector)) (near far : ℕ) (make : Way → A) (old start new : List A) (may : Bool) → AreListsOf positions lists → near ≤ length lists → far ≤ length lists
    → start ≡ old ++ map make (plain_ways may near far) → AddsWays lists near far false make start new → AddsWays lists near far may make old new
ways_added positions lists near far make old start new true are ln lf s x =
    let plain : Way = record { joint = None; near = near; far = far } in
    record {
      ways = plain ∷ x.ways;
      exactly = with_plain positions lists near far x.ways are ln lf x.exactly;
      added = x.added ∙ ap (λ z. z ++ map make x.ways) s ∙ append_assoc old (make plain ∷ []) (map make x.ways);
    }
ways_added positions lists near far make old start new false are ln lf s x =
    record { ways = x.ways; exactly = x.exactly; added = x.added ∙ ap (λ z. z ++ map make x.ways) (s ∙ append-nil old) }
