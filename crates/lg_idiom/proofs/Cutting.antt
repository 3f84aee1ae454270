-- A good linkage that uses a chain, without the chain's joints.
use Rattle.std.proofs.Common.{◌≡◌, ℕ, zero, suc, ◌+◌, ◌-◌, ◌≤◌, Bool, true, not, inl, inr, List, [], ◌∷◌, length, drop, map, filter, slice_get, Option, Some, None, Contains, is_some, true≢false, refl, ap, sym, ◌∙◌, subst, arith}
use Rattle.std.specs.Prelude.{slice_index_or, nat_le, nat_lt, ◌&&◌}
use Rattle.std.specs.List.Sorted.{IsStrictlySortedBy}
use Rattle.std.specs.Option.{option_map}
use Rattle.std.proofs.lemmas.Bool.{cases_lt}
use Rattle.std.proofs.lemmas.Bool.Decides.{nat_tests}
use Rattle.std.proofs.lemmas.List.{get_or_past}
use Rattle.std.proofs.lemmas.Option.{none-some, same_Some}
use Rattle.lg_base.proofs.Elements.{filter_in, filter_out, map_in, map_out}
use Rattle.lg_gram.specs.Connectors.{Connector}
use Rattle.lg_gram.specs.Disjuncts.{IsDisjunctOf}
use Rattle.lg_gram.specs.Linkages.{Linkage, link_cmp}
use Rattle.lg_gram.specs.Rules.{Good, HasLink, IsLinked, Serves, Rules, chosen_at, left_list, right_list, rights_of, lefts_of}
use Rattle.lg_gram.specs.Walks.{Walk, LinkFrom}
use Rattle.lg_gram.specs.Walks.Walk.{stay, forth}
use Rattle.lg_gram.specs.declared.disjunct.Disjunct.{Disjunct}
use Rattle.lg_gram.specs.declared.linkage.Link.{Link}
use Rattle.lg_gram.proofs.Exact.{same_link}
use Rattle.lg_idiom.specs.Idioms.{Chain}
use Rattle.lg_idiom.specs.Wholes.{AreChainsOfIdioms, AreLaidOver, UsesAll, IsEarlier, IsAsOneWord, IsWithoutJoints, last_of, lowered_at}
use Rattle.lg_idiom.proofs.Parts.{Part, begins, goes_on, ends, part_of}
use Rattle.lg_idiom.proofs.Rising.{rising_of}
use Rattle.lg_idiom.proofs.Spans.{links_total, row, length_row, row_at, Place, early, final, beside, place_of, not_last, shift, shift_last, shift_other, lift, lift_same, lift_lowered, comes_from, comes_first, goes_to}
use Rattle.lg_idiom.proofs.Walking.{moved, sent}

-- a disjunct without the first connector of its left list
abbrev pub shorter : Disjunct → Disjunct
shorter d = record d { left = drop 1 d.left }

-- at the last position that is one of the compound's own
pub own_part : (c : Chain) (d : Disjunct) (i : ℕ) → Part c d i → i + 1 ≡ c.count → 2 ≤ c.count → IsDisjunctOf c.word c.formula (shorter d)
own_part c d zero (begins l r cost) last several = absurd (omega (arith, last, several))
own_part c d (suc k) (goes_on _ more l r cost) last several = absurd (more (omega (arith, last)))
own_part c d (suc k) (ends _ own at l is) last several = subst (λ xs. IsDisjunctOf c.word c.formula (record d { left = drop 1 xs })) (sym l) is

pub behind_first : {X : Type 0} (xs : List X) (q : ℕ) → slice_get (drop 1 xs) q ≡ slice_get xs (suc q)
behind_first [] q = refl
behind_first (x ∷ xs) q = refl

-- the last position in place of an earlier one
abbrev pub onto : (c : Chain) (i : ℕ) → Place c i → ℕ
onto c i (early is) = last_of c
onto c i (final same) = i
onto c i (beside free other) = i

abbrev pub onto_last : Chain → ℕ → ℕ
onto_last c i = onto c i (place_of c i)

pub onto_early : (c : Chain) (i : ℕ) (p : Place c i) → IsEarlier c i → onto c i p ≡ last_of c
onto_early c i (early is) h = refl
onto_early c i (final same) h = absurd (not_last c i same h)
onto_early c i (beside free other) h = absurd (free h)

pub onto_same : (c : Chain) (i : ℕ) (p : Place c i) → (IsEarlier c i → ⊥) → onto c i p ≡ i
onto_same c i (early is) h = absurd (h is)
onto_same c i (final same) h = refl
onto_same c i (beside free other) h = refl

pub onto_end : (c : Chain) (i : ℕ) (p : Place c i) → i ≤ last_of c → c.start ≤ i → onto c i p ≡ last_of c
onto_end c i (early is) h from = refl
onto_end c i (final same) h from = same
onto_end c i (beside free other) h from = elim (cases_lt i (last_of c)) [
  | inl less ↦ absurd (free (from, less))
  | inr more ↦ absurd (other (omega (arith, h, more)))
]

module _ (taken : List Chain) (plain positions : List (List Disjunct)) (are : AreChainsOfIdioms taken) (over : AreLaidOver taken plain positions) (g : Linkage) (good : Good positions g) (c : Chain) (m : Contains taken c) (uses : UsesAll g c) where
  module _ (h : Linkage) (w : IsWithoutJoints c g h) where
    end_used : (d : Disjunct) × (chosen_at g (last_of c) ≡ Some d) × IsDisjunctOf c.word c.formula (shorter d)
    end_used =
        let several = are.several c m in
        let (d, is, of) = uses (c.count - 1) (omega (arith, several)) in
        (d, is, own_part c d (c.count - 1) (part_of c (c.count - 1) d of) (omega (arith, several)) several)

    -- ---- what stands at a position

    pub right_at : (i : ℕ) → Place c i → (IsEarlier c i → ⊥) → rights_of h i ≡ rights_of g i
    right_at i (early is) free = absurd (free is)
    right_at i (final same) free = ap (rights_of h) same ∙ ap right_list (w.last end_used.0 end_used.1) ∙ sym (ap right_list end_used.1) ∙ ap (rights_of g) (sym same)
    right_at i (beside none other) free = ap right_list (w.others i none other)

    pub left_at : (i : ℕ) → Place c i → (IsEarlier c i → ⊥) → (q : ℕ) → slice_get (lefts_of h i) q ≡ slice_get (lefts_of g i) (shift c i + q)
    left_at i (early is) free q = absurd (free is)
    left_at i (final same) free q =
        let (d, is, of) = end_used in
        let one = shift_last c i same in
        let place : suc q ≡ shift c i + q = omega (arith, one) in
        ap (λ n. slice_get (lefts_of h n) q) same ∙ ap (λ o. slice_get (left_list o) q) (w.last d is) ∙ behind_first d.left q
        ∙ sym (ap (λ o. slice_get (left_list o) (suc q)) is) ∙ (λ t. slice_get (lefts_of g (sym same t)) (place t))
    left_at i (beside none other) free q =
        let zero_shift = shift_other c i other in
        let place : q ≡ shift c i + q = omega (arith, zero_shift) in
        ap (λ o. slice_get (left_list o) q) (w.others i none other) ∙ ap (slice_get (lefts_of g i)) place

    nothing_right : (i p : ℕ) (x : Connector) → slice_get (rights_of h i) p ≡ Some x → IsEarlier c i → ⊥
    nothing_right i p x at is = none-some x (sym (ap (λ o. slice_get (right_list o) p) (w.earlier i is)) ∙ at)

    nothing_left : (i p : ℕ) (x : Connector) → slice_get (lefts_of h i) p ≡ Some x → IsEarlier c i → ⊥
    nothing_left i p x at is = none-some x (sym (ap (λ o. slice_get (left_list o) p) (w.earlier i is)) ∙ at)

    -- ---- its links

    pub lifts : (l : Link) → HasLink h l → HasLink g (lift c l) × (IsEarlier c l.left → ⊥) × (IsEarlier c l.right → ⊥)
    lifts l has =
        let (k, in_g, not_left, not_right, is) = (w.links l).0 has in
        let same : k ≡ lift c l = lift_lowered c k (λ at first. not_left (comes_first taken plain positions are over g good c m uses k in_g at first)) ∙ ap (lift c) (sym is) in (
          subst (HasLink g) same in_g,
          (λ e. not_left (subst (IsEarlier c) (sym (ap (λ (x : Link). x.left) same)) e)),
          (λ e. not_right (subst (IsEarlier c) (sym (ap (λ (x : Link). x.right) same)) e)),
        )

    pub drops : (k : Link) → HasLink g k → (IsEarlier c k.left → ⊥) → (l : Link) × HasLink h l × (k ≡ lift c l)
    drops k has free = (
      lowered_at (last_of c) k,
      (w.links (lowered_at (last_of c) k)).1 (k, has, free, (λ e. free (comes_from taken plain positions are over g good c m uses k has e)), refl),
      lift_lowered c k (λ at first. free (comes_first taken plain positions are over g good c m uses k has at first)),
    )

    -- what comes in behind the joint comes from none of the earlier positions
    apart_left : (j : ℕ) → Place c j → (IsEarlier c j → ⊥) → (k : Link) → HasLink g k → k.right ≡ j → (q : ℕ) → k.rplace ≡ shift c j + q → IsEarlier c k.left → ⊥
    apart_left j (early is) free k has at q place e = free is
    apart_left j (final same) free k has at q place e =
        let first = (goes_to taken plain positions are over g good c m uses k has e).2 in
        let one = shift_last c j same in
        omega (arith, place, first, one)
    apart_left j (beside none other) free k has at q place e =
        let next = (goes_to taken plain positions are over g good c m uses k has e).0 in
        let from = e.0 in
        let to = e.1 in
        elim (cases_lt j (last_of c)) [
          | inl less ↦ none (omega (arith, from, next, at), less)
          | inr more ↦ other (omega (arith, to, next, at, more))
        ]

    -- ---- its rules

    on_right : (i p : ℕ) (x : Connector) → slice_get (rights_of h i) p ≡ Some x → Serves (HasLink h) (λ l. l.left) (λ l. l.lplace) i p x
    on_right i p x at =
        let free = nothing_right i p x at in
        let there = good.rules.satisfied.on_right i p x (sym (ap (λ xs. slice_get xs p) (right_at i (place_of c i) free)) ∙ at) in
        record {
          some = (
              let (k, has, from, place) = there.some in
              let (l, in_h, is) = drops k has (λ e. free (subst (IsEarlier c) from e)) in
              (l, in_h, sym (ap (λ (x : Link). x.left) is) ∙ from, sym (ap (λ (x : Link). x.lplace) is) ∙ place)
              );
          one = λ multi k l in_k in_l a b d e. lift_same c k l (there.one multi (lift c k) (lift c l) (lifts k in_k).0 (lifts l in_l).0 a b d e);
        }

    on_left : (j q : ℕ) (x : Connector) → slice_get (lefts_of h j) q ≡ Some x → Serves (HasLink h) (λ l. l.right) (λ l. l.rplace) j q x
    on_left j q x at =
        let free = nothing_left j q x at in
        let there = good.rules.satisfied.on_left j (shift c j + q) x (sym (left_at j (place_of c j) free q) ∙ at) in
        record {
          some = (
              let (k, has, to, place) = there.some in
              let (l, in_h, is) = drops k has (apart_left j (place_of c j) free k has to q place) in
              let right : l.right ≡ j = sym (ap (λ (x : Link). x.right) is) ∙ to in
              let shifts : shift c l.right ≡ shift c j = ap (shift c) right in
              let sum : k.rplace ≡ shift c l.right + l.rplace = ap (λ (x : Link). x.rplace) is in
              (l, in_h, right, omega (arith, place, shifts, sum))
              );
          one = λ multi k l in_k in_l a b d e. lift_same c k l (there.one multi (lift c k) (lift c l) (lifts k in_k).0 (lifts l in_l).0 a (λ t. shift c (a t) + b t) d (λ t. shift c (d t) + e t));
        }

    rules : Rules (rights_of h) (lefts_of h) (HasLink h)
    rules = record {
      matched = record {
        forward = λ l has. good.rules.matched.forward (lift c l) (lifts l has).0;
        joins = λ l has. (
            let (in_g, not_left, not_right) = lifts l has in
            let (a, b, first, second, match) = good.rules.matched.joins (lift c l) in_g in
            (a, b, ap (λ xs. slice_get xs l.lplace) (right_at l.left (place_of c l.left) not_left) ∙ first, left_at l.right (place_of c l.right) not_right l.rplace ∙ second, match)
            );
      };
      satisfied = record { on_right = on_right; on_left = on_left };
      planar = λ k l in_k in_l p q r. good.rules.planar (lift c k) (lift c l) (lifts k in_k).0 (lifts l in_l).0 p q r;
      ordered = record {
        on_right = λ k l in_k in_l same less. good.rules.ordered.on_right (lift c k) (lift c l) (lifts k in_k).0 (lifts l in_l).0 same less;
        on_left = λ k l in_k in_l same less. (
            let shifts : shift c k.right ≡ shift c l.right = ap (shift c) same in
            good.rules.ordered.on_left (lift c k) (lift c l) (lifts k in_k).0 (lifts l in_l).0 same (omega (arith, shifts, less))
            );
      };
      exclusive = λ k l in_k in_l p q. lift_same c k l (good.rules.exclusive (lift c k) (lift c l) (lifts k in_k).0 (lifts l in_l).0 p q);
    }

    -- ---- its walks

    abbrev Edge : ℕ → ℕ → Type 0
    Edge = LinkFrom (HasLink h)

    link_kept : (k : Link) → HasLink g k → (IsEarlier c k.left → ⊥) → Walk Edge (onto_last c k.left) (onto_last c k.right)
    link_kept k has free =
        let (l, in_h, is) = drops k has free in
        moved Edge k.left k.right (onto_last c k.left) (onto_last c k.right) (sym (onto_same c k.left (place_of c k.left) free))
        (sym (onto_same c k.right (place_of c k.right) (λ e. free (comes_from taken plain positions are over g good c m uses k has e))))
        (forth k.left k.right k.right (l, in_h, sym (ap (λ (x : Link). x.left) is), sym (ap (λ (x : Link). x.right) is)) (stay k.right))

    link_walk : (k : Link) → HasLink g k → Place c k.left → Walk Edge (onto_last c k.left) (onto_last c k.right)
    link_walk k has (early is) =
        let next = (goes_to taken plain positions are over g good c m uses k has is).0 in
        let from = is.0 in
        let to = is.1 in
        moved Edge (last_of c) (last_of c) (onto_last c k.left) (onto_last c k.right) (sym (onto_early c k.left (place_of c k.left) is))
        (sym (onto_end c k.right (place_of c k.right) (omega (arith, next, to)) (omega (arith, next, from)))) (stay (last_of c))
    link_walk k has (final same) = link_kept k has (not_last c k.left same)
    link_walk k has (beside free other) = link_kept k has free

    edge_walk : (a b : ℕ) → LinkFrom (HasLink g) a b → Walk Edge (onto_last c a) (onto_last c b)
    edge_walk a b (k, has, from, to) = moved Edge (onto_last c k.left) (onto_last c k.right) (onto_last c a) (onto_last c b) (ap (onto_last c) from) (ap (onto_last c) to) (link_walk k has (place_of c k.left))

    -- ---- it is good

    not_earlier : (i : ℕ) → IsLinked h i → IsEarlier c i → ⊥
    not_earlier i linked is = true≢false (sym linked ∙ ap is_some (w.earlier i is))

    linked_before : (i : ℕ) → Place c i → IsLinked h i → IsLinked g i
    linked_before i (early is) linked = absurd (not_earlier i linked is)
    linked_before i (final same) linked = ap (λ n. is_some (chosen_at g n)) same ∙ ap is_some end_used.1
    linked_before i (beside none other) linked = ap is_some (sym (w.others i none other)) ∙ linked

    connected : (i j : ℕ) → IsLinked h i → IsLinked h j → Walk Edge i j
    connected i j first second =
        moved Edge (onto_last c i) (onto_last c j) i j (onto_same c i (place_of c i) (not_earlier i first)) (onto_same c j (place_of c j) (not_earlier j second))
        (sent (LinkFrom (HasLink g)) Edge (onto_last c) edge_walk i j (good.connected i j (linked_before i (place_of c i) first) (linked_before j (place_of c j) second)))

    module _ (one : List (List Disjunct)) (lone : IsAsOneWord c positions one) where
      listed : (i : ℕ) → Place c i → (d : Disjunct) → chosen_at h i ≡ Some d → Contains (slice_index_or one i []) d
      listed i (early is) d at = absurd (none-some d (sym (w.earlier i is) ∙ at))
      listed i (final same) d at =
          let (e, is, of) = end_used in
          let chosen : shorter e ≡ d = same_Some (shorter e) d (sym (w.last e is) ∙ ap (chosen_at h) (sym same) ∙ at) in
          subst (λ n. Contains (slice_index_or one n []) d) (sym same) ((lone.last d).1 (subst (IsDisjunctOf c.word c.formula) chosen of))
      listed i (beside none other) d at = subst (λ l. Contains l d) (sym (lone.others i none other)) (good.belongs.listed i d (sym (w.others i none other) ∙ at))

      pub good_without : IsStrictlySortedBy link_cmp h.links → Good one h
      good_without rise = record {
        belongs = record {
          same_length = w.same_length ∙ good.belongs.same_length ∙ sym lone.same_length;
          listed = λ i d at. listed i (place_of c i) d at;
          set = rise;
        };
        rules = rules;
        connected = connected;
      }

  -- ---- there is one

  abbrev cut : (i : ℕ) → Place c i → Option Disjunct → Option Disjunct
  cut i (early is) o = None
  cut i (final same) o = option_map shorter o
  cut i (beside none other) o = o

  cut_none : (i : ℕ) (p : Place c i) (o : Option Disjunct) → o ≡ None → cut i p o ≡ None
  cut_none i (early is) o none = refl
  cut_none i (final same) o none = ap (option_map shorter) none
  cut_none i (beside free other) o none = none

  cut_early : (i : ℕ) (p : Place c i) (o : Option Disjunct) → IsEarlier c i → cut i p o ≡ None
  cut_early i (early is) o e = refl
  cut_early i (final same) o e = absurd (not_last c i same e)
  cut_early i (beside free other) o e = absurd (free e)

  cut_final : (p : Place c (last_of c)) (o : Option Disjunct) → cut (last_of c) p o ≡ option_map shorter o
  cut_final (early is) o = absurd (not_last c (last_of c) refl is)
  cut_final (final same) o = refl
  cut_final (beside free other) o = absurd (other refl)

  cut_beside : (i : ℕ) (p : Place c i) (o : Option Disjunct) → (IsEarlier c i → ⊥) → (i ≡ last_of c → ⊥) → cut i p o ≡ o
  cut_beside i (early is) o free apart = absurd (free is)
  cut_beside i (final same) o free apart = absurd (apart same)
  cut_beside i (beside free other) o not_early apart = refl

  abbrev cut_at : ℕ → Option Disjunct
  cut_at i = cut i (place_of c i) (chosen_at g i)

  abbrev is_apart : Link → Bool
  is_apart l = not (nat_le c.start l.left && nat_lt l.left (last_of c))

  apart_is : (l : Link) → is_apart l ≡ true → IsEarlier c l.left → ⊥
  apart_is l test e = grind (arith, nat_tests)

  is_apart_from : (l : Link) → (IsEarlier c l.left → ⊥) → is_apart l ≡ true
  is_apart_from l free =
      elim (cases_lt l.left c.start) [
        | inl less ↦ grind (arith, nat_tests)
        | inr from ↦ elim (cases_lt l.left (last_of c)) [
          | inl less ↦ absurd (free (from, less))
          | inr past ↦ grind (arith, nat_tests)
        ]
      ]

  pub some_without : (h : Linkage) × IsWithoutJoints c g h × IsStrictlySortedBy link_cmp h.links
  some_without =
      let kept : List Link = map (lowered_at (last_of c)) (filter is_apart g.links) in
      let (links, rise, same) = rising_of link_cmp links_total same_link kept in
      let h : Linkage = record { chosen = row (length g.chosen) cut_at; links = links } in
      let at : (i : ℕ) → chosen_at h i ≡ cut_at i = row_at (length g.chosen) cut_at None (λ i past. cut_none i (place_of c i) (chosen_at g i) (get_or_past g.chosen i None past)) in (
        h,
        record {
          same_length = length_row (length g.chosen) cut_at;
          earlier = λ i is. at i ∙ cut_early i (place_of c i) (chosen_at g i) is;
          last = λ d is. at (last_of c) ∙ cut_final (place_of c (last_of c)) (chosen_at g (last_of c)) ∙ ap (option_map shorter) is;
          others = λ i free apart. at i ∙ cut_beside i (place_of c i) (chosen_at g i) free apart;
          links = λ l. (
            λ has. (
                let (k, in_kept, is) = map_out (lowered_at (last_of c)) (filter is_apart g.links) l ((same l).0 has) in
                let (in_g, test) = filter_out is_apart g.links k in_kept in
                (k, in_g, apart_is k test, (λ e. apart_is k test (comes_from taken plain positions are over g good c m uses k in_g e)), sym is)
                ),
            λ from. (
                let (k, in_g, free, not_right, is) = from in
                (same l).1 (subst (Contains kept) (sym is) (map_in (lowered_at (last_of c)) (filter is_apart g.links) k (filter_in is_apart g.links k in_g (is_apart_from k free))))
                ),
          );
        },
        rise,
      )

  pub stands : (one : List (List Disjunct)) → IsAsOneWord c positions one → (h : Linkage) × IsWithoutJoints c g h × Good one h
  stands one lone = let (h, w, rise) = some_without in (h, w, good_without h w one lone rise)
