-- Each good linkage with a compound as one word comes from exactly one with the compound's chain.
use Rattle.std.proofs.Common.{◌≡◌, ℕ, zero, suc, ◌+◌, ◌-◌, ◌<◌, ◌≤◌, Bool, true, false, eqb-true, eq-eqb, inl, inr, List, [], ◌∷◌, ◌++◌, length, drop, map, get_or, Option, Some, None, Contains, refl, ap, sym, ◌∙◌, subst, arith, pos}
use Rattle.std.specs.Prelude.{slice_index_or, nat_eq, ◌≤ℤ◌}
use Rattle.std.specs.List.Sorted.{IsStrictlySortedBy}
use Rattle.std.specs.Option.{option_map}
use Rattle.std.proofs.lemmas.Bool.{both_ways, cases_lt}
use Rattle.std.proofs.lemmas.List.{get_or_past, append-nil}
use Rattle.std.proofs.lemmas.List.Elements.{Contains-append_left, Contains-append_right, Contains-append_cases}
use Rattle.std.proofs.lemmas.Option.{same_Some}
use Rattle.lg_base.proofs.Elements.{contains_here, contains_later, contains_cases, contains_none, map_in, map_out}
use Rattle.lg_gram.specs.Disjuncts.{IsDisjunctOf, choice_of}
use Rattle.lg_gram.specs.Linkages.{Linkage, link_cmp}
use Rattle.lg_gram.specs.Measures.{Choice, single, choices_of}
use Rattle.lg_gram.specs.Rules.{Good, HasLink, IsLinked, chosen_at}
use Rattle.lg_gram.specs.Trees.{leaf}
use Rattle.lg_gram.specs.declared.disjunct.Disjunct.{Disjunct}
use Rattle.lg_gram.specs.declared.linkage.Link.{Link}
use Rattle.lg_gram.proofs.Exact.{same_link}
use Rattle.lg_idiom.specs.Idioms.{Chain, Covers, joint_of, pair, later_formula, formula_at}
use Rattle.lg_idiom.specs.Wholes.{AreChainsOfIdioms, AreLaidOver, UsesAt, UsesAll, IsEarlier, IsAsOneWord, IsWithoutJoints, ChainsStandForWords, last_of, lowered_at}
use Rattle.lg_idiom.proofs.Cutting.{shorter, stands, lifts, drops}
use Rattle.lg_idiom.proofs.Mending.{part_at, longer, joint_at, Kind, old, new, IsMended, number_of, word_there, bare, not_left, not_right, old_right, mended_rules, mended_connected}
use Rattle.lg_idiom.proofs.Parts.{Part, begins, goes_on, ends, part_of, behind, pair_in, pair_out, only, same_cost, one_less}
use Rattle.lg_idiom.proofs.Rising.{rising_of, same_rising}
use Rattle.lg_idiom.proofs.Spans.{links_total, row, length_row, row_at, Place, early, final, beside, place_of, not_last, lift, lowered_lift, joined, leaves_as}
use Rattle.lg_idiom.proofs.Using.{Joined}

-- ---- the parts are disjuncts of the chain's formulas

costs_nothing : (x f : Choice) → x ≡ f → x.cost ≡ pos 0 → pos 0 ≤ℤ f.cost
costs_nothing x f is none = subst (λ z. pos 0 ≤ℤ z) (sym none ∙ ap (λ (y : Choice). y.cost) is) (omega arith)

first_is : (c : Chain) → IsDisjunctOf c.word (formula_at c 0) (part_at c 0)
first_is c = record {
  named = refl;
  chosen = contains_here (single (joint_of c 0 true)) [];
  least = λ f in_f l r. costs_nothing (single (joint_of c 0 true)) f (only (single (joint_of c 0 true)) f in_f) refl;
}

middle_is : (c : Chain) (k : ℕ) (last : Bool) → nat_eq (suc (suc k)) c.count ≡ last → (suc (suc k) ≡ c.count → ⊥) → IsDisjunctOf c.word (later_formula c (suc k) last) (part_at c (suc k))
middle_is c k true test free = absurd (free (eqb-true (suc (suc k)) c.count test))
middle_is c k false test free =
    let a = joint_of c k false in
    let b = joint_of c (suc k) true in
    subst (λ n. IsDisjunctOf c.word (pair (leaf (joint_of c n false)) (leaf b)) (part_at c (suc k))) (sym (one_less k))
    (record {
      named = refl;
      chosen = pair_in a (leaf b) (single b) (contains_here (single b) []);
      least = λ f in_f l r. (
          let (e, in_leaf, same) = pair_out a (leaf b) f in_f in
          costs_nothing (behind a (single b)) f (ap (behind a) (only (single b) e in_leaf) ∙ same) refl
          );
    })

last_is : (c : Chain) (k : ℕ) (last : Bool) → nat_eq (suc (suc k)) c.count ≡ last → suc (suc k) ≡ c.count → (d : Disjunct) → IsDisjunctOf c.word c.formula d
    → IsDisjunctOf c.word (later_formula c (suc k) last) (record d { left = joint_of c k false ∷ d.left })
last_is c k false test at d of = absurd (both_ways (nat_eq (suc (suc k)) c.count) test (eq-eqb (suc (suc k)) c.count at))
last_is c k true test at d of =
    let a = joint_of c k false in
    subst (λ n. IsDisjunctOf c.word (pair (leaf (joint_of c n false)) c.formula) (record d { left = a ∷ d.left })) (sym (one_less k))
    (record {
      named = of.named;
      chosen = subst (Contains (choices_of (pair (leaf a) c.formula)))
          (λ i. record { left = a ∷ append-nil d.left i; right = append-nil d.right i; cost = same_cost d.cost i }) (pair_in a c.formula (choice_of d) of.chosen);
      least = λ f in_f l r. (
          let (e, in_own, same) = pair_out a c.formula f in_f in
          let lefts : e.left ≡ d.left = sym (append-nil e.left) ∙ ap (λ (y : Choice). drop 1 y.left) same ∙ ap (drop 1) l in
          let rights : e.right ≡ d.right = sym (append-nil e.right) ∙ ap (λ (y : Choice). y.right) same ∙ r in
          subst (λ z. d.cost ≤ℤ z) (sym (same_cost e.cost) ∙ ap (λ (y : Choice). y.cost) same) (of.least e in_own lefts rights)
          );
    })

early_is : (c : Chain) (j : ℕ) → j + 1 < c.count → IsDisjunctOf c.word (formula_at c j) (part_at c j)
early_is c zero less = first_is c
early_is c (suc k) less = middle_is c k (nat_eq (suc (suc k)) c.count) refl (λ at. omega (arith, at, less))

-- ---- and there are no others

is_part : (c : Chain) (d : Disjunct) (j : ℕ) → Part c d j → j + 1 < c.count → d.word ≡ c.word → d ≡ part_at c j
is_part c d zero (begins l r cost) less named = λ i. record { word = named i; left = l i; right = r i; cost = cost i }
is_part c d (suc k) (goes_on _ more l r cost) less named = λ i. record { word = named i; left = l i; right = r i; cost = cost i }
is_part c d (suc k) (ends _ own at l is) less named = absurd (omega (arith, at, less))

is_longer : (c : Chain) (d : Disjunct) (j : ℕ) → Part c d j → j + 1 ≡ c.count → 2 ≤ c.count → d ≡ longer c (shorter d)
is_longer c d zero (begins l r cost) at several = absurd (omega (arith, at, several))
is_longer c d (suc k) (goes_on _ more l r cost) at several = absurd (more (omega (arith, at)))
is_longer c d (suc k) (ends _ own last l is) at several =
    let number : k ≡ c.count - 2 = omega (arith, last) in
    let lists : d.left ≡ joint_of c (c.count - 2) false ∷ drop 1 d.left = l ∙ (λ t. joint_of c (number t) false ∷ drop 1 (sym l t)) in
    λ i. record d { left = lists i }

same_rows : {X : Type 0} (xs ys : List X) (d : X) → length xs ≡ length ys → ((k : ℕ) → get_or xs k d ≡ get_or ys k d) → xs ≡ ys
same_rows [] [] d long each = refl
same_rows [] (y ∷ ys) d long each = absurd (omega (arith, long))
same_rows (x ∷ xs) [] d long each = absurd (omega (arith, long))
same_rows (x ∷ xs) (y ∷ ys) d long each =
    let first : x ≡ y = each 0 in
    let rest : xs ≡ ys = same_rows xs ys d (omega (arith, long)) (λ k. each (suc k)) in
    λ i. first i ∷ rest i

joint_is : (g : Linkage) (c : Chain) (j : ℕ) (next : Joined g c j) → next.link ≡ joint_at c j
joint_is g c j next = λ i. record { left = next.from i; lplace = next.leaves i; right = next.to i; rplace = next.enters i }

-- the links of the joints
abbrev joint_list : Chain → ℕ → List Link
joint_list c zero = []
joint_list c (suc n) = joint_at c n ∷ joint_list c n

in_joints : (c : Chain) (n j : ℕ) → j < n → Contains (joint_list c n) (joint_at c j)
in_joints c zero j less = absurd (omega (arith, less))
in_joints c (suc n) j less =
    elim (cases_lt j n) [
      | inl low ↦ contains_later (joint_at c n) (joint_list c n) (joint_at c j) (in_joints c n j low)
      | inr high ↦ (let same : n ≡ j = omega (arith, less, high) in subst (λ k. Contains (joint_list c (suc n)) (joint_at c k)) same (contains_here (joint_at c n) (joint_list c n)))
    ]

from_joints : (c : Chain) (n : ℕ) (k : Link) → Contains (joint_list c n) k → (j : ℕ) × (j < n) × (k ≡ joint_at c j)
from_joints c zero k has = absurd (contains_none k has)
from_joints c (suc n) k has =
    elim (contains_cases (joint_at c n) (joint_list c n) k has) [
      | inl same ↦ (n, omega arith, sym same)
      | inr later ↦ (let (j, less, is) = from_joints c n k later in (j, omega (arith, less), is))
    ]

module _ (taken : List Chain) (plain positions one : List (List Disjunct)) (c : Chain) (are : AreChainsOfIdioms taken) (over : AreLaidOver taken plain positions) (m : Contains taken c)
    (within : last_of c < length positions) (lone : IsAsOneWord c positions one) (h : Linkage) (good : Good one h) (linked : IsLinked h (last_of c)) where
  word_of : (d : Disjunct) × (chosen_at h (last_of c) ≡ Some d)
  word_of = word_there c (are.several c m) positions one lone h good linked

  -- ---- there is one

  abbrev mend : (i : ℕ) → Place c i → Option Disjunct → Option Disjunct
  mend i (early is) o = Some (part_at c (i - c.start))
  mend i (final same) o = option_map (longer c) o
  mend i (beside free other) o = o

  abbrev mend_at : ℕ → Option Disjunct
  mend_at i = mend i (place_of c i) (chosen_at h i)

  mend_past : (i : ℕ) (p : Place c i) → length h.chosen ≤ i → mend i p (chosen_at h i) ≡ None
  mend_past i (early is) past =
      let to = is.1 in
      let first = good.belongs.same_length in
      let second = lone.same_length in
      absurd (omega (arith, to, first, second, within, past))
  mend_past i (final same) past = ap (option_map (longer c)) (get_or_past h.chosen i None past)
  mend_past i (beside free other) past = get_or_past h.chosen i None past

  mend_early : (i : ℕ) (p : Place c i) (o : Option Disjunct) → IsEarlier c i → mend i p o ≡ Some (part_at c (i - c.start))
  mend_early i (early is) o e = refl
  mend_early i (final same) o e = absurd (not_last c i same e)
  mend_early i (beside free other) o e = absurd (free e)

  mend_final : (p : Place c (last_of c)) (o : Option Disjunct) → mend (last_of c) p o ≡ option_map (longer c) o
  mend_final (early is) o = absurd (not_last c (last_of c) refl is)
  mend_final (final same) o = refl
  mend_final (beside free other) o = absurd (other refl)

  mend_beside : (i : ℕ) (p : Place c i) (o : Option Disjunct) → (IsEarlier c i → ⊥) → (i ≡ last_of c → ⊥) → mend i p o ≡ o
  mend_beside i (early is) o free apart = absurd (free is)
  mend_beside i (final same) o free apart = absurd (apart same)
  mend_beside i (beside free other) o not_early apart = refl

  abbrev all_links : List Link
  all_links = map (lift c) h.links ++ joint_list c (c.count - 1)

  kind_of : (k : Link) → Contains all_links k → Kind c h k
  kind_of k has =
      elim (Contains-append_cases (map (lift c) h.links) (joint_list c (c.count - 1)) k has) [
        | inl lifted ↦ (let (l, in_h, is) = map_out (lift c) h.links k lifted in old l in_h (sym is))
        | inr joint ↦ (let (j, less, is) = from_joints c (c.count - 1) k joint in new j (omega (arith, less)) is)
      ]

  some_mended : (g : Linkage) × IsMended c h g × (length g.chosen ≡ length h.chosen) × IsStrictlySortedBy link_cmp g.links
  some_mended =
      let (links, rise, same) = rising_of link_cmp links_total same_link all_links in
      let g : Linkage = record { chosen = row (length h.chosen) mend_at; links = links } in
      let at : (i : ℕ) → chosen_at g i ≡ mend_at i = row_at (length h.chosen) mend_at None (λ i past. mend_past i (place_of c i) past) in (
        g,
        record {
          early_at = λ j less. (
              let number : c.start + j - c.start ≡ j = omega arith in
              at (c.start + j) ∙ mend_early (c.start + j) (place_of c (c.start + j)) (chosen_at h (c.start + j)) (omega arith, omega (arith, less)) ∙ ap (λ n. Some (part_at c n)) number
              );
          final_at = λ d is. at (last_of c) ∙ mend_final (place_of c (last_of c)) (chosen_at h (last_of c)) ∙ ap (option_map (longer c)) is;
          beside_at = λ i free apart. at i ∙ mend_beside i (place_of c i) (chosen_at h i) free apart;
          lifted = λ l has. (same (lift c l)).1 (Contains-append_left (map (lift c) h.links) (joint_list c (c.count - 1)) (lift c l) (map_in (lift c) h.links l has));
          joints = λ j less. (same (joint_at c j)).1 (Contains-append_right (map (lift c) h.links) (joint_list c (c.count - 1)) (joint_at c j) (in_joints c (c.count - 1) j (omega (arith, less))));
          kinds = λ k has. kind_of k ((same k).0 has);
        },
        length_row (length h.chosen) mend_at,
        rise,
      )

  -- ---- it serves

  module _ (g : Linkage) (w : IsMended c h g) (long : length g.chosen ≡ length h.chosen) where
    last_used : UsesAt g c (suc (c.count - 2))
    last_used =
        let several = are.several c m in
        let (d, is) = word_of in
        let place : c.start + suc (c.count - 2) ≡ last_of c = omega (arith, several) in
        let own = (lone.last d).0 (good.belongs.listed (last_of c) d is) in
        (longer c d, ap (chosen_at g) place ∙ w.final_at d is, last_is c (c.count - 2) (nat_eq (suc (suc (c.count - 2))) c.count) refl (omega (arith, several)) d own)

    mended_uses : UsesAll g c
    mended_uses i less =
        elim (cases_lt (i + 1) c.count) [
          | inl more ↦ (part_at c i, w.early_at i more, early_is c i more)
          | inr high ↦
              let several = are.several c m in
              let number : suc (c.count - 2) ≡ i = omega (arith, less, high, several) in
              subst (UsesAt g c) number last_used
        ]

    covered : (i : ℕ) (d : Disjunct) → Covers c i → chosen_at g i ≡ Some d → Contains (slice_index_or positions i []) d
    covered i d (from, to) at =
        let (e, is, of) = mended_uses (i - c.start) (omega (arith, from, to)) in
        let place : c.start + (i - c.start) ≡ i = omega (arith, from) in
        let same : e ≡ d = same_Some e d (sym is ∙ ap (chosen_at g) place ∙ at) in
        (over.exactly i d).1 (inr (c, m, (from, to), subst (IsDisjunctOf c.word (formula_at c (i - c.start))) same of))

    listed : (i : ℕ) → Place c i → (d : Disjunct) → chosen_at g i ≡ Some d → Contains (slice_index_or positions i []) d
    listed i (early (from, to)) d at = covered i d (from, omega (arith, from, to)) at
    listed i (final same) d at = let several = are.several c m in covered i d (omega (arith, same), omega (arith, same, several)) at
    listed i (beside free other) d at = subst (λ l. Contains l d) (lone.others i free other) (good.belongs.listed i d (sym (w.beside_at i free other) ∙ at))

    mended_good : IsStrictlySortedBy link_cmp g.links → Good positions g
    mended_good rise = record {
      belongs = record {
        same_length = long ∙ good.belongs.same_length ∙ lone.same_length;
        listed = λ i d at. listed i (place_of c i) d at;
        set = rise;
      };
      rules = mended_rules c (are.several c m) positions one lone h good linked g w;
      connected = mended_connected c (are.several c m) positions one lone h good linked g w;
    }

    mended_without : IsWithoutJoints c g h
    mended_without = record {
      same_length = sym long;
      earlier = bare c (are.several c m) positions one lone h good linked;
      last = λ d at. (
          let (e, is) = word_of in
          is ∙ ap (λ x. Some (shorter x)) (same_Some (longer c e) d (sym (w.final_at e is) ∙ at))
          );
      others = λ i free apart. sym (w.beside_at i free apart);
      links = λ l. (
        λ has. (
          lift c l,
          w.lifted l has,
          not_left c (are.several c m) positions one lone h good linked l has,
          not_right c (are.several c m) positions one lone h good linked l has,
          sym (lowered_lift c l),
        ),
        λ from. (
            let (k, in_g, free, not_right, is) = from in
            let (r, in_h, k_is) = old_right c (are.several c m) positions one lone h good linked g w k (w.kinds k in_g) free in
            subst (HasLink h) (sym (is ∙ ap (lowered_at (last_of c)) k_is ∙ lowered_lift c r)) in_h
            ),
      );
    }

-- ---- and only one

module _ (taken : List Chain) (plain positions : List (List Disjunct)) (c : Chain) (are : AreChainsOfIdioms taken) (over : AreLaidOver taken plain positions) (m : Contains taken c) (h : Linkage) where
  -- a good linkage that uses the chain, and is this one without the joints
  record IsWith (g : Linkage) : Type 0 where
    good : Good positions g
    uses : UsesAll g c
    without : IsWithoutJoints c g h

  early_chosen : (g : Linkage) → UsesAll g c → (j : ℕ) → j + 1 < c.count → chosen_at g (c.start + j) ≡ Some (part_at c j)
  early_chosen g uses j less =
      let (d, is, of) = uses j (omega (arith, less)) in
      is ∙ ap Some (is_part c d j (part_of c j d of) less of.named)

  last_chosen : (g : Linkage) → UsesAll g c → IsWithoutJoints c g h → chosen_at g (last_of c) ≡ option_map (longer c) (chosen_at h (last_of c))
  last_chosen g uses w =
      let several = are.several c m in
      let (d, is, of) = uses (c.count - 1) (omega (arith, several)) in
      is ∙ ap Some (is_longer c d (c.count - 1) (part_of c (c.count - 1) d of) (omega (arith, several)) several) ∙ ap (option_map (longer c)) (sym (w.last d is))

  chosen_same : (f g : Linkage) → IsWith f → IsWith g → (i : ℕ) → Place c i → chosen_at f i ≡ chosen_at g i
  chosen_same f g p q i (early is) =
      let (j, less, same) = number_of c i is in
      ap (chosen_at f) same ∙ early_chosen f p.uses j less ∙ sym (early_chosen g q.uses j less) ∙ ap (chosen_at g) (sym same)
  chosen_same f g p q i (final same) =
      ap (chosen_at f) same ∙ last_chosen f p.uses p.without ∙ sym (last_chosen g q.uses q.without) ∙ ap (chosen_at g) (sym same)
  chosen_same f g p q i (beside free other) = sym (p.without.others i free other) ∙ q.without.others i free other

  late_link : (f g : Linkage) → IsWith f → IsWith g → (l : Link) → HasLink f l → (IsEarlier c l.left → ⊥) → HasLink g l
  late_link f g p q l has free =
      let (k, in_h, is) = drops taken plain positions are over f p.good c m p.uses h p.without l has free in
      subst (HasLink g) (sym is) (lifts taken plain positions are over g q.good c m q.uses h q.without k in_h).0

  link_in : (f g : Linkage) → IsWith f → IsWith g → (l : Link) → HasLink f l → Place c l.left → HasLink g l
  link_in f g p q l has (early is) =
      let (j, less, same) = number_of c l.left is in
      let next = joined taken plain positions are over g q.good c m q.uses j less in
      let joint : l ≡ joint_at c j = leaves_as taken plain positions are over f p.good c m p.uses j less l has same ∙ joint_is f c j (joined taken plain positions are over f p.good c m p.uses j less) in
      subst (HasLink g) (joint_is g c j next ∙ sym joint) next.has
  link_in f g p q l has (final same) = late_link f g p q l has (not_last c l.left same)
  link_in f g p q l has (beside free other) = late_link f g p q l has free

  only_one : (f g : Linkage) → IsWith f → IsWith g → f ≡ g
  only_one f g p q =
      let chosen : f.chosen ≡ g.chosen = same_rows f.chosen g.chosen None (sym p.without.same_length ∙ q.without.same_length) (λ i. chosen_same f g p q i (place_of c i)) in
      let links : f.links ≡ g.links = same_rising link_cmp links_total f.links g.links p.good.belongs.set q.good.belongs.set
      (λ l. (λ has. link_in f g p q l has (place_of c l.left), λ has. link_in g f q p l has (place_of c l.left))) in
      λ i. record { chosen = chosen i; links = links i }

pub chains_stand_for_words : ChainsStandForWords
chains_stand_for_words taken plain positions one c are over m within lone = (
  λ g good uses. stands taken plain positions are over g good c m uses one lone,
  λ h good linked. (
      let (g, w, long, rise) = some_mended taken plain positions one c are over m within lone h good linked in
      let served = mended_good taken plain positions one c are over m within lone h good linked g w long rise in
      let uses = mended_uses taken plain positions one c are over m within lone h good linked g w long in
      let without = mended_without taken plain positions one c are over m within lone h good linked g w long in (
        g,
        served,
        uses,
        without,
        λ f f_good f_uses f_without. only_one taken plain positions c are over m h f g (record { good = f_good; uses = f_uses; without = f_without }) (record { good = served; uses = uses; without = without }),
      )
      ),
)
