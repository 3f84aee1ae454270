-- A good linkage uses a chain as a whole, or not at all.
use Rattle.std.proofs.Common.{◌≡◌, ◌⊎◌, ℕ, zero, suc, ◌+◌, ◌-◌, ◌<◌, true, false, inl, inr, List, [], slice_get, Option, Some, None, Contains, refl, ap, sym, ◌∙◌, subst, arith}
use Rattle.std.specs.Prelude.{slice_index_or}
use Rattle.std.proofs.lemmas.Bool.{cases_eq}
use Rattle.std.proofs.lemmas.List.Elements.{Contains-append_left, Contains-append_right}
use Rattle.std.proofs.lemmas.Option.{none-some, same_Some}
use Rattle.lg_gram.specs.Connectors.{Connector}
use Rattle.lg_gram.specs.Disjuncts.{IsDisjunctOf}
use Rattle.lg_gram.specs.Linkages.{Linkage}
use Rattle.lg_gram.specs.Names.{IsJoint, joint_text, joint_fits}
use Rattle.lg_gram.specs.Rules.{Good, HasLink, chosen_at, left_list, right_list, rights_of, lefts_of}
use Rattle.lg_gram.specs.declared.disjunct.Disjunct.{Disjunct}
use Rattle.lg_gram.specs.declared.linkage.Link.{Link}
use Rattle.lg_idiom.specs.Idioms.{Chain, joint_of, formula_at}
use Rattle.lg_idiom.specs.Wholes.{AreChainsOfIdioms, AreLaidOver, UsesAt, UsesAll, UsesNone, ChainsAreWhole}
use Rattle.lg_idiom.proofs.Chains.{contains_at}
use Rattle.lg_idiom.proofs.JointTexts.{joint_read}
use Rattle.lg_idiom.proofs.Joints.{right_joint, left_joint, right_of_part}
use Rattle.lg_idiom.proofs.Parts.{Part, begins, goes_on, ends, part_of}

-- ---- the joints of a chain's disjunct

-- before the last position the joint to the next one stands first to the right
pub next_first : (c : Chain) (d : Disjunct) (i : ℕ) → Part c d i → i + 1 < c.count → slice_get d.right 0 ≡ Some (joint_of c i true)
next_first c d zero (begins l r cost) more = ap (λ xs. slice_get xs 0) r
next_first c d (suc k) (goes_on _ _ l r cost) more = ap (λ xs. slice_get xs 0) r
next_first c d (suc k) (ends _ own last l is) more = absurd (omega (arith, last, more))

-- and behind the first one that to the position before, to the left
pub before_first : (c : Chain) (d : Disjunct) (k : ℕ) → Part c d (suc k) → slice_get d.left 0 ≡ Some (joint_of c k false)
before_first c d k (goes_on _ _ l r cost) = ap (λ xs. slice_get xs 0) l
before_first c d k (ends _ own last l is) = ap (λ xs. slice_get xs 0) l

pub joint_here : (c : Chain) (i : ℕ) (caps : List ℕ) → joint_fits c.rank c.start i ≡ true → caps ≡ joint_text c.rank c.start i → IsJoint caps
joint_here c i caps fits is = record { rank = c.rank; start = c.start; joint = i; fits = fits; spelled = is }

-- The link from the i-th position of a chain to the next one. The chain is used at both.
pub record Joined (g : Linkage) (c : Chain) (i : ℕ) : Type 0 where
  pub link : Link
  pub has : HasLink g link
  pub from : link.left ≡ c.start + i
  pub leaves : link.lplace ≡ 0
  pub to : link.right ≡ c.start + suc i
  pub enters : link.rplace ≡ 0
  pub here : UsesAt g c i
  pub next : UsesAt g c (suc i)

module _ (taken : List Chain) (plain positions : List (List Disjunct)) (are : AreChainsOfIdioms taken) (over : AreLaidOver taken plain positions) where
  -- joints of one text are of one chain
  same_chain : (c e : Chain) → Contains taken c → Contains taken e → (i k : ℕ) → joint_fits c.rank c.start i ≡ true → joint_text e.rank e.start k ≡ joint_text c.rank c.start i → (e ≡ c) × (k ≡ i)
  same_chain c e m n i k fits text =
      let read = joint_read e.rank e.start k c.rank c.start i fits text in
      (are.apart e c n m read.1.0 read.0, read.1.1)

  -- a plain disjunct has not the joint of a chain
  pub plain_right : (p : ℕ) (d : Disjunct) (q : ℕ) (c : Chain) → Contains taken c → (i : ℕ) → i + 1 < c.count → Contains (slice_index_or plain p []) d → slice_get d.right q ≡ Some (joint_of c i true) → ⊥
  plain_right p d q c m i less in_plain at =
      over.no_joint p d in_plain (joint_of c i true) (Contains-append_right d.left d.right _ (contains_at d.right q _ at)) (joint_here c i _ (are.fits c m i less) refl)

  pub plain_left : (p : ℕ) (d : Disjunct) (q : ℕ) (c : Chain) → Contains taken c → (i : ℕ) → i + 1 < c.count → Contains (slice_index_or plain p []) d → slice_get d.left q ≡ Some (joint_of c i false) → ⊥
  plain_left p d q c m i less in_plain at =
      over.no_joint p d in_plain (joint_of c i false) (Contains-append_left d.left d.right _ (contains_at d.left q _ at)) (joint_here c i _ (are.fits c m i less) refl)

  module _ (g : Linkage) (good : Good positions g) where
    -- from a position to the next one
    pub upward : (c : Chain) → Contains taken c → (i : ℕ) → i + 1 < c.count → UsesAt g c i → Joined g c i
    upward c m i less uses =
        let (d, is, of) = uses in
        let at : slice_get (rights_of g (c.start + i)) 0 ≡ Some (joint_of c i true) = ap (λ o. slice_get (right_list o) 0) is ∙ next_first c d i (part_of c i d of) less in
        let fits = are.fits c m i less in
        let (l, has, from, leaves) = (good.rules.satisfied.on_right (c.start + i) 0 (joint_of c i true) at).some in
        let (a, b, first, second, match) = good.rules.matched.joins l has in
        let a_is : a ≡ joint_of c i true = same_Some a (joint_of c i true) (sym first ∙ (λ t. slice_get (rights_of g (from t)) (leaves t)) ∙ at) in
        let text : b.caps ≡ joint_text c.rank c.start i = sym match.capitals ∙ ap (λ (z : Connector). z.caps) a_is in
        let (e, n, k, to, used, b_is, enters) = left_joint taken plain positions are over g good l.right l.rplace b second (joint_here c i b.caps fits text) in
        let (chains, numbers) = same_chain c e m n i k fits (sym (ap (λ (z : Connector). z.caps) b_is) ∙ text) in
        record {
          link = l;
          has = has;
          from = from;
          leaves = leaves;
          to = to ∙ (λ t. (chains t).start + suc (numbers t));
          enters = enters;
          here = uses;
          next = subst (λ (x : Chain). UsesAt g x (suc i)) chains (subst (λ j. UsesAt g e (suc j)) numbers used);
        }

    -- and back
    pub downward : (c : Chain) → Contains taken c → (i : ℕ) → i + 1 < c.count → UsesAt g c (suc i) → UsesAt g c i
    downward c m i less uses =
        let (d, is, of) = uses in
        let at : slice_get (lefts_of g (c.start + suc i)) 0 ≡ Some (joint_of c i false) = ap (λ o. slice_get (left_list o) 0) is ∙ before_first c d i (part_of c (suc i) d of) in
        let fits = are.fits c m i less in
        let (l, has, to, enters) = (good.rules.satisfied.on_left (c.start + suc i) 0 (joint_of c i false) at).some in
        let (a, b, first, second, match) = good.rules.matched.joins l has in
        let b_is : b ≡ joint_of c i false = same_Some b (joint_of c i false) (sym second ∙ (λ t. slice_get (lefts_of g (to t)) (enters t)) ∙ at) in
        let text : a.caps ≡ joint_text c.rank c.start i = match.capitals ∙ ap (λ (z : Connector). z.caps) b_is in
        let (e, n, k, from, used, a_is) = right_joint taken plain positions are over g good l.left l.lplace a first (joint_here c i a.caps fits text) in
        let (chains, numbers) = same_chain c e m n i k fits (sym (ap (λ (z : Connector). z.caps) a_is) ∙ text) in
        subst (λ (x : Chain). UsesAt g x i) chains (subst (λ j. UsesAt g e j) numbers used)

    to_all : (c : Chain) → Contains taken c → UsesAt g c 0 → (i : ℕ) → i < c.count → UsesAt g c i
    to_all c m first zero less = first
    to_all c m first (suc i) less = (upward c m i (omega (arith, less)) (to_all c m first i (omega (arith, less)))).next

    to_first : (c : Chain) → Contains taken c → (i : ℕ) → i < c.count → UsesAt g c i → UsesAt g c 0
    to_first c m zero less uses = uses
    to_first c m (suc i) less uses = to_first c m i (omega (arith, less)) (downward c m i (omega (arith, less)) uses)

    -- what the linkage chooses at the first position decides
    begins_with : (c : Chain) → Contains taken c → (d : Disjunct) → chosen_at g (c.start + 0) ≡ Some d → UsesAt g c 0 → slice_get d.right 0 ≡ Some (joint_of c 0 true)
    begins_with c m d is uses =
        let (e, e_is, of) = uses in
        let several = are.several c m in
        subst (λ (x : Disjunct). slice_get x.right 0 ≡ Some (joint_of c 0 true)) (same_Some e d (sym e_is ∙ is)) (next_first c e 0 (part_of c 0 e of) (omega (arith, several)))

    added_first : (c e : Chain) → Contains taken c → Contains taken e → (d : Disjunct) (i : ℕ) → IsDisjunctOf e.word (formula_at e i) d → slice_get d.right 0 ≡ Some (joint_of c 0 true) → e ≡ c
    added_first c e m n d i of at =
        let several = are.several c m in
        let fits = are.fits c m 0 (omega (arith, several)) in
        let is = right_of_part e (are.no_joint e n) d i (part_of e i d of) 0 (joint_of c 0 true) at (joint_here c 0 _ fits refl) in
        (same_chain c e m n 0 i fits (sym (ap (λ (z : Connector). z.caps) is))).0

    same_or_not : (c e : Chain) → ((c.start ≡ e.start) × (c.rank ≡ e.rank)) ⊎ (e ≡ c → ⊥)
    same_or_not c e =
        elim (cases_eq c.start e.start) [
          | inr other ↦ inr (λ is. other (sym (ap (λ (x : Chain). x.start) is)))
          | inl starts ↦ elim (cases_eq c.rank e.rank) [
            | inr other ↦ inr (λ is. other (sym (ap (λ (x : Chain). x.rank) is)))
            | inl ranks ↦ inl (starts, ranks)
          ]
        ]

    by_choice : (c : Chain) → Contains taken c → (o : Option Disjunct) → chosen_at g (c.start + 0) ≡ o → UsesAt g c 0 ⊎ (UsesAt g c 0 → ⊥)
    by_choice c m None none = inr (λ uses. none-some uses.0 (sym none ∙ uses.1))
    by_choice c m (Some d) is =
        elim ((over.exactly (c.start + 0) d).0 (good.belongs.listed (c.start + 0) d is)) [
          | inl in_plain ↦ inr (λ uses. let several = are.several c m in plain_right (c.start + 0) d 0 c m 0 (omega (arith, several)) in_plain (begins_with c m d is uses))
          | inr added ↦
              let (e, n, covers, of) = added in
              elim (same_or_not c e) [
                | inr other ↦ inr (λ uses. other (added_first c e m n d (c.start + 0 - e.start) of (begins_with c m d is uses)))
                | inl same ↦
                    let starts = same.0 in
                    let chains : c ≡ e = are.apart c e m n starts same.1 in
                    let number : c.start + 0 - e.start ≡ 0 = omega (arith, starts) in
                    inl (d, is, subst (λ (x : Chain). IsDisjunctOf x.word (formula_at x 0) d) (sym chains) (subst (λ j. IsDisjunctOf e.word (formula_at e j) d) number of))
              ]
        ]

    whole : (c : Chain) → Contains taken c → UsesAll g c ⊎ UsesNone g c
    whole c m =
        elim (by_choice c m (chosen_at g (c.start + 0)) refl) [
          | inl first ↦ inl (to_all c m first)
          | inr not_first ↦ inr (λ i less uses. not_first (to_first c m i less uses))
        ]

pub chains_are_whole : ChainsAreWhole
chains_are_whole taken plain positions are over g good c m = whole taken plain positions are over g good c m
