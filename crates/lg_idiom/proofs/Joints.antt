-- Where joints stand in a good linkage, and what they join.
use Rattle.std.proofs.Common.{◌≡◌, ℕ, zero, suc, ◌+◌, ◌-◌, true, false, inl, inr, List, [], ◌∷◌, slice_get, Option, Some, None, Contains, refl, ap, sym, ◌∙◌, subst, arith}
use Rattle.std.specs.Prelude.{IfSome}
use Rattle.std.specs.Option.{option_zip}
use Rattle.std.proofs.lemmas.List.Elements.{Contains-append_left, Contains-append_right}
use Rattle.std.proofs.lemmas.Option.{none-some, same_Some}
use Rattle.lg_gram.specs.Connectors.{Connector}
use Rattle.lg_gram.specs.Disjuncts.{IsDisjunctOf}
use Rattle.lg_gram.specs.Labels.{label_between}
use Rattle.lg_gram.specs.Linkages.{Linkage}
use Rattle.lg_gram.specs.Names.{IsJoint}
use Rattle.lg_gram.specs.Rules.{Good, HasLink, chosen_at, left_list, right_list, rights_of, lefts_of}
use Rattle.lg_gram.specs.declared.disjunct.Disjunct.{Disjunct}
use Rattle.lg_gram.specs.declared.linkage.Link.{Link}
use Rattle.lg_idiom.specs.Idioms.{Chain, joint_of}
use Rattle.lg_idiom.specs.Wholes.{HasNoJoint, AreChainsOfIdioms, AreLaidOver, UsesAt, IsJointLink, JointsJoinNeighbours}
use Rattle.lg_idiom.proofs.Chains.{contains_at}
use Rattle.lg_idiom.proofs.JointTexts.{joint_read}
use Rattle.lg_idiom.proofs.Parts.{Part, begins, goes_on, ends, part_of}

-- ---- lists of one

pub at_one : (a x : Connector) (q : ℕ) → slice_get (a ∷ []) q ≡ Some x → (a ≡ x) × (q ≡ 0)
at_one a x zero e = (same_Some a x e, refl)
at_one a x (suc q) e = absurd (none-some x e)

-- ---- a disjunct of a chain

-- where its right list has a joint, that is the chain's, to the next position
pub right_of_part : (c : Chain) → ((d : Disjunct) → IsDisjunctOf c.word c.formula d → HasNoJoint d)
    → (d : Disjunct) (i : ℕ) → Part c d i → (q : ℕ) (x : Connector) → slice_get d.right q ≡ Some x → IsJoint x.caps → x ≡ joint_of c i true
right_of_part c none d zero (begins l r cost) q x at joint = sym (at_one (joint_of c 0 true) x q (ap (λ xs. slice_get xs q) (sym r) ∙ at)).0
right_of_part c none d (suc k) (goes_on _ more l r cost) q x at joint = sym (at_one (joint_of c (suc k) true) x q (ap (λ xs. slice_get xs q) (sym r) ∙ at)).0
right_of_part c none d (suc k) (ends _ own last l is) q x at joint = absurd (none (record d { left = own }) is x (Contains-append_right own d.right x (contains_at d.right q x at)) joint)

-- where its left list has a joint, that is the chain's, from the position before, and stands first
pub left_of_part : (c : Chain) → ((d : Disjunct) → IsDisjunctOf c.word c.formula d → HasNoJoint d)
    → (d : Disjunct) (i : ℕ) → Part c d i → (q : ℕ) (x : Connector) → slice_get d.left q ≡ Some x → IsJoint x.caps → (k : ℕ) × (i ≡ suc k) × (x ≡ joint_of c k false) × (q ≡ 0)
left_of_part c none d zero (begins l r cost) q x at joint = absurd (none-some x (ap (λ xs. slice_get xs q) (sym l) ∙ at))
left_of_part c none d (suc k) (goes_on _ more l r cost) q x at joint =
    let one = at_one (joint_of c k false) x q (ap (λ xs. slice_get xs q) (sym l) ∙ at) in
    (k, refl, sym one.0, one.1)
left_of_part c none d (suc k) (ends _ own last l is) zero x at joint = (k, refl, sym (same_Some (joint_of c k false) x (ap (λ xs. slice_get xs 0) (sym l) ∙ at)), refl)
left_of_part c none d (suc k) (ends _ own last l is) (suc q) x at joint =
    absurd (none (record d { left = own }) is x (Contains-append_left own d.right x (contains_at own q x (ap (λ xs. slice_get xs (suc q)) (sym l) ∙ at))) joint)

-- ---- what stands at a position

some_right : (o : Option Disjunct) (q : ℕ) (x : Connector) → slice_get (right_list o) q ≡ Some x → (d : Disjunct) × (o ≡ Some d) × (slice_get d.right q ≡ Some x)
some_right None q x at = absurd (none-some x at)
some_right (Some d) q x at = (d, refl, at)

some_left : (o : Option Disjunct) (q : ℕ) (x : Connector) → slice_get (left_list o) q ≡ Some x → (d : Disjunct) × (o ≡ Some d) × (slice_get d.left q ≡ Some x)
some_left None q x at = absurd (none-some x at)
some_left (Some d) q x at = (d, refl, at)

joint_of_label : (o p : Option Connector) (a b : Connector) → o ≡ Some a → p ≡ Some b → IfSome (label_between (option_zip o p)) (λ n. IsJoint n.caps) → IsJoint a.caps
joint_of_label None p a b e f h = absurd (none-some a e)
joint_of_label (Some x) None a b e f h = absurd (none-some b f)
joint_of_label (Some x) (Some y) a b e f h = subst (λ (z : Connector). IsJoint z.caps) (same_Some x a e) h

module _ (taken : List Chain) (plain positions : List (List Disjunct)) (are : AreChainsOfIdioms taken) (over : AreLaidOver taken plain positions) (g : Linkage) (good : Good positions g) where
  -- a joint to the right is that of a chain that is used there
  pub right_joint : (p q : ℕ) (x : Connector) → slice_get (rights_of g p) q ≡ Some x → IsJoint x.caps
      → (c : Chain) × Contains taken c × (i : ℕ) × (p ≡ c.start + i) × UsesAt g c i × (x ≡ joint_of c i true)
  right_joint p q x at joint =
      let (d, is, there) = some_right (chosen_at g p) q x at in
      elim ((over.exactly p d).0 (good.belongs.listed p d is)) [
        | inl m ↦ absurd (over.no_joint p d m x (Contains-append_right d.left d.right x (contains_at d.right q x there)) joint)
        | inr added ↦
            let (c, m, covers, of) = added in
            let place : c.start + (p - c.start) ≡ p = (let low = covers.0 in omega (arith, low)) in
            (c, m, p - c.start, sym place, (d, ap (chosen_at g) place ∙ is, of), right_of_part c (are.no_joint c m) d (p - c.start) (part_of c (p - c.start) d of) q x there joint)
      ]

  -- and a joint to the left too, and it stands first
  pub left_joint : (p q : ℕ) (x : Connector) → slice_get (lefts_of g p) q ≡ Some x → IsJoint x.caps
      → (c : Chain) × Contains taken c × (k : ℕ) × (p ≡ c.start + suc k) × UsesAt g c (suc k) × (x ≡ joint_of c k false) × (q ≡ 0)
  left_joint p q x at joint =
      let (d, is, there) = some_left (chosen_at g p) q x at in
      elim ((over.exactly p d).0 (good.belongs.listed p d is)) [
        | inl m ↦ absurd (over.no_joint p d m x (Contains-append_left d.left d.right x (contains_at d.left q x there)) joint)
        | inr added ↦
            let (c, m, covers, of) = added in
            let place : c.start + (p - c.start) ≡ p = (let low = covers.0 in omega (arith, low)) in
            let (k, later, same, first) = left_of_part c (are.no_joint c m) d (p - c.start) (part_of c (p - c.start) d of) q x there joint in
            let uses : UsesAt g c (p - c.start) = (d, ap (chosen_at g) place ∙ is, of) in
            (c, m, k, sym place ∙ ap (λ n. c.start + n) later, subst (UsesAt g c) later uses, same, first)
      ]

  pub neighbours : (l : Link) → HasLink g l → IsJointLink g l → l.right ≡ l.left + 1
  neighbours l has is =
      let (a, b, first, second, match) = good.rules.matched.joins l has in
      let joint : IsJoint a.caps = joint_of_label (slice_get (rights_of g l.left) l.lplace) (slice_get (lefts_of g l.right) l.rplace) a b first second is.0 in
      let (c, m, i, left_is, uses, a_is) = right_joint l.left l.lplace a first joint in
      let (e, n, k, right_is, uses_too, b_is, front) = left_joint l.right l.rplace b second (subst IsJoint match.capitals joint) in
      let own = joint_read c.rank c.start i joint.rank joint.start joint.joint joint.fits (ap (λ (z : Connector). z.caps) (sym a_is) ∙ joint.spelled) in
      let other = joint_read e.rank e.start k joint.rank joint.start joint.joint joint.fits (ap (λ (z : Connector). z.caps) (sym b_is) ∙ sym match.capitals ∙ joint.spelled) in
      let starts : c.start ≡ joint.start = own.1.0 in
      let numbers : i ≡ joint.joint = own.1.1 in
      let starts_too : e.start ≡ joint.start = other.1.0 in
      let numbers_too : k ≡ joint.joint = other.1.1 in
      omega (arith, left_is, right_is, starts, numbers, starts_too, numbers_too)

pub joints_join : JointsJoinNeighbours
joints_join taken plain positions are over g good l has is = neighbours taken plain positions are over g good l has is
