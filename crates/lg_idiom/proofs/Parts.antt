-- The disjuncts that a chain adds to its positions.
use Rattle.std.proofs.Common.{◌≡◌, ℕ, zero, suc, ◌-◌, Bool, true, false, eqb-true, eq-eqb, List, [], ◌∷◌, map, Contains, inl, inr, refl, ap, sym, ◌∙◌, subst, arith, ℤ, pos, ◌+ℤ◌}
use Rattle.std.specs.Prelude.{◌≤ℤ◌, nat_eq}
use Rattle.std.proofs.Math.IntN.{+ℤ_idl, +ℤ_idr}
use Rattle.std.proofs.lemmas.Bool.{both_ways}
use Rattle.std.proofs.lemmas.List.{append-nil}
use Rattle.lg_base.proofs.Elements.{contains_here, contains_cases, contains_none, map_in, map_out, flat_in, flat_out}
use Rattle.lg_gram.specs.Connectors.{Connector}
use Rattle.lg_gram.specs.Disjuncts.{choice_of, IsDisjunctOf}
use Rattle.lg_gram.specs.Measures.{Choice, no_connectors, single, joined, choices_of, picks_of}
use Rattle.lg_gram.specs.Trees.{Tree, leaf, no_trees, tree}
use Rattle.lg_gram.specs.declared.disjunct.Disjunct.{Disjunct}
use Rattle.lg_idiom.specs.Idioms.{Chain, joint_of, pair, later_formula, formula_at}

pub only : {X : Type 0} (y x : X) → Contains (y ∷ []) x → y ≡ x
only y x h =
    elim (contains_cases y [] x h) [
      | inl e ↦ e
      | inr m ↦ absurd (contains_none x m)
    ]

-- ---- a connector, and then a tree

abbrev pub behind : Connector → Choice → Choice
behind a e = joined (single a) (joined e no_connectors)

pub pair_out : (a : Connector) (t : Tree) (c : Choice) → Contains (choices_of (pair (leaf a) t)) c → (e : Choice) × Contains (choices_of t) e × (behind a e ≡ c)
pair_out a t c h =
    let (x, in_first, in_rest) = flat_out (λ b. map (joined b) (picks_of (tree t no_trees))) (choices_of (leaf a)) c h in
    let is : single a ≡ x = only (single a) x in_first in
    let (y, in_picks, joined_is) = map_out (joined x) (picks_of (tree t no_trees)) c in_rest in
    let (e, in_tree, in_one) = flat_out (λ b. map (joined b) (picks_of no_trees)) (choices_of t) y in_picks in
    (e, in_tree, (λ i. joined (is i) (only (joined e no_connectors) y in_one i)) ∙ joined_is)

pub pair_in : (a : Connector) (t : Tree) (e : Choice) → Contains (choices_of t) e → Contains (choices_of (pair (leaf a) t)) (behind a e)
pair_in a t e h =
    flat_in (λ b. map (joined b) (picks_of (tree t no_trees))) (choices_of (leaf a)) (single a) (behind a e) (contains_here (single a) [])
    (map_in (joined (single a)) (picks_of (tree t no_trees)) (joined e no_connectors)
    (flat_in (λ b. map (joined b) (picks_of no_trees)) (choices_of t) e (joined e no_connectors) h (contains_here (joined e no_connectors) [])))

pub same_cost : (z : ℤ) → pos 0 +ℤ (z +ℤ pos 0) ≡ z
same_cost z = +ℤ_idl (z +ℤ pos 0) ∙ +ℤ_idr z

-- ---- what each position has

-- The disjunct of a chain at its i-th position: at the first the joint to the next one; then the joint to the one before, and the joint to
-- the next one, or at the end the lists of one of the compound's own.
pub data Part (c : Chain) (d : Disjunct) : ℕ → Type 0 where
  begins : d.left ≡ [] → d.right ≡ joint_of c 0 true ∷ [] → d.cost ≡ pos 0 → Part c d zero
  goes_on : (k : ℕ) → (suc (suc k) ≡ c.count → ⊥) → d.left ≡ joint_of c k false ∷ [] → d.right ≡ joint_of c (suc k) true ∷ [] → d.cost ≡ pos 0 → Part c d (suc k)
  ends : (k : ℕ) (own : List Connector) → suc (suc k) ≡ c.count → d.left ≡ joint_of c k false ∷ own → IsDisjunctOf c.word c.formula (record d { left = own }) → Part c d (suc k)

pub one_less : (k : ℕ) → suc k - 1 ≡ k
one_less k = omega arith

later_part : (c : Chain) (k : ℕ) (last : Bool) → nat_eq (suc (suc k)) c.count ≡ last → (d : Disjunct) → IsDisjunctOf c.word (later_formula c (suc k) last) d → Part c d (suc k)
later_part c k false test d it =
    let a = joint_of c k false in
    let b = joint_of c (suc k) true in
    let is : IsDisjunctOf c.word (pair (leaf a) (leaf b)) d = subst (λ n. IsDisjunctOf c.word (pair (leaf (joint_of c n false)) (leaf b)) d) (one_less k) it in
    let (e, in_leaf, same) = pair_out a (leaf b) (choice_of d) is.chosen in
    let one : behind a (single b) ≡ choice_of d = ap (behind a) (only (single b) e in_leaf) ∙ same in
    goes_on k (λ e. not_both e) (sym (ap (λ (x : Choice). x.left) one)) (sym (ap (λ (x : Choice). x.right) one)) (sym (ap (λ (x : Choice). x.cost) one))
  where
    not_both : suc (suc k) ≡ c.count → ⊥
    not_both e = both_ways (nat_eq (suc (suc k)) c.count) test (eq-eqb (suc (suc k)) c.count e)
later_part c k true test d it =
    let a = joint_of c k false in
    let is : IsDisjunctOf c.word (pair (leaf a) c.formula) d = subst (λ n. IsDisjunctOf c.word (pair (leaf (joint_of c n false)) c.formula) d) (one_less k) it in
    let (e, in_own, same) = pair_out a c.formula (choice_of d) is.chosen in
    let left_is : a ∷ e.left ≡ d.left = ap (λ (l : List Connector). a ∷ l) (sym (append-nil e.left)) ∙ ap (λ (x : Choice). x.left) same in
    let right_is : e.right ≡ d.right = sym (append-nil e.right) ∙ ap (λ (x : Choice). x.right) same in
    let cost_is : e.cost ≡ d.cost = sym (same_cost e.cost) ∙ ap (λ (x : Choice). x.cost) same in
    ends k e.left (eqb-true (suc (suc k)) c.count test) (sym left_is)
    (record {
      named = is.named;
      chosen = subst (Contains (choices_of c.formula)) (λ i. record { left = e.left; right = right_is i; cost = cost_is i }) in_own;
      least = λ f in_f l r. subst (λ z. d.cost ≤ℤ z) (same_cost f.cost)
          (is.least (behind a f) (pair_in a c.formula f in_f) (ap (λ (l : List Connector). a ∷ l) (append-nil f.left ∙ l) ∙ left_is) (append-nil f.right ∙ r));
    })

pub part_of : (c : Chain) (i : ℕ) (d : Disjunct) → IsDisjunctOf c.word (formula_at c i) d → Part c d i
part_of c zero d is =
    let one : single (joint_of c 0 true) ≡ choice_of d = only (single (joint_of c 0 true)) (choice_of d) is.chosen in
    begins (sym (ap (λ (x : Choice). x.left) one)) (sym (ap (λ (x : Choice). x.right) one)) (sym (ap (λ (x : Choice). x.cost) one))
part_of c (suc k) d is = later_part c k (nat_eq (suc (suc k)) c.count) refl d is
