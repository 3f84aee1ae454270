-- A chain keeps its last formula.
use Rattle.std.proofs.Common.{◌≡◌, suc, ◌+◌, ◌-◌, ◌≤◌, true, false, nat_eq, ap, sym, subst, ◌∙◌, arith}
use Rattle.std.proofs.lemmas.Bool.Decides.{nat_tests}
use Rattle.lg_gram.specs.Connectors.{Connector}
use Rattle.lg_gram.specs.Formulas.{IsFormula}
use Rattle.lg_gram.specs.Limits.{POSITIONS, JOINT_RANK}
use Rattle.lg_gram.specs.Trees.{Tree, leaf, tree_of}
use Rattle.lg_idiom.specs.Idioms.{Chain, pair, joint_of, later_formula, formula_at}
use Rattle.lg_idiom.specs.Kept.{IsKept, seen_chain, second_of}
use Rattle.lg_idiom.specs.declared.chain.Chain.TheInside.{Inside}

last_is : (c : Chain) → 2 ≤ c.count → formula_at c (c.count - 1) ≡ pair (leaf (joint_of c (c.count - 2) false)) c.formula
last_is c more =
    let place : c.count - 1 ≡ suc (c.count - 2) = omega (arith, more) in
    let ends : nat_eq (suc (suc (c.count - 2))) c.count ≡ true = grind (arith, nat_tests, more) in
    let before : suc (c.count - 2) - 1 ≡ c.count - 2 = omega arith in
    ap (formula_at c) place ∙ ap (later_formula c (suc (c.count - 2))) ends ∙ ap (λ n. pair (leaf (joint_of c n false)) c.formula) before

pub kept : (a : Inside) (t : Tree) (j : Connector) → 2 ≤ a.count → a.start + a.count ≤ POSITIONS → a.rank ≤ JOINT_RANK → j ≡ joint_of (seen_chain a) (a.count - 2) false → tree_of a.last ≡ pair (leaf j) t
    → IsFormula (pair (leaf j) t) → IsKept a
kept a t j several within low joint is small =
    let own : second_of (tree_of a.last) ≡ t = ap second_of is in
    let last : tree_of a.last ≡ formula_at (seen_chain a) (a.count - 1) =
    is ∙ ap (λ i. pair (leaf i) t) joint ∙ ap (λ u. pair (leaf (joint_of (seen_chain a) (a.count - 2) false)) u) (sym own) ∙ sym (last_is (seen_chain a) several) in
    record {
      usable = record { rank = low; last = subst IsFormula (sym is ∙ last) small };
      last = last;
      several = several;
      within = within;
    }
