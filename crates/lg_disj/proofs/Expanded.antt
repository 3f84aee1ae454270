-- What is kept of the listed choices are the disjuncts of a word.
use Rattle.std.proofs.Common.{◌≡◌, ℕ, ◌≤◌, List, length, map, ap, subst, ◌∙◌, arith}
use Rattle.std.specs.Prelude.{◌↔◌}
use Rattle.std.specs.List.{All, Contains}
use Rattle.std.specs.List.Sorted.{IsStrictlySortedBy}
use Rattle.std.proofs.lemmas.List.{length-map}
use Rattle.lg_gram.specs.Connectors.{Connector}
use Rattle.lg_gram.specs.declared.disjunct.Disjunct.{Disjunct}
use Rattle.lg_gram.specs.declared.expr.Expr.{Expr}
use Rattle.lg_gram.specs.Disjuncts.{AreDisjuncts}
use Rattle.lg_gram.specs.Formulas.{IsFormula}
use Rattle.lg_gram.specs.Measures.{Choice, choices_of}
use Rattle.lg_gram.specs.Problems.{FitsProblem}
use Rattle.lg_gram.specs.Trees.{tree_of}
use Rattle.lg_disj.specs.Choices.{lists_cmp, disjunct_of, IsCheapest}
use Rattle.lg_disj.specs.Grown.{StandFor}
use Rattle.lg_disj.specs.Places.{Places, choice_by}
use Rattle.lg_disj.proofs.Disjuncts.{are_disjuncts, fit_problem}

-- the choices of an expression, all and those that are kept
pub record IsExpanded (leaves : List Connector) (all kept : List Places) (e : Expr) : Type 0 where
  pub stand : StandFor leaves all (choices_of (tree_of e))
  pub rise : IsStrictlySortedBy lists_cmp (map (choice_by leaves) kept)
  pub exactly : (c : Choice) → Contains (map (choice_by leaves) kept) c ↔ IsCheapest (map (choice_by leaves) all) c

pub is_expanded : (leaves s : List Connector) (all kept : List Places) (e f : Expr) → s ≡ leaves → e ≡ f → StandFor leaves all (choices_of (tree_of e)) →
    IsStrictlySortedBy lists_cmp (map (choice_by s) kept) → ((c : Choice) → Contains (map (choice_by s) kept) c ↔ IsCheapest (map (choice_by s) all) c) → IsExpanded leaves all kept f
is_expanded leaves s all kept e f one same stand rise exactly = record {
  stand = subst (λ e. StandFor leaves all (choices_of (tree_of e))) same stand;
  rise = subst (λ s. IsStrictlySortedBy lists_cmp (map (choice_by s) kept)) one rise;
  exactly = subst (λ s. (c : Choice) → Contains (map (choice_by s) kept) c ↔ IsCheapest (map (choice_by s) all) c) one exactly;
}

exactly_these : (leaves : List Connector) (all kept : List Places) (e : Expr) → IsExpanded leaves all kept e → (c : Choice) →
    Contains (map (choice_by leaves) kept) c ↔ IsCheapest (choices_of (tree_of e)) c
exactly_these leaves all kept e h = subst (λ cs. (c : Choice) → Contains (map (choice_by leaves) kept) c ↔ IsCheapest cs c) h.stand.told h.exactly

pub expanded : (word : List ℕ) (leaves u : List Connector) (all kept : List Places) (e : Expr) → u ≡ leaves → IsExpanded leaves all kept e →
    (ds : List Disjunct) → ds ≡ map (disjunct_of word) (map (choice_by u) kept) → AreDisjuncts word (tree_of e) ds
expanded word leaves u all kept e same h ds is =
    are_disjuncts word (tree_of e) (map (choice_by leaves) kept) h.rise (exactly_these leaves all kept e h) ds
    (is ∙ ap (λ u. map (disjunct_of word) (map (choice_by u) kept)) same)

pub expanded_fit : (word : List ℕ) (leaves u : List Connector) (all kept : List Places) (e : Expr) → IsFormula (tree_of e) → u ≡ leaves → IsExpanded leaves all kept e →
    (ds : List Disjunct) → ds ≡ map (disjunct_of word) (map (choice_by u) kept) → All FitsProblem ds
expanded_fit word leaves u all kept e formula same h ds is =
    fit_problem word (tree_of e) formula (map (choice_by leaves) kept) (exactly_these leaves all kept e h) ds
    (is ∙ ap (λ u. map (disjunct_of word) (map (choice_by u) kept)) same)

pub expanded_few : (word : List ℕ) (leaves u : List Connector) (all kept : List Places) (e : Expr) → length kept ≤ length all → IsExpanded leaves all kept e →
    (ds : List Disjunct) → ds ≡ map (disjunct_of word) (map (choice_by u) kept) → length ds ≤ length (choices_of (tree_of e))
expanded_few word leaves u all kept e few h ds is =
    omega (arith, few, ap length is, length-map (map (choice_by u) kept) (disjunct_of word), length-map kept (choice_by u), ap length h.stand.told, length-map all (choice_by leaves))
