-- Dictionaries as values that are told apart by a code: a tree by the steps that build it. The lemmas stand here since a Model's `coded` reads specs/ alone.
use Rattle.std.specs.Prelude.{◌≡◌, ◌⊎◌, ℤ, List, [], ◌∷◌, Bool, true, false, refl, ℕ}
use Rattle.std.proofs.Common.{inl, inr, ap, ◌∙◌}
use Rattle.std.specs.declared.option.Option.{Option}
use Rattle.std.specs.declared.option.Option.TheVariants.{None, Some}
use Rattle.std.specs.Coded.{Coded, code_by, coded×, coded⊎, coded_list, coded_option, coded_ℕ, coded_ℤ, coded_bool}
use Rattle.std.specs.FinMap.{code}
use Rattle.lg_gram.specs.Connectors.{Connector}
use Rattle.lg_gram.specs.Trees.{Tree, Trees, empty, leaf, all_of, one_of, priced, no_trees, tree}
use Rattle.lg_dict.specs.Dictionary.{Dictionary, TextMap}

-- one step of building a tree, as in reverse Polish notation: each takes what it joins from the trees and lists before it
pub data Step : Type 0 where
  put_empty : Step
  put_leaf : Connector → Step
  -- the members of an `&` (true) or an `or`
  put_members : Bool → Step
  put_price : ℤ → Step
  put_no_trees : Step
  put_tree : Step

-- the steps of a tree, and then more
abbrev mutual
  pub steps_of : Tree → List Step → List Step
  steps_of empty more = put_empty ∷ more
  steps_of (leaf c) more = put_leaf c ∷ more
  steps_of (all_of ts) more = steps_in ts (put_members true ∷ more)
  steps_of (one_of ts) more = steps_in ts (put_members false ∷ more)
  steps_of (priced t price) more = steps_of t (put_price price ∷ more)

  pub steps_in : Trees → List Step → List Step
  steps_in no_trees more = put_no_trees ∷ more
  steps_in (tree t ts) more = steps_in ts (steps_of t (put_tree ∷ more))

-- the trees that the steps build, over trees and lists that are there, the last first
abbrev pub built : List Step → List Tree → List Trees → List Tree
built [] trees lists = trees
built (put_empty ∷ more) trees lists = built more (empty ∷ trees) lists
built (put_leaf c ∷ more) trees lists = built more (leaf c ∷ trees) lists
built (put_members true ∷ more) trees (ts ∷ lists) = built more (all_of ts ∷ trees) lists
built (put_members false ∷ more) trees (ts ∷ lists) = built more (one_of ts ∷ trees) lists
built (put_members _ ∷ more) trees [] = trees
built (put_price price ∷ more) (t ∷ trees) lists = built more (priced t price ∷ trees) lists
built (put_price price ∷ more) [] lists = []
built (put_no_trees ∷ more) trees lists = built more trees (no_trees ∷ lists)
built (put_tree ∷ more) (t ∷ trees) (ts ∷ lists) = built more trees (tree t ts ∷ lists)
built (put_tree ∷ more) trees lists = trees

mutual
  pub built-steps_of : (t : Tree) (more : List Step) (trees : List Tree) (lists : List Trees) → built (steps_of t more) trees lists ≡ built more (t ∷ trees) lists
  built-steps_of empty more trees lists = refl
  built-steps_of (leaf c) more trees lists = refl
  built-steps_of (all_of ts) more trees lists = built-steps_in ts (put_members true ∷ more) trees lists
  built-steps_of (one_of ts) more trees lists = built-steps_in ts (put_members false ∷ more) trees lists
  built-steps_of (priced t price) more trees lists = built-steps_of t (put_price price ∷ more) trees lists

  pub built-steps_in : (ts : Trees) (more : List Step) (trees : List Tree) (lists : List Trees) → built (steps_in ts more) trees lists ≡ built more trees (ts ∷ lists)
  built-steps_in no_trees more trees lists = refl
  built-steps_in (tree t ts) more trees lists = built-steps_in ts (steps_of t (put_tree ∷ more)) trees lists ∙ built-steps_of t (put_tree ∷ more) trees (ts ∷ lists)

abbrev pub top : List Tree → Tree
top [] = empty
top (t ∷ _) = t

abbrev pub connector_code : Coded Connector
connector_code =
    code_by (List ℕ × (List ℕ × (Bool × Bool))) (coded× (coded_list coded_ℕ) (coded× (coded_list coded_ℕ) (coded× coded_bool coded_bool)))
    (λ c. (c.caps, (c.subs, (c.multi, c.right)))) (λ p. record { caps = p.0; subs = p.1.0; multi = p.1.1.0; right = p.1.1.1 }) (λ _. refl)

-- a step by its kind
abbrev pub Kind : Type 0
Kind = Connector ⊎ (ℤ ⊎ (Bool ⊎ Option Bool))

abbrev pub kind_of : Step → Kind
kind_of put_empty = inr (inr (inr None))
kind_of (put_leaf c) = inl c
kind_of (put_members b) = inr (inr (inl b))
kind_of (put_price price) = inr (inl price)
kind_of put_no_trees = inr (inr (inr (Some false)))
kind_of put_tree = inr (inr (inr (Some true)))

abbrev pub step_of : Kind → Step
step_of (inl c) = put_leaf c
step_of (inr (inl price)) = put_price price
step_of (inr (inr (inl b))) = put_members b
step_of (inr (inr (inr None))) = put_empty
step_of (inr (inr (inr (Some false)))) = put_no_trees
step_of (inr (inr (inr (Some true)))) = put_tree

pub step_of_kind : (s : Step) → step_of (kind_of s) ≡ s
step_of_kind put_empty = refl
step_of_kind (put_leaf c) = refl
step_of_kind (put_members b) = refl
step_of_kind (put_price price) = refl
step_of_kind put_no_trees = refl
step_of_kind put_tree = refl

abbrev pub step_code : Coded Step
step_code = code_by Kind (coded⊎ connector_code (coded⊎ coded_ℤ (coded⊎ coded_bool (coded_option coded_bool)))) kind_of step_of step_of_kind

abbrev pub tree_code : Coded Tree
tree_code = code_by (List Step) (coded_list step_code) (λ t. steps_of t []) (λ steps. top (built steps [] [])) (λ t. ap top (built-steps_of t [] [] []))

abbrev pub dictionary_code : Coded Dictionary
dictionary_code =
    code_by (TextMap Tree × TextMap (Tree × ℕ)) (coded× (code (coded_list coded_ℕ) tree_code) (code (coded_list coded_ℕ) (coded× tree_code coded_ℕ)))
    (λ d. (d.words, d.macros)) (λ p. record { words = p.0; macros = p.1 }) (λ _. refl)
