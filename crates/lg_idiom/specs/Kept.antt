-- How a chain is kept.
use Rattle.std.specs.Prelude.{◌≡◌, ℕ, ◌+◌, ◌-◌, ◌≤◌, List}
use Rattle.std.specs.Coded.{Coded, code_by, coded_ℕ, coded_list, coded×}
use mathlib.Core.Path.{refl}
use Rattle.lg_gram.specs.Limits.{POSITIONS}
use Rattle.lg_gram.specs.Trees.{Tree, Trees, empty, leaf, all_of, one_of, priced, no_trees, tree, tree_of}
use Rattle.lg_eprune.specs.TreeCode.{coded_tree}
use Rattle.lg_idiom.specs.Idioms.{Chain, formula_at, IsUsable}
use Rattle.lg_idiom.specs.declared.chain.Chain.TheInside.{Inside}

-- a chain's code, by which a proof tells values apart
abbrev pub Parts : Type 0
Parts = ℕ × (ℕ × (ℕ × (List ℕ × Tree)))

abbrev pub coded_chain : Coded Chain
coded_chain = code_by Parts (coded× coded_ℕ (coded× coded_ℕ (coded× coded_ℕ (coded× (coded_list coded_ℕ) coded_tree))))
    (λ c. (c.start, (c.rank, (c.count, (c.word, c.formula)))))
    (λ p. record { start = p.0; rank = p.1.0; count = p.1.1.0; word = p.1.1.1.0; formula = p.1.1.1.1 }) (λ _. refl)

-- the second member of an `&`
abbrev pub second_in : Trees → Tree
second_in no_trees = empty
second_in (tree t no_trees) = empty
second_in (tree t (tree u us)) = u

abbrev pub second_of : Tree → Tree
second_of empty = empty
second_of (leaf c) = empty
second_of (all_of ts) = second_in ts
second_of (one_of ts) = empty
second_of (priced t price) = empty

-- the compound's formula is the second member of the last formula
abbrev pub seen_chain : Inside → Chain
seen_chain a = record { start = a.start; rank = a.rank; count = a.count; word = a.word; formula = second_of (tree_of a.last) }

-- it may be used, its last formula is the one that it keeps, and it lies within a sentence
pub record IsKept (a : Inside) : Type 0 where
  pub usable : IsUsable (seen_chain a)
  pub last : tree_of a.last ≡ formula_at (seen_chain a) (a.count - 1)
  pub several : 2 ≤ a.count
  pub within : a.start + a.count ≤ POSITIONS
