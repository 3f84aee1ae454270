-- That there are disjuncts of each expression whose connectors have names.
use Rattle.std.specs.Prelude.{ℕ, List}
use Rattle.lg_gram.specs.Names.{IsName}
use Rattle.lg_gram.specs.Connectors.{name_of}
use Rattle.lg_gram.specs.Disjuncts.{AreDisjuncts}
use Rattle.lg_gram.specs.Trees.{Tree, Trees, empty, leaf, all_of, one_of, priced, no_trees, tree}
use Rattle.lg_gram.specs.declared.disjunct.Disjunct.{Disjunct}

-- each connector has a name that may be written, as the connectors of every formula have
abbrev mutual
  pub HasNames : Tree → Type 0
  HasNames empty = Unit {0}
  HasNames (leaf c) = IsName (name_of c)
  HasNames (all_of ts) = HaveNames ts
  HasNames (one_of ts) = HaveNames ts
  HasNames (priced t price) = HasNames t

  pub HaveNames : Trees → Type 0
  HaveNames no_trees = Unit {0}
  HaveNames (tree t ts) = HasNames t × HaveNames ts

-- each such expression has a list of its disjuncts, in order, each once
abbrev pub ExpressionsHaveDisjuncts : Type 0
ExpressionsHaveDisjuncts = (word : List ℕ) (t : Tree) → HasNames t → (ds : List Disjunct) × AreDisjuncts word t ds
