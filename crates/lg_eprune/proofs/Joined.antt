-- Members that are cut one after another.
use Rattle.std.proofs.Common.{◌≡◌, refl, ap, Option, Some, None, List, [], ◌∷◌, ◌++◌}
use Rattle.std.specs.Option.{option_map}
use Rattle.lg_gram.specs.Trees.{Tree, Trees, no_trees, tree, trees_of}
use Rattle.lg_eprune.specs.Cuts.{both}

-- these members, and then others
abbrev pub before : List Tree → Trees → Trees
before [] rest = rest
before (t ∷ ts) rest = tree t (before ts rest)

pub before_push : (ts : List Tree) (t : Tree) (rest : Trees) → before (ts ++ t ∷ []) rest ≡ before ts (tree t rest)
before_push [] t rest = refl
before_push (u ∷ ts) t rest = ap (tree u) (before_push ts t rest)

pub before_none : (ts : List Tree) → before ts no_trees ≡ trees_of ts
before_none [] = refl
before_none (t ∷ ts) = ap (tree t) (before_none ts)

pub all_push : (ts : List Tree) (t : Tree) (o : Option Trees) → option_map (before (ts ++ t ∷ [])) o ≡ option_map (before ts) (both (Some t) o)
all_push ts t None = refl
all_push ts t (Some rest) = ap Some (before_push ts t rest)
