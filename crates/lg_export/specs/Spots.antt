-- The spots of the code, and what an `or` is beside a `()`.
use Rattle.std.specs.Prelude.{Bool, true, false}
use Rattle.lg_gram.specs.Trees.{Tree, Trees, empty, no_trees, tree}
use Rattle.lg_export.specs.declared.spot.Spot as code
use Rattle.lg_export.specs.declared.spot.Spot.TheVariants as spots
use Rattle.lg_export.specs.Spelling.{Spot, top, in_or, in_and}

abbrev pub spot_of : code.Spot → Spot
spot_of spots.Top = top
spot_of spots.InOr = in_or
spot_of spots.InAnd = in_and

abbrev pub is_empty : Tree → Bool
is_empty empty = true
is_empty _ = false

-- a `()` and one other
abbrev pub is_optional : Trees → Bool
is_optional (tree empty (tree t no_trees)) = true
is_optional _ = false
