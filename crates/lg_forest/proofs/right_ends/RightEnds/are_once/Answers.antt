use Rattle.std.proofs.Common.{subst}
use Rattle.lg_region.specs.Fronts.{AreOnce}
use Rattle.lg_forest.specs.RightEnds.{rows_in}
use Rattle.lg_forest.proofs.RightEnds.{ends_once}
use Rattle.lg_forest.proofs.right_ends.RightEnds.are_once.Goals as goal

pub returns : goal.returns
returns c = subst AreOnce c.self.view_is (ends_once c.self.inside.ends.items (rows_in c.self.inside.numbers.items) c.self.invariant)
