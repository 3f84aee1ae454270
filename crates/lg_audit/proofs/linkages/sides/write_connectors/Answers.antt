use Rattle.std.proofs.Common.{arith}
use Rattle.std.proofs.lemmas.Grind.{common_steps}
use Rattle.std.proofs.lemmas.List.Folds.{flat_map-map}
use Rattle.lg_audit.proofs.PieceLists.{join_with_byte-cons}
use Rattle.lg_audit.proofs.linkages.sides.write_connectors.Goals as goal

-- the first part and the others behind it are the joined parts
pub returns : goal.returns
returns c = grind (arith, common_steps, join_with_byte-cons, flat_map-map)
