use Rattle.std.proofs.Common.{arith}
use Rattle.std.proofs.lemmas.Grind.{common_steps}
use Rattle.std.proofs.lemmas.List.Folds.{flat_map-map}
use Rattle.lg_text.proofs.piece.write_pieces.Goals as goal

-- the pieces behind spaces, text by text
pub returns : goal.returns
returns c = grind (arith, common_steps, flat_map-map)
