use Rattle.std.proofs.Common.{arith}
use Rattle.std.proofs.lemmas.Grind.{common_steps}
use Rattle.std.proofs.lemmas.List.Folds.{flat_map-map}
use Rattle.lg_run.specs.Pieces.{piece_text}
use Rattle.lg_run.proofs.line.refusal.Goals as goal

-- the pieces one after another are their texts one after another
pub returns : goal.returns
returns c = rw (flat_map-map (λ piece. piece) piece_text c.args.why.now) (grind (arith, common_steps))
