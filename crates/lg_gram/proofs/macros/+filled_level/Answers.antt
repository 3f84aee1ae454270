use Rattle.std.proofs.Common.{map, ap, arith}
use Rattle.lg_gram.specs.RawTrees.{raw_tree_of, macros_of}
use Rattle.lg_gram.specs.Filled.{level_reached, highest}
use Rattle.lg_gram.proofs.Filled.{highest-drop}
use Rattle.lg_gram.proofs.macros.+filled_level.Goals as goal

-- one more member
pub level_among-loop-member-preserved : goal.level_among-loop-member-preserved
level_among-loop-member-preserved g t c =
    let step = highest-drop (level_reached (g.M.Macros.formulas c.args.macros.now)) c.items-member-items.result.now c.loop-member.member-index c.member-item.result (omega arith) in
    let item = ap (λ e. highest (map (level_reached (g.M.Macros.formulas c.args.macros.now)) (macros_of (raw_tree_of e)))) c.member-item.is in
    record { low = omega arith; told = omega (arith, step, item) }
