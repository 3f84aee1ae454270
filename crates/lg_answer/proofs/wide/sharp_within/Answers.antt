use Rattle.std.proofs.Common.{map}
use Rattle.lg_disj.specs.Outlines.{all_in}
use Rattle.lg_answer.specs.Wide.{all_disjuncts}
use Rattle.lg_answer.proofs.Within.{reach_keeps_linkages, sharpened_keeps}
use Rattle.lg_answer.proofs.wide.sharp_within.Goals as goal

pub returns : goal.returns
returns c =
    let left = map all_in c.args.near.now in
    sharpened_keeps (all_disjuncts c.args.words.now) left c.in_ok-sharp.sharp c.args.nulls (reach_keeps_linkages c.args.words.now c.args.nulls left c.requires) c.in_ok-sharp.ensures
