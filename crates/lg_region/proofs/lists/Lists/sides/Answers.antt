use Rattle.std.proofs.Common.{arith}
use Rattle.std.proofs.lemmas.Grind.{common_steps}
use Rattle.lg_region.proofs.Keeping.{word_within, number_within_row, sides_are}
use Rattle.lg_region.proofs.lists.Lists.sides.Goals as goal

pub index-requires : goal.index-requires
index-requires c = let k = word_within c.self.inside c.args.self.now c.args.word c.args.number c.self.invariant c.self.view_is c.requires in grind (arith, common_steps)

pub index-requires-2 : goal.index-requires-2
index-requires-2 c = let k = number_within_row c.self.inside c.args.self.now c.args.word c.args.number c.index.result.now c.self.invariant c.self.view_is c.index.ensures c.requires in grind (arith, common_steps)

pub returns : goal.returns
returns c = sides_are c.self.inside c.args.self.now c.args.word c.args.number c.index.result.now c.index-2.result.now c.self.invariant c.self.view_is c.index.ensures c.index-2.ensures c.requires
