use Rattle.lg_rules.proofs.Allowed.{are_placed, short_sides}
use Rattle.lg_rules.proofs.list.completing.is_sound.Goals as goal

pub verdict_of-requires-clause-placed : goal.verdict_of-requires-clause-placed
verdict_of-requires-clause-placed c = are_placed c.args.chosen.now c.args.links.now c.requires.are.allowed

pub verdict_of-requires-clause-short : goal.verdict_of-requires-clause-short
verdict_of-requires-clause-short c = short_sides c.args.chosen.now c.args.links.now c.requires.fit
