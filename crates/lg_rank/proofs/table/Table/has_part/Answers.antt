use Rattle.lg_rank.specs.Values.{value_of}
use Rattle.lg_rank.proofs.Reading.{nth_read}
use Rattle.lg_rank.proofs.table.Table.has_part.Goals as goal

pub returns-in-Ok-clause-listed : goal.returns-in-Ok-clause-listed
returns-in-Ok-clause-listed c = λ all is. nth_read (value_of c.args.nothing.now) c.args.self.now.nodes.items c.part.new.self.nodes.items c.args.part c.args.i c.in-Ok.there all c.requires.forest c.part.ensures.table c.part.ensures.grown.forest c.in-Ok.ensures.value is
