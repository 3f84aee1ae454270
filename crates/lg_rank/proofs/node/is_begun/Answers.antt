use Rattle.lg_rank.proofs.Reading.{begun_here, idle_here}
use Rattle.lg_rank.proofs.node.is_begun.Goals as goal

pub returns-clause-yes : goal.returns-clause-yes
returns-clause-yes c = begun_here c.args.nodes.now c.args.k _ c.requires

pub returns-clause-no : goal.returns-clause-no
returns-clause-no c = idle_here c.args.nodes.now c.args.k _ c.requires
