use Rattle.std.proofs.Common.{arith}
use Rattle.lg_rank.specs.Tables.{held_by}
use Rattle.lg_rank.specs.Values.{value_of}
use Rattle.lg_rank.proofs.Peeking.{least_begins, least_ends, least_step}
use Rattle.lg_rank.proofs.Steps.{begin_holds}
use Rattle.lg_rank.proofs.node.least_of_rows.Goals as goal

pub loop-i-init : goal.loop-i-init
loop-i-init c = least_begins (held_by (value_of c.args.nothing.now) c.args.nodes.now c.args.k) c.args.rows.now

pub least_with-requires-clause-holds : goal.least_with-requires-clause-holds
least_with-requires-clause-holds c = λ live. begin_holds (value_of c.args.nothing.now) c.args.nodes.now c.args.k c.loop-i.i c.args.rows.now _ c.requires.all (omega arith) live

pub loop-i-preserved : goal.loop-i-preserved
loop-i-preserved c = least_step (held_by (value_of c.args.nothing.now) c.args.nodes.now c.args.k) c.args.rows.now c.loop-i.i _ c.loop-i.least c.in_ok-least.least (omega arith) c.loop-i.invariant c.in_ok-least.ensures

pub returns : goal.returns
returns c = least_ends (held_by (value_of c.args.nothing.now) c.args.nodes.now c.args.k) c.args.rows.now c.loop-i.i c.loop-i.least (omega arith) c.loop-i.invariant
