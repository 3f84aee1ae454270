use Rattle.std.proofs.Common.{ap, length}
use Rattle.lg_session.proofs.Answered.{listed, beyond}
use Rattle.lg_session.proofs.turn.open.Goals as goal

pub returns-in-Listed : goal.returns-in-Listed
returns-in-Listed g c = λ command asked.
    listed (g.E.Engine.stands c.args.engine.now) (g.E.Engine.meaning c.args.engine.now) c.args.state command c.args.text.now c.args.first c.args.want
    _ c.in-Listed.held c.in-Listed.tokens c.in-Listed.page c.in-Listed.stats asked (ap length c.seen.ensures.seen) (rw c.in-Listed.is at c.in_ok-opening.ensures)

pub returns-in-Beyond : goal.returns-in-Beyond
returns-in-Beyond g c = λ command asked.
    beyond (g.E.Engine.stands c.args.engine.now) (g.E.Engine.meaning c.args.engine.now) c.args.state command c.args.text.now c.args.first c.args.want
    _ c.in-Beyond.bound asked (ap length c.seen.ensures.seen) (rw c.in-Beyond.is at c.in_ok-opening.ensures)
