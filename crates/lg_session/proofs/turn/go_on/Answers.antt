use Rattle.std.proofs.Common.{refl}
use Rattle.lg_session.proofs.Answered.{goes_further}
use Rattle.lg_session.proofs.turn.go_on.Goals as goal

pub returns : goal.returns
returns g c =
    goes_further (g.E.Engine.stands c.args.engine.now) (g.E.Engine.meaning c.args.engine.now) c.args.state c.args.state.held c.in_ok-held.held c.in_ok-held.reply refl c.in_ok-held.ensures
