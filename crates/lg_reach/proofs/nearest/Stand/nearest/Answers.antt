use Rattle.std.proofs.Common.{◌≡◌, subst}
use Rattle.lg_reach.specs.Partners.{bound_on}
use Rattle.lg_reach.proofs.Meeting.{none_fits, partner_near}
use Rattle.lg_reach.proofs.nearest.Stand.nearest.Goals as goal

pub returns-in-None-2 : goal.returns-in-None-2
returns-in-None-2 c =
    λ g suits. none_fits g c.args.self.now c.args.connector.now c.args.next.first c.args.next.least c.end-end.result (subst (λ z. c.end-end.result ≡ bound_on z c.args.self.now) c.is_right.ensures c.end-end.ensures)
    c.if-next-end.false suits

pub returns-in-Some : goal.returns-in-Some
returns-in-Some c =
    λ g. partner_near g c.args.self.now c.in-Some.known c.args.connector.now c.args.next.first c.args.next.least c.end-end.result c.partner.result c.in-Some.is
    (subst (λ z. c.end-end.result ≡ bound_on z c.args.self.now) c.is_right.ensures c.end-end.ensures) c.partner.ensures
