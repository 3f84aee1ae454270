use Rattle.lg_reach.proofs.Meeting.{partner_there}
use Rattle.lg_reach.proofs.nearest.Stand.meets.Goals as goal

pub returns : goal.returns
returns c =
    partner_there c.args.sites.now c.args.self.now.position c.args.length c.args.connector.now c.args.long c.is_right-right.result c.far-position.result c.args.class c.at-others.result.now c.has_partner.result
    c.is_right-right.ensures c.far-position.ensures c.requires.class.value c.at-others.ensures c.has_partner.ensures
