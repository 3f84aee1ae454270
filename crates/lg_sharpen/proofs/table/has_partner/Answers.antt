use Rattle.std.proofs.Common.{rules}
use Rattle.lg_sharpen.proofs.Tables.{none_there, partner_there}
use Rattle.lg_sharpen.proofs.table.has_partner.Goals as goal

pub returns-then-is_empty : goal.returns-then-is_empty
returns-then-is_empty c = λ p.
    absurd
    (none_there c.args.right c.args.most c.args.gaps.now c.args.position c.args.table.now.cells.now c.args.site.now c.args.distance c.across.result c.args.table.now.class c.at-others.result.now c.across.ensures c.requires.class c.at-others.ensures (search rules) p)

pub returns : goal.returns
returns c = λ p.
    c.has_partner_in.ensures.1
    (partner_there c.args.right c.args.most c.args.gaps.now c.args.position c.args.table.now.cells.now c.args.site.now c.args.distance c.across.result c.args.table.now.class c.at-others.result.now c.across.ensures c.requires.class c.at-others.ensures p)
