use Rattle.std.proofs.Common.{true≢false, sym}
use Rattle.lg_sharpen.proofs.Tables.{partner_met, shut_off}
use Rattle.lg_sharpen.proofs.table.has_partner_in.Goals as goal

pub returns-then-not-may_be_nearest : goal.returns-then-not-may_be_nearest
returns-then-not-may_be_nearest c = (
  λ t. absurd (true≢false (sym t)),
  λ a.
      absurd (shut_off c.args.right c.args.most c.args.gaps.now c.args.position c.args.site.now c.args.distance c.args.others.now c.may_be_nearest.result c.may_be_nearest.ensures c.if-not-may_be_nearest.true a),
)

pub returns : goal.returns
returns c =
    partner_met c.args.right c.args.most c.args.gaps.now c.args.position c.args.site.now c.args.distance c.args.others.now c.may_be_nearest.result c.may_be_lone-lone.result c.has_other.result
    c.may_be_nearest.ensures c.if-not-may_be_nearest.false c.may_be_lone-lone.ensures c.has_other.ensures
