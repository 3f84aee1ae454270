use Rattle.std.proofs.Common.{◌∙◌, ap, refl}
use Rattle.lg_member.specs.Cells.{class_of}
use Rattle.lg_pprune.proofs.Tables.{none_more, partner_here}
use Rattle.lg_pprune.proofs.table.has_partner.Goals as goal

pub returns-then-has_other : goal.returns-then-has_other
returns-then-has_other c = (
  (λ e. partner_here c.args.right c.args.table.now c.args.site.now c.loop-position.position c.class_of-class.result c.at.result.now (c.class_of-class.ensures.value ∙ ap class_of c.caps.ensures.value) c.at.ensures
      (c.has_other.ensures.0 c.if-has_other.true)),
  (λ h. refl),
)

pub loop-position-preserved : goal.loop-position-preserved
loop-position-preserved c =
    none_more c.args.right c.args.table.now c.args.site.now c.loop-position.position c.class_of-class.result c.at.result.now c.has_other.result (c.class_of-class.ensures.value ∙ ap class_of c.caps.ensures.value)
    c.at.ensures c.has_other.ensures c.if-has_other.false c.loop-position.invariant
