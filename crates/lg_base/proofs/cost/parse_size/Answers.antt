use Rattle.std.proofs.Common.{sym, subst}
use Rattle.lg_base.specs.Costs.{ReadsSize}
use Rattle.lg_base.proofs.CostReading.{refused_form, refused_value}
use Rattle.lg_base.proofs.cost.parse_size.Goals as goal

pub returns-in_err-size-clause-value : goal.returns-in_err-size-clause-value
returns-in_err-size-clause-value c = subst (ReadsSize _) (sym c.from_residual.ensures) (refused_form _ c.in_err-size.ensures)

pub returns-then-size-gt-LARGEST-clause-value : goal.returns-then-size-gt-LARGEST-clause-value
returns-then-size-gt-LARGEST-clause-value c = refused_value _ _ c.in_ok-size.ensures c.if-size-gt-LARGEST.true
