use Rattle.std.proofs.Common.{refl}
use Rattle.lg_script.specs.Commands.{unknown}
use Rattle.lg_script.proofs.Commanded.{differs}
use Rattle.lg_script.proofs.parts.command_of.Goals as goal

pub returns-else-eq-7 : goal.returns-else-eq-7
returns-else-eq-7 c = (
  refl,
  unknown c.args.word.now c.args.rest.now (
    differs _ _ _ c.eq.result c.eq.ensures c.as_slice.ensures c.if-eq.false,
    differs _ _ _ c.eq-else-eq.result c.eq-else-eq.ensures c.as_slice-else-eq.ensures c.if-eq-2.false,
    differs _ _ _ c.eq-else-eq-2.result c.eq-else-eq-2.ensures c.as_slice-else-eq-2.ensures c.if-eq-3.false,
    differs _ _ _ c.eq-else-eq-3.result c.eq-else-eq-3.ensures c.as_slice-else-eq-3.ensures c.if-eq-4.false,
    differs _ _ _ c.eq-else-eq-4.result c.eq-else-eq-4.ensures c.as_slice-else-eq-4.ensures c.if-eq-5.false,
    differs _ _ _ c.eq-else-eq-5.result c.eq-else-eq-5.ensures c.as_slice-else-eq-5.ensures c.if-eq-6.false,
    differs _ _ _ c.eq-else-eq-6.result c.eq-else-eq-6.ensures c.as_slice-else-eq-6.ensures c.if-eq-7.false,
  ),
)
