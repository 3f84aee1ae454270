use Rattle.std.proofs.Common.{refl, sym}
use Rattle.lg_sharpen.proofs.Pruned.{are_members}
use Rattle.lg_sharpen.proofs.problem.sharper.Goals as goal

pub left_of-requires : goal.left_of-requires
left_of-requires c = (
  c.args.problem.now,
  are_members c.args.problem.now c.positions-positions.result.now _ c.members_of.new.lefts.items c.members_of.new.rights.items _ _ _ c.positions-positions.ensures.limits (sym c.positions-positions.ensures.value) refl
      c.in_ok-members.ensures.members c.deref.ensures.value c.deref-2.ensures.value,
)

pub returns : goal.returns
returns c =
    c.left_of.ensures c.args.problem.now
    (are_members c.args.problem.now c.positions-positions.result.now _ c.members_of.new.lefts.items c.members_of.new.rights.items _ _ _ c.positions-positions.ensures.limits (sym c.positions-positions.ensures.value) refl
    c.in_ok-members.ensures.members c.deref.ensures.value c.deref-2.ensures.value)
