use Rattle.std.proofs.Common.{arith, subst, sym}
use Rattle.std.specs.declared.ops.ControlFlow.TheVariants.{Continue, Break}
use Rattle.lg_gram.specs.RawTrees.{raw_tree_of, raw_trees_in, raw_items, macros_of, macros_in}
use Rattle.lg_gram.specs.Filled.{FirstUnknown}
use Rattle.lg_gram.proofs.Filled.{unknown_in_member, known_in_member, none_left}
use Rattle.lg_gram.proofs.macros.+first_unknown.Goals as goal

pub unknown_among-returns-in_err-next : goal.unknown_among-returns-in_err-next
unknown_among-returns-in_err-next g t c =
    let formulas = g.M.Macros.formulas c.args.macros.now in
    let found = subst (λ answer. FirstUnknown formulas (macros_of (raw_tree_of c.member-item.result)) c.loop-member.next answer) c.in_err-next.was c.unknown_from.ensures in
    subst (λ answer. FirstUnknown formulas (macros_in (raw_trees_in (raw_items c.args.members.now))) c.args.first answer) (sym c.from_residual.ensures)
    (c.loop-member.invariant.told (Break c.in_err-next.field-0.0)
    (unknown_in_member formulas c.items-member-items.result.now c.loop-member.member-index c.member-item.result c.loop-member.next c.in_err-next.field-0.0 (omega arith) c.member-item.is found))

pub unknown_among-loop-member-preserved : goal.unknown_among-loop-member-preserved
unknown_among-loop-member-preserved g t c =
    let formulas = g.M.Macros.formulas c.args.macros.now in
    let known = subst (λ answer. FirstUnknown formulas (macros_of (raw_tree_of c.member-item.result)) c.loop-member.next answer) c.in_ok-next.was c.unknown_from.ensures in
    record {
      low = omega (arith, known.1);
      told = λ answer others. c.loop-member.invariant.told answer
          (known_in_member formulas c.items-member-items.result.now c.loop-member.member-index c.member-item.result c.loop-member.next c.in_ok-next.next answer (omega arith) c.member-item.is known others);
    }

pub unknown_among-returns : goal.unknown_among-returns
unknown_among-returns g t c =
    c.loop-member.invariant.told (Continue c.loop-member.next)
    (none_left (g.M.Macros.formulas c.args.macros.now) c.items-member-items.result.now c.loop-member.member-index c.loop-member.next (omega arith) c.loop-member.invariant.low)
