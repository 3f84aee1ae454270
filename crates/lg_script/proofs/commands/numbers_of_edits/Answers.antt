use Rattle.std.proofs.Common.{sym, arith}
use Rattle.lg_script.proofs.Numbers.{number_pushed, number_passed}
use Rattle.lg_script.proofs.commands.numbers_of_edits.Goals as goal
use Rattle.lg_script.proofs.commands.numbers_of_edits.Goals.{then-is_edit+in_ok-push, else-is_edit}

pub loop-command-preserved : goal.loop-command-preserved
loop-command-preserved c =
    let at = c.loop-command.invariant in
    let items = c.args.commands.now in elim c.if-is_edit.branch [
      | then-is_edit+in_ok-push w ↦ (
        omega (arith, at.0),
        rw (w.edits-is, w.in_ok-push.ensures.items)
            (number_pushed c.loop-command.edits.items _ c.loop-command.number c.loop-command.command-index items c.command-item.result at.0 c.loop-command-test.true c.command-item.is (sym w.if-is_edit.ensures) at.1),
      )
      | else-is_edit w ↦ (
        omega (arith, at.0),
        rw w.edits-is
            (number_passed c.loop-command.edits.items _ c.loop-command.command-index items c.command-item.result c.loop-command-test.true c.command-item.is (sym w.if-is_edit.ensures) at.1),
      )
    ]
