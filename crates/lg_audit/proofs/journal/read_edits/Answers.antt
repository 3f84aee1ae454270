use Rattle.std.proofs.Common.{◌≡◌, ◌+◌, ◌-◌, refl, ap, arith}
use Rattle.lg_audit.proofs.Chains.{next, broken, ended}
use Rattle.lg_audit.proofs.Numbered.{keys, IsEdit, lines_at, keys_left}
use Rattle.lg_audit.proofs.Edits.{edits_lacking, edits_read}
use Rattle.lg_audit.proofs.journal.read_edits.Goals as goal

pub returns-in_default : goal.returns-in_default
returns-in_default c =
    let at = c.loop-index in
    edits_lacking c.args.count c.args.text.now
    (broken IsEdit lines_at (keys c.args.count) c.args.text.now (at.index + 1) _ _ at.left.now at.invariant.chain tt _ (keys_left c.args.count at.index (omega (arith, c.loop-index-test.true))) c.in_default.ensures)

pub loop-index-preserved : goal.loop-index-preserved
loop-index-preserved c =
    let at = c.loop-index in
    record {
      chain =
          next IsEdit lines_at (keys c.args.count) c.args.text.now (at.index + 1) _ _ at.left.now at.invariant.chain tt _ (keys_left c.args.count at.index (omega (arith, c.loop-index-test.true)))
          (at.index + 1 + 1) _ c.in-Some.place c.in-Some.rest.now refl c.in_ok-push.ensures.items c.in-Some.ensures;
    }

pub returns : goal.returns
returns c =
    let at = c.loop-index in
    let none_left : c.args.count - at.index ≡ 0 = omega (arith, c.loop-index-test.false) in
    edits_read c.args.count c.args.text.now at.journal.items at.left.now
    (ended IsEdit lines_at (keys c.args.count) c.args.text.now (at.index + 1) _ _ at.left.now at.invariant.chain (ap keys none_left))
