use Rattle.std.proofs.Common.{◌++◌, ◌∷◌, [], ◌∙◌, ap}
use Rattle.lg_member.specs.Members.{row_at}
use Rattle.lg_member.proofs.Written.{rows_more}
use Rattle.lg_member.proofs.rows.rows_of.Goals as goal

pub loop-position-preserved : goal.loop-position-preserved
loop-position-preserved c =
    rows_more (row_at c.args.members.now) c.loop-position.rows.items c.push.new.self.items c.loop-position.position c.args.words _ c.loop-position-test.true
    (c.in_ok-push.ensures.items ∙ ap (λ z. c.loop-position.rows.items ++ z ∷ []) c.in_ok-row.ensures) c.loop-position.invariant
