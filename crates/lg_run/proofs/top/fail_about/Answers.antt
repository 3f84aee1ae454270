use Rattle.std.proofs.Common.{refl}
use Rattle.lg_run.proofs.Writing.{whole_put}
use Rattle.lg_run.proofs.top.fail_about.Goals as goal

-- whether the sink took the line or a part of it
pub returns-clause-line : goal.returns-clause-line
returns-clause-line g c = record {
  same = refl;
  written = whole_put _ _ c.put_line.result c.put_line.ensures.whole c.put_line.ensures.cause.failed;
  front = c.put_line.ensures.front;
}
