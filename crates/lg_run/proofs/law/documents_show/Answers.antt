use Rattle.lg_run.proofs.Numbers.{runs_are_shown}
use Rattle.lg_run.proofs.Shown.{outcomes_are_shown}
use Rattle.lg_run.proofs.ShownInputs.{inputs_are_shown}
use Rattle.lg_run.proofs.law.documents_show.Goals as goal

pub returns : goal.returns
returns c =
    let outcomes = outcomes_are_shown c.documents_show.ensures.lines c.documents_show.ensures.documents in
    let runs = runs_are_shown outcomes in
    record {
      outcomes = outcomes;
      runs = runs;
      inputs = inputs_are_shown c.scripts_have_single_lines.ensures c.scripts_keep_bounds.ensures c.tokens_lie_in_order.ensures runs;
    }
