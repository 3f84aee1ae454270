use Rattle.std.proofs.Common.{◌∙◌}
use Rattle.lg_answer.proofs.listing.counted.Goals as goal

pub returns-clause-searched : goal.returns-clause-searched
returns-clause-searched c =
    let of = c.in_ok-problem.ensures in
    record {
      problem = c.in_ok-problem.problem;
      of_tokens = of;
      keeps = c.in_ok-kept.ensures.keeps;
      counted = λ yes. c.in_ok-kept.ensures.counted;
      same_length = c.in_ok-kept.ensures.same ∙ of.same_length;
    }
