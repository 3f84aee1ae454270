use Rattle.std.proofs.Common.{sym, ◌∙◌, true≢false}
use Rattle.lg_answer.proofs.listing.uncounted.Goals as goal

pub returns-clause-searched : goal.returns-clause-searched
returns-clause-searched c =
    let of = c.in_ok-wide.ensures.narrowed in
    record {
      problem = of.problem;
      of_tokens = of.of_tokens;
      keeps = of.keeps;
      counted = λ yes. absurd (true≢false (sym yes ∙ c.requires.uncounted));
      same_length = of.same_length;
    }
