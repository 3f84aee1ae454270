use Rattle.lg_token.proofs.Spans.{lie_in_order}
use Rattle.lg_token.proofs.law.tokens_lie_in_order.Goals as goal

pub returns : goal.returns
returns c = lie_in_order
