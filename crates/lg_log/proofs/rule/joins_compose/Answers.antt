use Rattle.lg_log.proofs.HasAll.{joins_compose, joins_keep_both}
use Rattle.lg_log.proofs.rule.joins_compose.Goals as goal

pub returns : goal.returns
returns c = record { compose = joins_compose; both = joins_keep_both }
