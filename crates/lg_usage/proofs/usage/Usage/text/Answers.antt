use Rattle.lg_usage.proofs.Seen.{none_seen}
use Rattle.lg_usage.proofs.usage.Usage.text.Goals as goal

-- a number 0 is not seen
pub returns-clause-counted : goal.returns-clause-counted
returns-clause-counted c = rw (← c.self.view_is) (none_seen c.self.inside.words c.self.inside.labels)
