use Rattle.lg_audit.proofs.Sound.{sound}
use Rattle.lg_audit.proofs.law.audits_are_sound.Goals as goal

pub returns : goal.returns
returns c = sound c.tokens_are_one_list.ensures.one
