use Rattle.lg_text.proofs.Seeing.{diagrams_are_seen}
use Rattle.lg_text.proofs.law.diagrams_show_links.Goals as goal

pub returns : goal.returns
returns c = diagrams_are_seen
