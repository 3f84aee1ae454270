use Rattle.lg_sharpen.proofs.gaps.gaps_of.Goals as goal

pub returns : goal.returns
returns c = record { rows = c.note_all.new.ways; least = c.note_all.ensures; shuts = c.in_ok-gaps.ensures }
