use Rattle.lg_names.specs.Hashing.{salted_after}
use Rattle.lg_names.proofs.salted.Salted.after.Goals as goal

pub returns : goal.returns
unfolding salted_after
returns c = simp (c.of.ensures, c.write_u64.ensures, c.new-start.ensures)
