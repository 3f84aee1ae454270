use Rattle.lg_names.specs.Hashing.{finish}
use Rattle.lg_names.proofs.name_hasher.NameHasherHasher.finish.Goals as goal

pub returns : goal.returns
unfolding finish
returns c = simp (c.finish.ensures, c.write_u64.ensures)
