use Rattle.std.proofs.Common.{◌%◌, eq-eqb, ne_eqb}
use Rattle.lg_names.specs.Hashing.{after_byte}
use Rattle.lg_names.proofs.name_hasher.NameHasher.take.Goals as goal

pub returns-then-self-eq0 : goal.returns-then-self-eq0
unfolding after_byte
returns-then-self-eq0 c = simp (eq-eqb (c.args.self.now.held % 256) 0 c.if-self-eq0.true)

pub returns-else-self-eq0 : goal.returns-else-self-eq0
unfolding after_byte
returns-else-self-eq0 c = simp (c.write_u64.ensures, ne_eqb (c.args.self.now.held % 256) 0 c.if-self-eq0.false)
