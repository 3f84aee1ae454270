use Rattle.std.proofs.Common.{rules, refl, arith}
use Rattle.lg_lex.proofs.location.location_at.Goals as goal

-- the bytes before the index lead there from the first location
pub returns : goal.returns
returns c = c.past.ensures.along c.args.text.now 0 c.args.index refl (omega arith) (search rules)
