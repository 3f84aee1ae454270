use Rattle.std.proofs.Common.{ℕ, List, Ok, codes, refl, sym, subst}
use Rattle.lg_script.specs.Commands.{goes_on, CommandIs, more, more_than_more}
use Rattle.lg_script.proofs.Commanded.{nothing, something}
use Rattle.lg_script.proofs.parts.more.Goals as goal

pub returns-then-is_empty : goal.returns-then-is_empty
returns-then-is_empty c = subst (λ (s : List ℕ). CommandIs (codes "more") s (Ok goes_on)) (sym (nothing c.args.rest.now c.is_empty.result c.is_empty.ensures c.if-is_empty.true)) more

pub returns-else-is_empty : goal.returns-else-is_empty
returns-else-is_empty c = (refl, more_than_more c.args.rest.now (something c.args.rest.now c.is_empty.result c.is_empty.ensures c.if-is_empty.false))
