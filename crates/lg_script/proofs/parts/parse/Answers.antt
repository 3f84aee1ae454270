use Rattle.std.proofs.Common.{ℕ, List, Ok, codes, sym, subst}
use Rattle.lg_script.specs.Commands.{parses, CommandIs, parse}
use Rattle.lg_script.proofs.parts.parse.Goals as goal

pub returns : goal.returns
returns c = subst (λ (s : List ℕ). CommandIs (codes "parse") c.args.rest.now (Ok (parses s))) (sym c.in_ok-of.ensures) (parse c.args.rest.now)
