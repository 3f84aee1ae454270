use Rattle.std.proofs.Common.{false}
use Rattle.lg_rules.specs.Places.{linkage_of}
use Rattle.lg_rules.proofs.Served.{served_side}
use Rattle.lg_rules.proofs.checker.satisfaction.first_of_position.Goals as goal

-- the left side has no case
pub returns-in-Some-first_of_side-clause-some : goal.returns-in-Some-first_of_side-clause-some
returns-in-Some-first_of_side-clause-some c =
    let g = linkage_of c.args.chosen.now c.args.links.now in
    let least = c.in-Some-first_of_side.ensures.some in
    record { here = least.here; left = λ _. served_side g c.args.position false c.in_default.ensures.none; places = least.earlier }
