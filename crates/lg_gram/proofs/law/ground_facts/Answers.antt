use Rattle.std.proofs.Common.{refl}
use Rattle.lg_gram.proofs.Ground.{mary_ran_problem, mary_ran_good, linked_twice_bad, crossed_bad}
use Rattle.lg_gram.proofs.law.ground_facts.Goals as goal

pub returns : goal.returns
returns c = record { problem = mary_ran_problem; good = mary_ran_good; once = linked_twice_bad; planar = crossed_bad; first = refl }
