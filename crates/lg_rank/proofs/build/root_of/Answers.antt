use Rattle.std.proofs.Common.{◌<◌, length, arith}
use Rattle.std.proofs.lemmas.Bool.Decides.{nat_tests}
use Rattle.lg_rank.proofs.Walking.{root_gets}
use Rattle.lg_rank.proofs.build.root_of.Goals as goal

pub visit-requires-clause-key : goal.visit-requires-clause-key
visit-requires-clause-key c = λ from is.
    let within = is.within in
    let less : c.unused-nulls.result < length c.args.problem.now = grind (arith, nat_tests, within) in
    root_gets c.args.problem.now from c.args.forest.now is c.unused-nulls.result c.unused-nulls.ensures less
