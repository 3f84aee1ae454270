use Rattle.std.proofs.Common.{◌/◌, arith, rules}
use Rattle.std.proofs.lemmas.Fmt.{length-decimal-le}
use Rattle.lg_base.proofs.cost.print_size.Goals as goal

-- the whole part has at most 14 digits
pub write_digits-requires : goal.write_digits-requires
write_digits-requires c =
    let few = length-decimal-le 14 (c.args.size / 1000) (omega arith) (omega (arith, c.requires)) (omega (arith, c.requires)) in
    (omega (arith, few), search rules)

pub returns-clause-room : goal.returns-clause-room
returns-clause-room c =
    let few = length-decimal-le 14 (c.args.size / 1000) (omega arith) (omega (arith, c.requires)) (omega (arith, c.requires)) in
    omega (arith, few, c.write_digits.ensures.start)
