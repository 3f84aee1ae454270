use Rattle.std.proofs.Common.{rules, sym, ◌+◌}
use Rattle.lg_usage.proofs.Places.{raised}
use Rattle.lg_usage.proofs.counts.raise.Goals as goal

-- the number that stood there, and more
pub returns-in-Some : goal.returns-in-Some
returns-in-Some c =
    let more = c.in-Some.number.now + c.args.more in
    raised c.args.text.now c.in-Some.number.now c.args.more c.args.counts.now (c.get_mut.follows.lender more)
    (sym c.in-Some.ensures.value) ((c.get_mut.follows.holds more).3 (search rules))
