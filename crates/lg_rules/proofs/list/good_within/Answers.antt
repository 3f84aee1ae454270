use Rattle.lg_rules.proofs.Fewest.{good_within}
use Rattle.lg_rules.proofs.list.good_within.Goals as goal

pub returns : goal.returns
returns c =
    good_within c.args.problem.now c.args.spare c.choose.new.out.items
    (rw (c.positions.ensures.value, c.of-none.ensures, c.new.ensures.items, c.new-all.ensures.items) at c.in_ok-choose.ensures)
