use Rattle.std.proofs.Common.{[], List, Bool}
use Rattle.std.proofs.lemmas.Result.{IfOk-weaker}
use Rattle.lg_pp.specs.Judging.{AreWithin}
use Rattle.lg_pp.specs.Steps.{AreAlike, AreLeasts}
use Rattle.lg_pp.proofs.Grouping.{alike_within}
use Rattle.lg_pp.proofs.rules.facts.groups_if.Goals as goal

pub returns-then-wanted-clause-within : goal.returns-then-wanted-clause-within
returns-then-wanted-clause-within c =
    IfOk-weaker c.leasts.result (λ groups. AreLeasts (AreAlike c.args.rows.now) c.args.count groups.items) (λ groups. AreWithin c.args.count groups.items)
    (λ groups. alike_within c.args.rows.now c.args.count groups.items) c.leasts.ensures

pub returns-else-wanted-clause-within : goal.returns-else-wanted-clause-within
returns-else-wanted-clause-within c =
    let none : List (List Bool) = [] in
    IfOk-weaker c.leasts-else-wanted.result (λ groups. AreLeasts (AreAlike none) c.args.count groups.items) (λ groups. AreWithin c.args.count groups.items)
    (λ groups. alike_within none c.args.count groups.items) c.leasts-else-wanted.ensures
