use Rattle.std.proofs.Common.{length}
use Rattle.std.proofs.lemmas.Result.{IfOk-weaker}
use Rattle.lg_pp.specs.Domains.{AreGroups}
use Rattle.lg_pp.specs.Steps.{AreClasses}
use Rattle.lg_pp.proofs.Grouping.{rows_long, groups_from_classes}
use Rattle.lg_pp.proofs.group.groups.Goals as goal

pub leasts-requires : goal.leasts-requires
leasts-requires c = rw c.deref.ensures.value (rows_long c.args.know.now c.args.g.now c.in_ok-rows.rows.items c.in_ok-rows.ensures c.links.result.now c.links.ensures.value)

-- the classes of links with the same flags are the groups
pub returns : goal.returns
returns c =
    let know = c.args.know.now in
    let g = c.args.g.now in
    let leasts = c.in_ok-leasts.leasts.items in
    IfOk-weaker c.classes.result (λ classes. AreClasses leasts (length leasts) classes.items) (λ groups. AreGroups know g groups.items)
    (λ classes. groups_from_classes know g c.in_ok-rows.rows.items c.in_ok-rows.ensures leasts (rw (c.deref.ensures.value, c.links.ensures.value) at c.in_ok-leasts.ensures) classes.items)
    (rw c.deref-2.ensures.value at c.classes.ensures)
