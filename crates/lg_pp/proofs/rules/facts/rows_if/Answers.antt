use Rattle.std.proofs.Common.{◌≡◌, ◌⊎◌, ◌≤◌, List, [], Bool, length, All, refl}
use Rattle.std.proofs.lemmas.Result.{IfOk-weaker}
use Rattle.lg_pp.specs.Reach.{AreRows}
use Rattle.lg_pp.proofs.Grouping.{rows_long}
use Rattle.lg_pp.proofs.rules.facts.rows_if.Goals as goal

pub returns-then-wanted-clause-long : goal.returns-then-wanted-clause-long
returns-then-wanted-clause-long c =
    let know = c.args.know.now in
    let g = c.args.g.now in
    IfOk-weaker c.rows.result (λ rows. AreRows know g rows.items) (λ rows. All (λ (row : List Bool). (row ≡ []) ⊎ (length g.links ≤ length row)) rows.items)
    (λ rows are. rows_long know g rows.items are g.links refl) c.rows.ensures
