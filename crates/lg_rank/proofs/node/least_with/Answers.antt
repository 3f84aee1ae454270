use Rattle.std.proofs.Common.{◌≡◌, ◌++◌, ◌∷◌, [], List, length, subst}
use Rattle.lg_rank.specs.Queues.{IsLeastOf, IsWaiting}
use Rattle.lg_rank.specs.Tables.{held_by}
use Rattle.lg_rank.specs.Values.{value_of}
use Rattle.lg_rank.specs.declared.node.Row.{Row}
use Rattle.lg_rank.proofs.Peeking.{first_least_with, least_with, ok_as}
use Rattle.lg_rank.proofs.node.least_with.Goals as goal

pub returns-in-None : goal.returns-in-None
returns-in-None c =
    let held = held_by (value_of c.args.nothing.now) c.args.nodes.now c.args.k in
    ok_as c.with_part.result (IsWaiting held c.args.place c.args.row) (λ next. (rows : List Row) → c.args.place ≡ length rows → IsLeastOf held rows c.args.least → IsLeastOf held (rows ++ c.args.row ∷ []) next)
    (λ next is rows at least. first_least_with held rows c.args.row c.args.place at next (subst (IsLeastOf held rows) c.in-None.is least) is)
    c.with_part.ensures

pub returns-in_ok-least-in-Some : goal.returns-in_ok-least-in-Some
returns-in_ok-least-in-Some c = λ rows at least.
    let held = held_by (value_of c.args.nothing.now) c.args.nodes.now c.args.k in
    least_with held rows c.args.row c.args.place at c.in-Some.first c.in_ok-least-in-Some.least (c.requires.forest.laws c.args.k).total (subst (IsLeastOf held rows) c.in-Some.is least) c.in_ok-least-in-Some.ensures
