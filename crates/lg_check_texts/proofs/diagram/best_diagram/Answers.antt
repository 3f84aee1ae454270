use Rattle.std.proofs.Common.{◌<◌, length, sym, subst, ◌∙◌, arith}
use Rattle.std.proofs.lemmas.Bool.Decides.{nat_tests}
use Rattle.std.proofs.lemmas.List.Elements.{Contains-get_or}
use Rattle.std.specs.List.{Contains}
use Rattle.lg_check_texts.proofs.diagram.best_diagram.Goals as goal

-- what is listed is good
pub diagram-requires : goal.diagram-requires
diagram-requires c =
    let list = c.in_ok-list.list in
    let size = list.ok.0 in
    let empty = sym c.is_empty.ensures ∙ c.if-is_empty.false in
    let some : 0 < length list.items = grind (arith, nat_tests) in
    let listed = subst (Contains list.items) (sym c.index.ensures) (Contains-get_or list.items 0 c.index.result.now some) in
    let good = ((c.in_ok-list.ensures.level.exactly c.index.result.now).0 listed).0 in
    record { same_length = c.requires.same_length ∙ sym good.belongs.same_length; positions = c.args.problem.now; good = good }
