use Rattle.std.proofs.Common.{List, length, map, count_by, ap, ◌∙◌, arith}
use Rattle.std.proofs.lemmas.List.{length-map}
use Rattle.std.proofs.lemmas.List.Sums.{count_by-le-length}
use Rattle.lg_script.specs.declared.command.Command.{Command}
use Rattle.lg_script.specs.Commands.{command_view, is_edit}
use Rattle.lg_script.proofs.Numbers.{length-numbers}
use Rattle.lg_script.proofs.commands.Commands.edit_count.Goals as goal

pub overflow_cast-result : goal.overflow_cast-result
overflow_cast-result c =
    let cs = map command_view c.self.inside.items.items in
    omega (arith, c.len.ensures, c.self.inside.edits.ok.0, ap length c.self.invariant.1, length-numbers 1 cs, count_by-le-length is_edit cs, length-map c.self.inside.items.items command_view, c.self.invariant.0)

pub returns : goal.returns
returns c = c.len.ensures ∙ c.self.inside.edits.ok.0 ∙ ap length c.self.invariant.1 ∙ length-numbers 1 (map command_view c.self.inside.items.items)
    ∙ ap (λ (l : List Command). count_by is_edit (map command_view l)) c.self.view_is
