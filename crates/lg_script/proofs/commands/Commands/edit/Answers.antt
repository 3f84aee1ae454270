use Rattle.std.proofs.Common.{◌≤◌, length, map, arith, Some, ap, sym, ◌∙◌, arith}
use Rattle.std.proofs.lemmas.Bool.{ltb-false}
use Rattle.lg_script.specs.declared.command.Command.{Command}
use Rattle.lg_script.specs.Commands.{command_view}
use Rattle.lg_script.proofs.Numbers.{length-numbers, read_number, read_edit, no_other}
use Rattle.lg_script.proofs.commands.Commands.edit.Goals as goal

pub overflow_sub-number : goal.overflow_sub-number
overflow_sub-number c =
    let seen = c.in_ok-number.ensures.lookup in
    (read_edit c.self.inside.items.items c.as_slice.result.now c.args.index c.in_ok-number.field-0.now (c.as_slice.ensures.value ∙ c.self.invariant.1) seen.0 seen.1).0

pub index-requires : goal.index-requires
index-requires c =
    let seen = c.in_ok-number.ensures.lookup in
    omega (arith, (read_edit c.self.inside.items.items c.as_slice.result.now c.args.index c.in_ok-number.field-0.now (c.as_slice.ensures.value ∙ c.self.invariant.1) seen.0 seen.1).1, c.self.inside.items.ok.0)

pub unreachable-requires : goal.unreachable-requires
unreachable-requires c =
    let seen = c.in_ok-number.ensures.lookup in
    no_other c.index.result.now ((read_edit c.self.inside.items.items c.as_slice.result.now c.args.index c.in_ok-number.field-0.now (c.as_slice.ensures.value ∙ c.self.invariant.1) seen.0 seen.1).2 c.index.result.now c.index.ensures).0 c.in_default.not-Edit

pub returns-clause-number : goal.returns-clause-number
returns-clause-number c =
    let seen = c.in_ok-number.ensures.lookup in
    rw (sym c.self.view_is) (sym (read_number c.self.inside.items.items c.as_slice.result.now c.args.index c.in_ok-number.field-0.now (c.as_slice.ensures.value ∙ c.self.invariant.1) seen.0 seen.1))

pub returns-clause-edit : goal.returns-clause-edit
returns-clause-edit c =
    let seen = c.in_ok-number.ensures.lookup in
    let found = (read_edit c.self.inside.items.items c.as_slice.result.now c.args.index c.in_ok-number.field-0.now (c.as_slice.ensures.value ∙ c.self.invariant.1) seen.0 seen.1).2 c.index.result.now c.index.ensures in
    rw (sym c.self.view_is) (found.1 ∙ ap (λ (x : Command). Some (command_view x)) c.in-Edit.is)

pub returns-in_err-number-clause-past : goal.returns-in_err-number-clause-past
returns-in_err-number-clause-past c =
    let past : length c.as_slice.result.now ≤ c.args.index = ltb-false _ _ (sym c.in_err-number.ensures.lookup.0) in
    rw (c.from_residual.ensures, sym c.self.view_is)
    (omega (arith, past, ap length c.as_slice.ensures.value, ap length c.self.invariant.1, length-numbers 1 (map command_view c.self.inside.items.items)))
