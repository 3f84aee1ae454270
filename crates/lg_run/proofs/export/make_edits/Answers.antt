use Rattle.std.proofs.Common.{◌+◌, ℕ, ◌∙◌, map, drop, ap, arith}
use Rattle.std.proofs.lemmas.List.{drop_all}
use Rattle.lg_script.specs.Commands.{command_view}
use Rattle.lg_run.specs.Inputs.{versions}
use Rattle.lg_run.proofs.VersionSteps.{reaches_enough, reaches_end, left_next, next_command, few_still, bounds_at}
use Rattle.lg_run.proofs.export.make_edits.Goals as goal

-- as many edits were made as were asked for
pub returns-then-count-most : goal.returns-then-count-most
returns-then-count-most c =
    reaches_enough (versions c.args.view.now (map command_view c.args.commands.now)) c.loop-command.count c.loop-command.view (map command_view (drop c.loop-command.command-index c.args.commands.now)) c.loop-command.invariant.left c.args.most
    c.if-count-most.true

pub make_edit-requires : goal.make_edit-requires
make_edit-requires c = bounds_at c.args.commands.now c.loop-command.command-index c.command-item.result (omega arith) c.command-item.is c.requires

-- one more command is looked at
pub loop-command-preserved : goal.loop-command-preserved
loop-command-preserved c =
    let all = versions c.args.view.now (map command_view c.args.commands.now) in
    let w = c.loop-command.invariant in
    let item = c.command-item.result in
    let rest = map command_view (drop (c.loop-command.command-index + 1) c.args.commands.now) in
    let next = next_command c.args.commands.now c.loop-command.command-index item (omega arith) c.command-item.is in
    let count = c.counted-count.ensures in
    record {
      few = rw count (few_still c.in_ok-made.made c.loop-command.count c.args.most w.few c.if-count-most.false);
      left = ap (λ (n : ℕ). drop n all) count ∙ left_next all c.loop-command.count c.in_ok-made.made c.loop-command.view c.make_edit.new.view (command_view item) rest (w.left ∙ ap (versions c.loop-command.view) next) (c.in_ok-made.ensures rest);
    }

-- no command is left
pub returns : goal.returns
returns c =
    let none = ap (map command_view) (drop_all c.loop-command.command-index c.args.commands.now (omega arith)) in
    reaches_end (versions c.args.view.now (map command_view c.args.commands.now)) c.loop-command.count c.loop-command.view (map command_view (drop c.loop-command.command-index c.args.commands.now))
    c.loop-command.invariant.left c.args.most c.loop-command.invariant.few none
