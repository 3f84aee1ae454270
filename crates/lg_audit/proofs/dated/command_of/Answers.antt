use Rattle.std.proofs.Common.{arith, ◌-◌, ap, ◌∙◌}
use Rattle.std.specs.Option.{option_map}
use Rattle.lg_script.specs.Commands.{command_view}
use Rattle.lg_audit.proofs.Found.{item_at, no_item_at, no_session, commanded}
use Rattle.lg_audit.proofs.dated.command_of.Goals as goal

pub returns-in_default : goal.returns-in_default
returns-in_default c =
    no_session c.args.scripts.now c.args.place (λ e. omega (arith, e)) (no_item_at c.args.scripts.now c.items.result.now (c.args.place.session - 1) c.items.ensures c.in_default.ensures.lookup.3)

pub returns-in_default-get : goal.returns-in_default-get
returns-in_default-get c =
    let at = c.in-Some.ensures.lookup in
    commanded c.args.scripts.now c.args.place c.in-Some.commands.now (λ e. omega (arith, e)) (λ e. omega (arith, e))
    (item_at c.args.scripts.now c.items.result.now (c.args.place.session - 1) c.in-Some.commands.now c.items.ensures at.3.0 at.1)
    ∙ ap (option_map command_view) (no_item_at c.in-Some.commands.now c.items-2.result.now (c.args.place.command - 1) c.items-2.ensures c.in_default-get.ensures.lookup.3)

pub returns : goal.returns
returns c =
    let at = c.in-Some.ensures.lookup in
    let of = c.in-Some-get.ensures.lookup in
    commanded c.args.scripts.now c.args.place c.in-Some.commands.now (λ e. omega (arith, e)) (λ e. omega (arith, e))
    (item_at c.args.scripts.now c.items.result.now (c.args.place.session - 1) c.in-Some.commands.now c.items.ensures at.3.0 at.1)
    ∙ ap (option_map command_view) (item_at c.in-Some.commands.now c.items-2.result.now (c.args.place.command - 1) c.in-Some-get.command.now c.items-2.ensures of.3.0 of.1)
