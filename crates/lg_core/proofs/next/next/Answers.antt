use Rattle.lg_core.proofs.NextCommand.{item_at, no_item_at, is_next, no_next}
use Rattle.lg_core.proofs.next.next.Goals as goal

pub returns-in_default-get-2 : goal.returns-in_default-get-2
returns-in_default-get-2 c =
    let actor = c.in-Some.ensures.lookup in
    let script = c.in-Some-get.ensures.lookup in
    no_next c.args.scripts.now c.args.core.now c.args.session c.in-Some.actor.now c.in-Some-get.commands.now
    (item_at c.args.core.now.actors c.items.result.now c.args.session c.in-Some.actor.now c.items.ensures actor.3.0 actor.1)
    (item_at c.args.scripts.now c.items-2.result.now c.args.session c.in-Some-get.commands.now c.items-2.ensures script.3.0 script.1)
    (no_item_at c.in-Some-get.commands.now c.items-3.result.now c.in-Some.actor.now.place c.items-3.ensures c.in_default-get-2.ensures.lookup.3)

pub returns : goal.returns
returns c =
    let actor = c.in-Some.ensures.lookup in
    let script = c.in-Some-get.ensures.lookup in
    let command = c.in-Some-get-2.ensures.lookup in
    is_next c.args.scripts.now c.args.core.now c.args.session c.in-Some.actor.now c.in-Some-get.commands.now
    (item_at c.args.core.now.actors c.items.result.now c.args.session c.in-Some.actor.now c.items.ensures actor.3.0 actor.1)
    (item_at c.args.scripts.now c.items-2.result.now c.args.session c.in-Some-get.commands.now c.items-2.ensures script.3.0 script.1)
    c.in-Some-get-2.command.now
    (item_at c.in-Some-get.commands.now c.items-3.result.now c.in-Some.actor.now.place c.in-Some-get-2.command.now c.items-3.ensures command.3.0 command.1)
