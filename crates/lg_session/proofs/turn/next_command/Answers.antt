use Rattle.std.proofs.Common.{◌≡◌, ◌+◌, List, Some, map, slice_get, ap, sym, ◌∙◌, refl}
use Rattle.lg_script.specs.Commands.{CommandView, command_view, script_views}
use Rattle.lg_script.specs.Histories.{command_at}
use Rattle.lg_session.proofs.Named.{at_place, commands_read, some_of, place_in_items, read_command}
use Rattle.lg_session.proofs.turn.next_command.Goals as goal

-- what stands at the place
there : (c : goal.After-items-2) → (x : CommandView) × (command_at (script_views c.args.scripts.now) (record { session = c.args.session + 1; command = c.args.place + 1 }) ≡ Some x)
    × (slice_get (map command_view c.items-2.result.now) c.args.place ≡ Some x)
there c =
    let scripts = script_views c.args.scripts.now in
    let some = some_of (command_at scripts (record { session = c.args.session + 1; command = c.args.place + 1 })) c.requires.next in
    let found = at_place scripts c.args.session c.args.place some.0 some.1 in
    let read = commands_read c.args.scripts.now c.items.result.now c.args.session c.args.session c.index-items-session.result found.0 c.items.ensures refl c.index-items-session.is in
    (some.0, some.1, ap (λ (l : List CommandView). slice_get l c.args.place) (ap (map command_view) c.items-2.ensures ∙ sym read) ∙ found.1)

pub bounds-items-place : goal.bounds-items-place
bounds-items-place c = let x = there c in place_in_items c.items-2.result.now c.args.place x.0 x.2

-- the command that is read stands there
stands : (c : goal.After-index-items-place) → command_at (script_views c.args.scripts.now) (record { session = c.args.session + 1; command = c.args.place + 1 }) ≡ Some (command_view c.index-items-place.result)
stands c = let x = there c.before in x.1 ∙ ap Some (read_command c.items-2.result.now c.args.place c.index-items-place.result x.0 x.2 c.index-items-place.is)

pub returns-clause-command : goal.returns-clause-command
returns-clause-command c = stands c

pub returns-clause-bounds : goal.returns-clause-bounds
returns-clause-bounds c = c.place_laws.ensures.bounds (script_views c.args.scripts.now) c.requires.scripts _ _ (stands c)
