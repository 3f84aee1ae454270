use Rattle.std.proofs.Common.{◌≡◌, List, take, count_by, ap, sym, ◌∙◌, refl}
use Rattle.lg_log.specs.Codes.{code_of}
use Rattle.lg_script.specs.Codes.{code_after}
use Rattle.lg_script.specs.Commands.{CommandView, is_edit, makes, script_views}
use Rattle.lg_session.proofs.Named.{at_place, commands_read}
use Rattle.lg_session.proofs.turn.code_at.Goals as goal

-- the edits before it are counted
coded : (c : goal.After-code) → c.code.result ≡ code_after (script_views c.args.scripts.now) c.args.session c.args.place
coded c =
    let scripts = script_views c.args.scripts.now in
    let found = at_place scripts c.args.session c.args.place (makes c.requires.edit.0) c.requires.edit.1 in
    let read = commands_read c.args.scripts.now c.items.result.now c.args.session c.args.session c.index-items-session.result found.0 c.items.ensures refl c.index-items-session.is in
    c.code.ensures.code ∙ ap (code_of c.args.session) (c.edits_before.ensures.count ∙ ap (λ (l : List CommandView). count_by is_edit (take c.args.place l)) (sym read))

pub returns-clause-code : goal.returns-clause-code
returns-clause-code c = rw (coded c) (c.place_laws.ensures.edits (script_views c.args.scripts.now) c.requires.scripts c.args.session c.args.place c.requires.edit.0 c.requires.edit.1).0

pub returns-clause-at : goal.returns-clause-at
returns-clause-at c = rw (coded c) (c.place_laws.ensures.edits (script_views c.args.scripts.now) c.requires.scripts c.args.session c.args.place c.requires.edit.0 c.requires.edit.1).1

pub returns-clause-counted_so : goal.returns-clause-counted_so
returns-clause-counted_so c = coded c
