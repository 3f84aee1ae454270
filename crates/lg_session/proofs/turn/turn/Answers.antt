use Rattle.std.proofs.Common.{◌+◌, ◌<◌, ◌^◌, None, refl, arith}
use Rattle.lg_script.specs.Commands.{script_views}
use Rattle.lg_session.specs.Turns.{Story}
use Rattle.lg_session.proofs.Named.{place_fits}
use Rattle.lg_session.proofs.Counted.{is_at}
use Rattle.lg_session.proofs.turn.turn.Goals as goal

pub overflow_add-session : goal.overflow_add-session
overflow_add-session g c =
    let story : Story = record { scripts = script_views c.args.scripts.now; base = c.args.state.view; holding = None; limit = 0 } in
    let answered = c.in_ok-session.ensures story refl in
    let few : c.args.state.place + 1 < 2 ^ 32 = place_fits (script_views c.args.scripts.now) c.args.state.session c.args.state.place c.requires.scripts.each c.requires.next in
    omega (arith, answered.same_place, few)

pub returns-clause-at : goal.returns-clause-at
returns-clause-at g c =
    let story : Story = record { scripts = script_views c.args.scripts.now; base = c.args.state.view; holding = None; limit = 0 } in
    let answered = c.in_ok-session.ensures story refl in
    is_at story c.args.state c.args.log.now (c.in_ok-session.session, c.in_ok-session.reply) c.requires.at answered.same_session answered.same_place answered.grown

pub returns-clause-turned : goal.returns-clause-turned
returns-clause-turned g c = λ story command same stands come. (c.in_ok-session.ensures story same).turned command stands come

pub returns-clause-steps : goal.returns-clause-steps
returns-clause-steps g c = λ base actors stands.
    let story : Story = record { scripts = script_views c.args.scripts.now; base = base; holding = None; limit = 0 } in
    (c.in_ok-session.ensures story refl).steps actors stands
