use Rattle.std.proofs.Common.{◌≡◌, ◌+◌, List, None, refl, ap, arith}
use Rattle.lg_script.specs.Commands.{command_view, script_views}
use Rattle.lg_core.specs.declared.event.Event.TheVariants.{Learn}
use Rattle.lg_core.specs.declared.state.Actor.{Actor}
use Rattle.lg_core.specs.declared.state.Core.{Core}
use Rattle.lg_core.specs.Core as happens
use Rattle.lg_core.specs.Core.{with_actor}
use Rattle.lg_core.proofs.Outcomes.{as_it_is}
use Rattle.lg_core.proofs.stepping.learn.Goals as goal

pub returns : goal.returns
returns c = λ base.
    let core = c.args.core.now in
    let s = c.args.session in
    let a = c.in-Some.actor in
    let after : Core = record { history = core.history; actors = c.set.new.self } in
    let same : after ≡ with_actor core s (record a { seen = a.seen + 1 }) = ap (λ (l : List Actor). record { history = core.history; actors = l }) c.set.ensures in
    as_it_is (script_views c.args.scripts.now) base core (Learn s) after _ None None (same, refl)
    (happens.learns s a (command_view c.in-Some.field-0-1.now) c.in-Some.ensures (omega (arith, c.if-actor-version.false, c.version.ensures)))
