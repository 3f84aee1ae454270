use Rattle.std.proofs.Common.{arith, ap}
use Rattle.lg_log.specs.Passes.{Standing}
use Rattle.lg_session.specs.Learning as walk
use Rattle.lg_session.specs.Learning.{Known, Nowhere}
use Rattle.lg_script.specs.Commands.{script_views}
use Rattle.lg_session.proofs.Learned.{learns_nothing, learns_code, learns_more, one_longer, walks_code, up_now}
use Rattle.lg_session.proofs.learning.catch_up.Goals as goal

pub loop-init : goal.loop-init
loop-init c =
    let scripts = script_views c.args.scripts.now in
    let before : Known = (c.args.pass.now, c.args.view.now) in
    (learns_nothing scripts before, walk.rests before, omega arith, (λ some. absurd (omega (arith, some))))

pub returns-in_default : goal.returns-in_default
returns-in_default c =
    let scripts = script_views c.args.scripts.now in
    let before : Known = (c.args.pass.now, c.args.view.now) in
    let here : Known = (c.loop.pass, c.loop.view) in
    let end : Known = (c.look.new.self, c.loop.view) in
    up_now scripts Nowhere before here end c.loop.invariant.0 c.loop.invariant.1 (ap (λ (p : Standing). (p, c.loop.view)) c.in_default.ensures.end)

pub loop-preserved : goal.loop-preserved
loop-preserved c =
    let scripts = script_views c.args.scripts.now in
    let before : Known = (c.args.pass.now, c.args.view.now) in
    let here : Known = (c.loop.pass, c.loop.view) in
    let then : Known = (c.look.new.self, c.learn.new.view) in
    let found = c.in-Some.ensures in (
      learns_more scripts before here then c.loop.invariant.0 (learns_code scripts here then c.in-Some.code found.next found.other.1 c.in_ok-learn.ensures),
      walks_code scripts Nowhere before here then c.in-Some.code c.loop.invariant.1 found.next found.other.1 c.in_ok-learn.ensures,
      omega (arith, c.loop.invariant.2, one_longer scripts here then c.in-Some.code found.next),
      (λ _. found.few),
    )
