use Rattle.std.proofs.Common.{length, arith, ap, sym}
use Rattle.std.proofs.lemmas.Result.{IfOk-weaker}
use Rattle.lg_edit.specs.Edits.{edit_view}
use Rattle.lg_session.specs.Learning as walk
use Rattle.lg_session.specs.Learning.{Known, Learns, Accepts}
use Rattle.lg_script.specs.Commands.{script_views}
use Rattle.lg_session.proofs.Learned.{learns_nothing, learns_code, learns_more, one_longer, no_shorter, still_fresh, walks_code, walks_past, up_more, refused_so}
use Rattle.lg_session.proofs.edits.publish.Goals as goal

pub loop-init : goal.loop-init
loop-init c =
    let scripts = script_views c.args.scripts.now in
    let before : Known = (c.args.pass.now, c.args.view.now) in
    (learns_nothing scripts before, walk.rests before, omega arith, (λ some. absurd (omega (arith, some))))

pub returns-in-Err : goal.returns-in-Err
returns-in-Err c =
    let scripts = script_views c.args.scripts.now in
    let before : Known = (c.args.pass.now, c.args.view.now) in
    let here : Known = (c.loop.pass, c.loop.view) in
    let up : Known = (c.catch_up.new.pass, c.catch_up.new.view) in
    IfOk-weaker c.refuse.result _ _ (λ reply told. refused_so scripts before up (edit_view c.args.edit.now) c.in-Err.cause c.args.code reply (up_more scripts (Accepts (edit_view c.args.edit.now)) before here up c.loop.invariant.0 c.loop.invariant.1 c.in_ok-catch_up.ensures) c.in-Err.ensures told)
    c.refuse.ensures

pub publish-requires-clause-fresh : goal.publish-requires-clause-fresh
publish-requires-clause-fresh c =
    let scripts = script_views c.args.scripts.now in
    let before : Known = (c.args.pass.now, c.args.view.now) in
    let here : Known = (c.loop.pass, c.loop.view) in
    let up : Known = (c.catch_up.new.pass, c.catch_up.new.view) in
    still_fresh scripts before up c.args.code (learns_more scripts before here up c.loop.invariant.0 c.in_ok-catch_up.ensures.learns) c.requires.carried c.requires.fresh

pub returns-in_default-publish : goal.returns-in_default-publish
returns-in_default-publish c =
    let scripts = script_views c.args.scripts.now in
    let before : Known = (c.args.pass.now, c.args.view.now) in
    let here : Known = (c.loop.pass, c.loop.view) in
    let up : Known = (c.catch_up.new.pass, c.catch_up.new.view) in record {
      then = up;
      learns = learns_more scripts before here up c.loop.invariant.0 c.in_ok-catch_up.ensures.learns;
      walks = walks_past scripts (Accepts (edit_view c.args.edit.now)) before here up c.loop.invariant.1 c.in_ok-catch_up.ensures (sym c.in_default.ensures);
      accepted = sym c.in_default.ensures;
      published = c.in_default-publish.ensures.published;
      made = c.in_ok-apply.ensures.made;
      newest = ap length c.seen.ensures.seen;
    }

pub loop-preserved : goal.loop-preserved
loop-preserved c =
    let scripts = script_views c.args.scripts.now in
    let before : Known = (c.args.pass.now, c.args.view.now) in
    let here : Known = (c.loop.pass, c.loop.view) in
    let up : Known = (c.catch_up.new.pass, c.catch_up.new.view) in
    let then : Known = (c.publish.new.self, c.learn.new.view) in
    let found = c.in-Some.ensures in
    let over = Accepts (edit_view c.args.edit.now) in
    let caught : Learns scripts here up = c.in_ok-catch_up.ensures.learns in (
      learns_more scripts before up then (learns_more scripts before here up c.loop.invariant.0 caught) (learns_code scripts up then c.in-Some.other found.next found.other.1 c.in_ok-learn.ensures),
      walks_code scripts over before up then c.in-Some.other (walks_past scripts over before here up c.loop.invariant.1 c.in_ok-catch_up.ensures (sym c.in_default.ensures)) found.next found.other.1 c.in_ok-learn.ensures,
      omega (arith, c.loop.invariant.2, no_shorter scripts here up caught, one_longer scripts up then c.in-Some.other found.next),
      (λ _. found.few),
    )
