use Rattle.lg_script.specs.Commands.{script_views}
use Rattle.lg_audit.proofs.Brought.{one_later}
use Rattle.lg_audit.proofs.dated.learn_all.Goals as goal

pub loop-place-preserved : goal.loop-place-preserved
loop-place-preserved c =
    one_later (script_views c.args.scripts.now) c.args.view.now c.loop-place.view c.learn.new.view c.args.places.now c.loop-place.place-index _ c.loop-place-test.true c.loop-place.invariant c.in_ok-learn.ensures
