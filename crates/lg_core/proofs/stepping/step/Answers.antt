use Rattle.std.proofs.Common.{sym, subst}
use Rattle.lg_core.specs.declared.event.Event.{Event}
use Rattle.lg_core.specs.declared.event.Event.TheVariants.{Look, Learn, Publish, More}
use Rattle.lg_script.specs.Commands.{script_views}
use Rattle.lg_core.specs.Core.{IsStep}
use Rattle.lg_core.proofs.Cores.{stepped_core, kept_on}
use Rattle.lg_core.proofs.stepping.step.Goals as goal

pub returns-in-Look-clause-kept : goal.returns-in-Look-clause-kept
returns-in-Look-clause-kept c =
    kept_on c.place_laws.ensures.edits (script_views c.args.scripts.now) c.args.base.now c.requires.scripts c.args.core.now c.requires.core (Look c.in-Look.session) c.look.new.core c.look.result c.look.ensures.done

pub returns-in-Learn-clause-done : goal.returns-in-Learn-clause-done
returns-in-Learn-clause-done c =
    subst (λ (e : Event). IsStep (script_views c.args.scripts.now) c.args.base.now c.args.core.now e c.learn.new.core c.learn.result) (sym c.in-Learn.is) (c.learn.ensures c.args.base.now)

pub returns-in-Learn-clause-kept : goal.returns-in-Learn-clause-kept
returns-in-Learn-clause-kept c =
    stepped_core c.place_laws.ensures.edits (script_views c.args.scripts.now) c.args.base.now c.requires.scripts c.args.core.now c.requires.core (Learn c.in-Learn.session) c.learn.new.core c.learn.result (c.learn.ensures c.args.base.now)

pub returns-in-Publish-clause-kept : goal.returns-in-Publish-clause-kept
returns-in-Publish-clause-kept c =
    kept_on c.place_laws.ensures.edits (script_views c.args.scripts.now) c.args.base.now c.requires.scripts c.args.core.now c.requires.core (Publish c.in-Publish.session) c.publish.new.core c.publish.result c.publish.ensures.done

pub returns-in-More-clause-done : goal.returns-in-More-clause-done
returns-in-More-clause-done c =
    subst (λ (e : Event). IsStep (script_views c.args.scripts.now) c.args.base.now c.args.core.now e c.more.new.core c.more.result) (sym c.in-More.is) (c.more.ensures c.args.base.now)

pub returns-in-More-clause-kept : goal.returns-in-More-clause-kept
returns-in-More-clause-kept c =
    stepped_core c.place_laws.ensures.edits (script_views c.args.scripts.now) c.args.base.now c.requires.scripts c.args.core.now c.requires.core (More c.in-More.session) c.more.new.core c.more.result (c.more.ensures c.args.base.now)
