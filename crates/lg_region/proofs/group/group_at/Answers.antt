use Rattle.lg_region.proofs.Expanding.{run_group, run_is}
use Rattle.lg_region.proofs.group.group_at.Goals as goal

pub returns-clause-later : goal.returns-clause-later
returns-clause-later c =
    (run_is c.args.lists.now c.args.gap.now.lead c.args.word c.args.from c.run_end-to.result c.sides-left.result c.requires.listed c.requires.led c.sides-left.ensures c.run_end-to.ensures).later

pub returns-clause-led : goal.returns-clause-led
returns-clause-led c =
    (run_is c.args.lists.now c.args.gap.now.lead c.args.word c.args.from c.run_end-to.result c.sides-left.result c.requires.listed c.requires.led c.sides-left.ensures c.run_end-to.ensures).led

pub returns-clause-group : goal.returns-clause-group
returns-clause-group c =
    let run = run_is c.args.lists.now c.args.gap.now.lead c.args.word c.args.from c.run_end-to.result c.sides-left.result c.requires.listed c.requires.led c.sides-left.ensures c.run_end-to.ensures in
    run_group c.args.lists.now c.args.gap.now c.args.word c.args.from c.run_end-to.result c.sides-left.result c.requires.after c.requires.before c.requires.listed c.requires.led run.led c.sides-left.ensures run.same
