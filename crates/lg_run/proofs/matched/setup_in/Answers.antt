use Rattle.std.proofs.Common.{◌∙◌, sym, codes}
use Rattle.lg_run.proofs.OneTask.{same_values}
use Rattle.lg_run.proofs.matched.setup_in.Goals as goal

-- each value by its own name
pub returns : goal.returns
returns c = λ settings setup told given.
    let usual = c.default-usual.ensures in
    let stats = c.switch_or-stats.ensures setup.look.stats (rw (c.get_str.ensures, told (codes "stats"), usual) given.stats) in
    let want = c.number_or.ensures setup.listing.want (rw (c.get_str-2.ensures, told (codes "want"), usual) given.want) in
    let examine = c.number_or-2.ensures setup.listing.examine (rw (c.get_str-3.ensures, told (codes "examine"), usual) given.examine) in
    let nulls = c.nulls_or.ensures setup.listing.nulls (rw (c.get_str-4.ensures, told (codes "nulls"), usual) given.nulls) in
    let prune = c.switch_or.ensures setup.listing.prune (rw (c.get_str-5.ensures, told (codes "prune"), usual) given.prune) in
    let workers = c.workers_or.ensures setup.listing.workers (rw (c.get_str-6.ensures, told (codes "workers"), usual) given.workers) in
    let idioms = c.switch_or-2.ensures setup.listing.idioms (rw (c.get_str-7.ensures, told (codes "idioms"), usual) given.idioms) in
    let diagram = c.switch_or-3.ensures setup.look.diagram (rw (c.get_str-8.ensures, told (codes "diagram"), usual) given.diagram) in
    let usage = c.switch_or-4.ensures setup.usage (rw (c.get_str-9.ensures, told (codes "usage"), usual) given.usage) in
    same_values _ setup want examine nulls prune (stats ∙ sym given.count) workers idioms diagram stats usage
