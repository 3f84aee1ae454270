use Rattle.lg_edit.proofs.Accepted.{accepted_formula}
use Rattle.lg_gram.specs.EntryViews.{entry_view}
use Rattle.lg_edit.proofs.applying.entry_formula.Goals as goal

pub filled_formula-requires : goal.filled_formula-requires
filled_formula-requires c = accepted_formula c.args.view.now (entry_view c.args.entry.now) c.requires.bounds c.macros_fit.ensures c.requires.accepted
