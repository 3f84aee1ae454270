use Rattle.std.proofs.Common.{sym, ◌∙◌}
use Rattle.lg_edit.proofs.Accepted.{refused_unknown, all_known}
use Rattle.lg_gram.specs.EntryViews.{entry_view}
use Rattle.lg_edit.proofs.accepting.check_entry.Goals as goal

pub returns-in-Some : goal.returns-in-Some
returns-in-Some c = refused_unknown c.args.view.now (entry_view c.args.entry.now) c.requires c.in-Some.number c.in-Some.ensures

pub returns-in-None : goal.returns-in-None
returns-in-None c = c.check_size.ensures ∙ sym (all_known c.args.view.now (entry_view c.args.entry.now) c.requires c.in-None.ensures)
