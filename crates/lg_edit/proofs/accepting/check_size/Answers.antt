use Rattle.std.proofs.Common.{sym, ◌∙◌, arith}
use Rattle.lg_edit.proofs.Accepted.{level_counted, refused_deep, not_deep}
use Rattle.lg_gram.specs.EntryViews.{entry_view}
use Rattle.lg_edit.proofs.accepting.check_size.Goals as goal

pub returns-then-level-gt-LEVEL : goal.returns-then-level-gt-LEVEL
returns-then-level-gt-LEVEL c =
    let level = level_counted c.args.view.now (entry_view c.args.entry.now) c.requires c.macros_fit.ensures c.filled_level-level.result c.filled_level-level.ensures in
    refused_deep c.args.view.now (entry_view c.args.entry.now) c.requires c.macros_fit.ensures c.filled_level-level.result level (omega arith)

pub returns : goal.returns
returns c =
    let level = level_counted c.args.view.now (entry_view c.args.entry.now) c.requires c.macros_fit.ensures c.filled_level-level.result c.filled_level-level.ensures in
    c.check_measures.ensures ∙ sym (not_deep c.args.view.now (entry_view c.args.entry.now) c.requires c.macros_fit.ensures c.filled_level-level.result level (omega arith))
