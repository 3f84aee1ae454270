use Rattle.std.proofs.Common.{codes, Err, refl}
use Rattle.lg_gram.specs.EntryViews.{entry_view}
use Rattle.lg_script.specs.Commands.{Fault, CommandIs, macro, no_macro, no_entry, other_items}
use Rattle.lg_script.proofs.Commanded.{fails, refused}
use Rattle.lg_script.proofs.parts.set_macro.Goals as goal

pub returns-then-is_one_macro : goal.returns-then-is_one_macro
returns-then-is_one_macro c = macro c.args.rest.now (entry_view c.in-Ok.entry) c.in-Ok.ensures (c.is_one_macro.ensures.0 c.if-is_one_macro.true)

pub returns-else-is_one_macro : goal.returns-else-is_one_macro
returns-else-is_one_macro c = (refl, no_macro c.args.rest.now (other_items (entry_view c.in-Ok.entry) c.in-Ok.ensures (fails c.is_one_macro.result c.is_one_macro.ensures c.if-is_one_macro.false)))

pub returns-in-Err : goal.returns-in-Err
returns-in-Err c = refused c.args.rest.now c.args.line (λ (f : Fault). CommandIs (codes "macro") c.args.rest.now (Err f)) c.in-Err.error c.refusal.result c.in-Err.ensures c.refusal.ensures (λ is. no_macro c.args.rest.now (no_entry c.in-Err.error is))
