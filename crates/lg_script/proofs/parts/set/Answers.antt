use Rattle.std.proofs.Common.{codes, Err, refl}
use Rattle.lg_gram.specs.EntryViews.{entry_view}
use Rattle.lg_script.specs.Commands.{Fault, CommandIs, set, no_set, no_entry, other_items}
use Rattle.lg_script.proofs.Commanded.{fails, refused}
use Rattle.lg_script.proofs.parts.set.Goals as goal

pub returns-then-are_words : goal.returns-then-are_words
returns-then-are_words c = set c.args.rest.now (entry_view c.in-Ok.entry) c.in-Ok.ensures (c.are_words.ensures.0 c.if-are_words.true)

pub returns-else-are_words : goal.returns-else-are_words
returns-else-are_words c = (refl, no_set c.args.rest.now (other_items (entry_view c.in-Ok.entry) c.in-Ok.ensures (fails c.are_words.result c.are_words.ensures c.if-are_words.false)))

pub returns-in-Err : goal.returns-in-Err
returns-in-Err c = refused c.args.rest.now c.args.line (λ (f : Fault). CommandIs (codes "set") c.args.rest.now (Err f)) c.in-Err.error c.refusal.result c.in-Err.ensures c.refusal.ensures (λ is. no_set c.args.rest.now (no_entry c.in-Err.error is))
