use Rattle.lg_dictread.proofs.Lookups.{found_is, added_is, lookups_are}
use Rattle.lg_dictread.proofs.table.add.Goals as goal

pub returns-clause-found : goal.returns-clause-found
returns-clause-found g c = found_is c.args.table.now c.insert.new.self c.in_ok-key.key c.args.name.now c.args.value c.in_ok-key.ensures c.in_ok-insert.field-0 c.in_ok-insert.ensures.old

pub returns-clause-added : goal.returns-clause-added
returns-clause-added g c = added_is c.args.table.now c.insert.new.self c.in_ok-key.key c.args.name.now c.args.value c.in_ok-key.ensures c.in_ok-insert.field-0 c.in_ok-insert.ensures.old c.in_ok-insert.ensures.entries

pub returns-clause-lookups : goal.returns-clause-lookups
returns-clause-lookups g c = lookups_are c.args.table.now c.insert.new.self c.in_ok-key.key c.args.name.now c.args.value c.in_ok-key.ensures c.in_ok-insert.ensures.updates
