use Rattle.lg_sharpen.proofs.Tables.{open_not, open_added}
use Rattle.lg_sharpen.proofs.table.push_open.Goals as goal

pub returns-then-not-are_open : goal.returns-then-not-are_open
returns-then-not-are_open c = open_not c.args.position c.args.sites.now c.args.table.now c.are_open.result c.are_open.ensures c.if-not-are_open.true

pub returns : goal.returns
returns c = open_added c.args.position c.args.sites.now c.args.table.now c.push_sites.new.table c.in_ok-push_sites.ensures
