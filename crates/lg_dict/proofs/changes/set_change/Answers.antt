use Rattle.std.proofs.Common.{Some}
use Rattle.lg_dict.proofs.Lookups.{at_text-written}
use Rattle.lg_dict.proofs.changes.set_change.Goals as goal

-- what is written through the look-up stands at the word alone
pub returns : goal.returns
returns c = at_text-written c.args.words.now (c.get_mut.follows.lender c.args.change) c.args.word.now (Some c.args.change) ((c.get_mut.follows.holds c.args.change).3 c.requires)
