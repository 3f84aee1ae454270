use Rattle.std.proofs.Common.{◌∙◌, Some, sym}
use Rattle.lg_fewest.proofs.Whole.{first_none}
use Rattle.lg_fewest.proofs.sentence.begin_at.Goals as goal

pub returns-in-None-clause-lowers : goal.returns-in-None-clause-lowers
returns-in-None-clause-lowers c = first_none c.args.lists.now c.args.first (Some c.args.most) (sym c.right_of.ensures ∙ c.in-None.is)

pub begin_before-requires-clause-behind : goal.begin_before-requires-clause-behind
begin_before-requires-clause-behind c = sym c.right_of.ensures ∙ c.in-Some.is
