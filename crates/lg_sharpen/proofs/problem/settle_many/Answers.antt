use Rattle.lg_sharpen.proofs.Pruned.{keeps_all}
use Rattle.lg_sharpen.proofs.problem.settle_many.Goals as goal

pub returns-then-len-lt-SMALL : goal.returns-then-len-lt-SMALL
returns-then-len-lt-SMALL c = keeps_all c.members_go_by_rounds.ensures c.args.words c.args.most c.args.members.now.items
