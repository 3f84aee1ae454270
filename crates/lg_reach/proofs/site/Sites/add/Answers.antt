use Rattle.std.proofs.lemmas.Result.{on_ok_weaker}
use Rattle.lg_reach.proofs.Adding.{kept_left, kept_right}
use Rattle.lg_reach.proofs.site.Sites.add.Goals as goal

pub returns-then-is_right-clause-keeps : goal.returns-then-is_right-clause-keeps
returns-then-is_right-clause-keeps c = on_ok_weaker c.push.result (λ a. kept_right c.args.self.now c.push.new.self a.kept) c.push.ensures.added

pub returns-else-is_right-clause-keeps : goal.returns-else-is_right-clause-keeps
returns-else-is_right-clause-keeps c = on_ok_weaker c.push-else-is_right.result (λ a. kept_left c.args.self.now c.push-else-is_right.new.self a.kept) c.push-else-is_right.ensures.added
