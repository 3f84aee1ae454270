use Rattle.lg_run.proofs.Answered.{of_each}
use Rattle.lg_run.proofs.Turned.{may_turn, goes_on}
use Rattle.lg_run.proofs.lister.ListerEngine.more.Goals as goal

-- what is held has come no farther than a page may start
pub page-requires : goal.page-requires
page-requires c = let r = c.requires in may_turn c.args.self.now r.0 r.1 c.args.held r.2 r.3

-- the page after the last
pub returns : goal.returns
returns c = λ dict progress stands. of_each c.page.result _ _ (λ r turns. goes_on c.args.self.now dict progress c.args.held r.0 r.1 r.2 stands turns) c.page.ensures
