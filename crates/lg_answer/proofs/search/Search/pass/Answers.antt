use Rattle.lg_answer.proofs.Searching.{there_of_wide}
use Rattle.lg_answer.proofs.search.Search.pass.Goals as goal

-- what is ranked stands for the problem at this level
pub returns-clause-next : goal.returns-clause-next
returns-clause-next c =
    let ranked = c.self.inside.ranked in
    rw (← c.self.view_is)
    (λ gs front long. there_of_wide ranked.nulls ranked.positions c.self.inside.wide c.self.invariant gs c.in_ok-there.there (λ here. c.in_ok-there.ensures.next gs here long) front)
