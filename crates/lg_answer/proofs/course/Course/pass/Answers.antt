use Rattle.lg_answer.proofs.Coming.{passed_one}
use Rattle.lg_answer.proofs.course.Course.pass.Goals as goal

pub returns-clause-passed : goal.returns-clause-passed
returns-clause-passed c = λ know front come.
    passed_one know c.args.self.now c.pass_of_level.new.self front come c.requires.decided c.in_ok-there.there c.in_ok-there.ensures.next c.in_ok-there.ensures.moved
