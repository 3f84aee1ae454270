use Rattle.std.proofs.Common.{◌≡◌, ◌-◌, length, List}
use Rattle.lg_gram.specs.Linkages.{Linkage}
use Rattle.lg_knowread.specs.declared.knowledge.Knowledge.{Knowledge}
use Rattle.lg_answer.specs.Candidates.{HasCome, IsSameCourse}
use Rattle.lg_answer.proofs.course.Course.advance.Given as goal

-- the same candidates are behind, now of a higher level
abbrev pub invariant-levels : goal.invariant-levels
invariant-levels l = record {
  come : (know : Knowledge) (front : List Linkage) → HasCome know l.fn.self front → HasCome know l.self front;
  position : l.self.position ≡ l.fn.self.position;
  same : IsSameCourse l.fn.self l.self;
}

abbrev pub decreases-levels : goal.decreases-levels
decreases-levels l = length l.self.problem - l.self.level
