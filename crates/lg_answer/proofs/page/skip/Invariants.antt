use Rattle.std.proofs.Common.{◌≡◌, ◌+◌}
use Rattle.lg_answer.specs.Candidates.{StandsFor, IsSameCourse}
use Rattle.lg_answer.proofs.page.skip.Given as goal

abbrev pub invariant-loop : goal.invariant-loop
invariant-loop l = record {
  stands : StandsFor l.know l.course;
  position : l.course.position ≡ l.fn.course.position + l.counter;
  same : IsSameCourse l.fn.course l.course;
}
