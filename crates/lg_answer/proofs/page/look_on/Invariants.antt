use Rattle.std.proofs.Common.{◌≡◌, ◌≤◌, List, length}
use Rattle.lg_gram.specs.Linkages.{Linkage}
use Rattle.lg_answer.specs.Candidates.{HasCome, IsSameCourse}
use Rattle.lg_answer.specs.Pages.{passed}
use Rattle.lg_answer.specs.Steps.{AreLookedAt}
use Rattle.lg_answer.proofs.page.look_on.Given as goal

abbrev pub invariant-loop-looked : goal.invariant-loop-looked
invariant-loop-looked l = record {
  looking : (front : List Linkage) × HasCome l.know l.course front × AreLookedAt l.know front l.from l.want l.examine l.items.items;
  length_is : length l.items.items ≡ l.looked;
  from_is : l.from ≡ l.fn.course.position;
  passed_is : l.passed ≡ passed l.items.items;
  few : l.passed ≤ l.want;
  same : IsSameCourse l.fn.course l.course;
}
