use Rattle.std.proofs.Common.{◌+◌, [], ◌∷◌, ◌++◌, subst, arith}
use Rattle.std.proofs.lemmas.List.{length_push}
use Rattle.lg_answer.specs.Candidates.{HasPassed}
use Rattle.lg_answer.proofs.Coming.{same_after, behind_so_many, behind_all}
use Rattle.lg_answer.proofs.page.skip.Goals as goal

-- one more is behind
pub loop-preserved : goal.loop-preserved
loop-preserved c =
    let old = c.loop.invariant in
    let front = old.stands.0 in
    let passed = subst (HasPassed c.args.know.now c.pass_over.new.course front) c.if-not-branch.false (c.in_ok-pass_over.ensures.passed front old.stands.1) in
    let before = old.stands.1.position in
    let after = passed.1.position in
    let place = old.position in
    record {
      stands = (front ++ passed.0 ∷ [], passed.1);
      position = omega (arith, length_push front passed.0);
      same = same_after c.args.course.now c.loop.course c.pass_over.new.course old.same c.in_ok-pass_over.ensures.same;
    }

pub returns-clause-behind : goal.returns-clause-behind
returns-clause-behind c =
    let stands = c.loop.invariant.stands in
    let place = c.loop.invariant.position in
    behind_so_many c.args.know.now c.args.course.now c.loop.course c.loop.invariant.same (c.args.course.now.position + c.args.n) stands.0 stands.1 (omega arith)

-- none is left
pub returns-then-not-branch-clause-stands : goal.returns-then-not-branch-clause-stands
returns-then-not-branch-clause-stands c =
    let stands = c.loop.invariant.stands in
    let last = subst (HasPassed c.args.know.now c.pass_over.new.course stands.0) c.if-not-branch.true (c.in_ok-pass_over.ensures.passed stands.0 stands.1) in
    (stands.0, last.0)

pub returns-then-not-branch-clause-behind : goal.returns-then-not-branch-clause-behind
returns-then-not-branch-clause-behind c =
    let old = c.loop.invariant in
    let front = old.stands.0 in
    let last = subst (HasPassed c.args.know.now c.pass_over.new.course front) c.if-not-branch.true (c.in_ok-pass_over.ensures.passed front old.stands.1) in
    let same = same_after c.args.course.now c.loop.course c.pass_over.new.course old.same c.in_ok-pass_over.ensures.same in
    let before = old.stands.1.position in
    let after = last.0.position in
    let place = old.position in
    behind_all c.args.know.now c.args.course.now c.pass_over.new.course same (c.args.course.now.position + c.args.n) front last (omega arith)
