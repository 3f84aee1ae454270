use Rattle.std.proofs.Common.{◌≡◌, ◌↔◌, true, refl, subst}
use Rattle.lg_answer.specs.Candidates.{Decides, IsNextOf}
use Rattle.lg_answer.proofs.Coming.{noted, same_after}
use Rattle.lg_answer.proofs.page.pass_over.Goals as goal

pub returns-then-is_decided-clause-passed : goal.returns-then-is_decided-clause-passed
returns-then-is_decided-clause-passed c = λ front come. c.pass.ensures.passed c.args.know.now front come

-- none is left
pub returns-in_default-clause-passed : goal.returns-in_default-clause-passed
returns-in_default-clause-passed c = λ front come.
    subst (IsNextOf c.args.know.now c.advance.new.self front) c.in_default.is (c.in_ok-linkage.ensures.next c.args.know.now front come)

pub returns-clause-passed : goal.returns-clause-passed
returns-clause-passed c = λ front come.
    let know = c.args.know.now in
    let mid = c.advance.new.self in
    let g = c.in-Some.linkage in
    let but = subst (IsNextOf know mid front) c.in-Some.is (c.in_ok-linkage.ensures.next know front come) in
    let tells = subst (λ n. (c.in_ok-decides.decides ≡ true) ↔ Decides n know g) c.nulls.ensures c.in_ok-decides.ensures in
    (g, noted know mid c.note.new.self front g c.in_ok-decides.decides c.note.ensures tells but)

pub returns-clause-same : goal.returns-clause-same
returns-clause-same c =
    same_after c.args.course.now c.advance.new.self c.note.new.self c.in_ok-linkage.ensures.same (rw c.note.ensures (record { problem = refl; nulls = refl }))
