use Rattle.std.proofs.Common.{sym, ap, ◌∙◌, subst}
use Rattle.lg_gram.specs.Rules.{Good}
use Rattle.lg_answer.specs.Candidates.{Course}
use Rattle.lg_answer.proofs.Coming.{found_next, found_good, spent, unmoved, falls, not_last, all_behind, rises}
use Rattle.lg_answer.proofs.course.Course.advance.Goals as goal

-- the next of the level
pub returns-in-Some-clause-next : goal.returns-in-Some-clause-next
returns-in-Some-clause-next c = λ know front came.
    found_next know c.levels.self c.next_of_level.new.self front (c.levels.invariant.come know front came) c.in_ok-linkage.field-0 c.in_ok-linkage.ensures.next c.in-Some.linkage c.in-Some.is c.in_ok-linkage.ensures.moved

pub returns-in-Some-clause-good : goal.returns-in-Some-clause-good
returns-in-Some-clause-good c =
    let stands = c.requires.stands in
    let come = c.levels.invariant.come stands.0 stands.1.0 stands.1.1 in
    subst (λ p. Good p c.in-Some.linkage) c.levels.invariant.same.problem
    (found_good stands.0 c.levels.self c.next_of_level.new.self stands.1.0 come c.in_ok-linkage.field-0 c.in_ok-linkage.ensures.next c.in-Some.linkage c.in-Some.is)

-- no candidate is left
pub returns-then-is_decided-clause-next : goal.returns-then-is_decided-clause-next
returns-then-is_decided-clause-next c = λ know front came.
    let new = c.next_of_level.new.self in
    let found = c.in_ok-linkage.field-0 in
    let same = unmoved c.levels.self new found c.in-None.is c.in_ok-linkage.ensures.moved in
    let still = spent know c.levels.self new front (c.levels.invariant.come know front came) found c.in_ok-linkage.ensures.next c.in-None.is same in
    (still.0, all_behind know new front still.0 still.1 (sym c.is_decided.ensures ∙ c.if-is_decided.true))

-- none of the level decides
pub rise-requires-clause-level : goal.rise-requires-clause-level
rise-requires-clause-level c =
    let stands = c.requires.stands in
    let found = c.in_ok-linkage.field-0 in
    let same = unmoved c.levels.self c.next_of_level.new.self found c.in-None.is c.in_ok-linkage.ensures.moved in
    not_last stands.0 c.levels.self c.next_of_level.new.self stands.1.0 (c.levels.invariant.come stands.0 stands.1.0 stands.1.1) found c.in_ok-linkage.ensures.next c.in-None.is same
    (sym c.is_decided.ensures ∙ c.if-is_decided.false)

pub levels-smaller : goal.levels-smaller
levels-smaller c =
    let stands = c.requires.stands in
    let mid = c.next_of_level.new.self in
    let found = c.in_ok-linkage.field-0 in
    let same = unmoved c.levels.self mid found c.in-None.is c.in_ok-linkage.ensures.moved in
    falls c.levels.self mid c.rise.new.self same c.in_ok-rise-in-None.ensures
    (not_last stands.0 c.levels.self mid stands.1.0 (c.levels.invariant.come stands.0 stands.1.0 stands.1.1) found c.in_ok-linkage.ensures.next c.in-None.is same (sym c.is_decided.ensures ∙ c.if-is_decided.false))

pub levels-preserved : goal.levels-preserved
levels-preserved c =
    let mid = c.next_of_level.new.self in
    let found = c.in_ok-linkage.field-0 in
    let same = unmoved c.levels.self mid found c.in-None.is c.in_ok-linkage.ensures.moved in
    let risen = c.in_ok-rise-in-None.ensures in
    record {
      come = λ know front came.
          let still = spent know c.levels.self mid front (c.levels.invariant.come know front came) found c.in_ok-linkage.ensures.next c.in-None.is same in
          rw risen (rises know mid front still.0 still.1 (sym c.is_decided.ensures ∙ c.if-is_decided.false));
      position = ap (λ (n : Course). n.position) risen ∙ ap (λ (n : Course). n.position) same ∙ c.levels.invariant.position;
      same = record {
        problem = ap (λ (n : Course). n.problem) risen ∙ ap (λ (n : Course). n.problem) same ∙ c.levels.invariant.same.problem;
        nulls = ap (λ (n : Course). n.nulls) risen ∙ ap (λ (n : Course). n.nulls) same ∙ c.levels.invariant.same.nulls;
      };
    }
