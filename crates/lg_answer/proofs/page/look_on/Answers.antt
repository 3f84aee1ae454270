use Rattle.std.proofs.Common.{◌≡◌, ◌↔◌, ◌+◌, ◌<◌, true, length, refl, sym, ap, subst, arith}
use Rattle.std.proofs.lemmas.List.{length_push}
use Rattle.lg_pp.specs.Breaks.{Judges}
use Rattle.lg_answer.specs.Candidates.{Decides, IsNextOf}
use Rattle.lg_answer.specs.Pages.{passed}
use Rattle.lg_answer.specs.Steps.{IsLookedAt, HasLooked}
use Rattle.lg_answer.proofs.Coming.{same_after}
use Rattle.lg_answer.proofs.Looking.{one_looked_at, looked_at_all, passed_push, passes_once}
use Rattle.lg_answer.proofs.page.look_on.Goals as goal

-- one candidate more
pub loop-looked-preserved : goal.loop-looked-preserved
loop-looked-preserved c =
    let know = c.args.know.now in
    let old = c.loop-looked.invariant in
    let front = old.looking.0 in
    let items = c.loop-looked.items.items in
    let item = c.in_ok-item.item in
    let g = c.in-Some.linkage in
    let mid = c.advance.new.self in
    let but = subst (IsNextOf know mid front) c.in-Some.is (c.in_ok-linkage.ensures.next know front old.looking.1) in
    let here = subst (λ n. IsLookedAt know (c.position-from.result + n + 1) g item) (sym old.length_is) c.in_ok-item.ensures in
    let judged = subst (λ l. Judges know l item.broken) (sym here.linkage) here.judged in
    let tells = subst (λ n. (c.decides_item.result ≡ true) ↔ Decides n know item.linkage) c.nulls.ensures (c.decides_item.ensures know judged) in
    let wanted : passed items < c.args.want = omega arith in
    let unseen : length items < c.args.examine = omega arith in
    let count : c.loop-looked.passed + c.pass_count-passed.result ≡ passed c.push.new.self.items = omega (arith, c.pass_count-passed.ensures, ap passed c.in_ok-push.ensures.items, passed_push items item) in
    record {
      looking = rw c.in_ok-push.ensures.items
          (one_looked_at know mid c.note.new.self front c.position-from.result c.args.want c.args.examine items item g c.decides_item.result but old.looking.2 here wanted unseen c.note.ensures tells);
      length_is = omega (arith, ap length c.in_ok-push.ensures.items, length_push items item);
      from_is = old.from_is;
      passed_is = count;
      few = omega (arith, c.pass_count-passed.ensures, passes_once item);
      same = same_after c.args.course.now mid c.note.new.self (same_after c.args.course.now c.loop-looked.course mid old.same c.in_ok-linkage.ensures.same)
          (rw c.note.ensures (record { problem = refl; nulls = refl }));
    }

-- none is left
pub returns-in_default-clause-looked : goal.returns-in_default-clause-looked
returns-in_default-clause-looked c =
    let know = c.args.know.now in
    let old = c.loop-looked.invariant in
    let front = old.looking.0 in
    let items = c.loop-looked.items.items in
    let last = subst (IsNextOf know c.advance.new.self front) c.in_default.is (c.in_ok-linkage.ensures.next know front old.looking.1) in
    subst (λ n. HasLooked know c.advance.new.self n c.args.want c.args.examine items true) old.from_is
    (looked_at_all know c.advance.new.self front c.position-from.result c.args.want c.args.examine items last old.looking.2 (omega arith) (omega arith))
