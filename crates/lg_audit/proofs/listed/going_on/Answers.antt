use Rattle.std.proofs.Common.{ℕ, List, refl, ap, sym, subst, ◌∙◌}
use Rattle.lg_gram.specs.Linkages.{Linkage}
use Rattle.lg_audit.specs.Lines.{ShownPage}
use Rattle.lg_audit.specs.Replies.{IsPageOf}
use Rattle.lg_audit.proofs.Singles.{when_some, when_none}
use Rattle.lg_audit.proofs.listed.going_on.Goals as goal

pub returns-in_default-2 : goal.returns-in_default-2
returns-in_default-2 c = λ before rise last shown is.
    let same = c.in-Ok.ensures.cases.0 ∙ c.bytes.ensures in
    when_none _ _ c.in_ok-shown.field-0 c.in_default-2.is (c.in_ok-shown.ensures.exact before rise (c.as_ref.ensures.value ∙ last)) shown
    (subst (λ (t : List ℕ). IsPageOf c.args.know.now c.args.view.now t c.args.from before shown c.args.page.now) (sym same) is)

pub returns : goal.returns
returns c = λ before rise last.
    let same = c.in-Ok.ensures.cases.0 ∙ c.bytes.ensures in
    let page = when_some _ _ c.in_ok-shown.field-0 _ c.in-Some.is (c.in_ok-shown.ensures.exact before rise (c.as_ref.ensures.value ∙ last)) in
    record {
      shown = c.in-Some.shown.items;
      just = record {
        is = subst (λ (t : List ℕ). IsPageOf c.args.know.now c.args.view.now t c.args.from before c.in-Some.shown.items c.args.page.now) same page;
        only = λ other is.
            when_some _ _ c.in_ok-shown.field-0 _ c.in-Some.is
            (c.in_ok-shown.ensures.only before other (subst (λ (t : List ℕ). IsPageOf c.args.know.now c.args.view.now t c.args.from before other c.args.page.now) (sym same) is));
      };
      text_is = refl;
      next = ap (λ (q : ShownPage). q.last.next) c.page.view_is;
      last = c.last_shown-last.ensures before last;
    }
